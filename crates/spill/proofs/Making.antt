-- The numbers that live over an instruction, one after the other.
use Rattle.std.proofs.Common.{◌≡◌, ℕ, ◌+◌, ◌<◌, Bool, ◌⊎◌, inl, inr, ⊎_elim, List, [], ◌∷◌, ◌++◌, sym, subst, arith}
use Rattle.std.proofs.lemmas.List.Elements.{Contains-append_left, Contains-append_right, Contains-append_cases}
use Rattle.std.proofs.lemmas.Bool.{cases_lt}
use Rattle.std.specs.List.{Contains}
use Rattle.mach_ir.specs.Meaning.{Everything, destroyed_by}
use Rattle.mach_ir.specs.declared.mach.MachOp.{MachOp}
use Rattle.bs_words.proofs.Lists.{none_in, first_in, in_cons}
use Rattle.spill.specs.Graphs.{LivesUnwritten, AreLivingOver, AreMade}

module _ (rows : List (List Bool)) (after : ℕ) (written : List ℕ) where
  below_or : (n k : ℕ) → n < k + 1 → (n < k) ⊎ (n ≡ k)
  below_or n k lt = ⊎_elim (λ h. inl h) (λ h. inr (omega (arith, lt, h))) (cases_lt n k)

  more : (n k : ℕ) → n < k → n < k + 1
  more n k lt = omega (arith, lt)

  last : (n k : ℕ) → k ≡ n → n < k + 1
  last n k e = omega (arith, e)

  pub over_taken : (k : ℕ) (found made : List ℕ) → AreLivingOver rows after k written found → LivesUnwritten rows after written k →
      made ≡ found ++ k ∷ [] → AreLivingOver rows after (k + 1) written made
  over_taken k found made old lives e = λ n. (
    λ c.
        ⊎_elim (λ h. let x = (old n).0 h in (more n k x.0, x.1))
        (λ h. ⊎_elim (λ s. (last n k s, subst (LivesUnwritten rows after written) s lives)) (λ d. absurd (none_in n d)) (in_cons k n [] h))
        (Contains-append_cases found (k ∷ []) n (subst (λ xs. Contains xs n) e c)),
    λ h.
        subst (λ xs. Contains xs n) (sym e)
        (⊎_elim (λ lt. Contains-append_left found (k ∷ []) n ((old n).1 (lt, h.1)))
        (λ s. Contains-append_right found (k ∷ []) n (subst (λ n. Contains (k ∷ []) n) (sym s) (first_in k []))) (below_or n k h.0)),
  )

  pub over_passed : (k : ℕ) (found : List ℕ) → AreLivingOver rows after k written found → (LivesUnwritten rows after written k → ⊥) →
      AreLivingOver rows after (k + 1) written found
  over_passed k found old not_here = λ n. (
    λ c. let x = (old n).0 c in (more n k x.0, x.1),
    λ h.
        ⊎_elim (λ lt. (old n).1 (lt, h.1)) (λ s. absurd (not_here (subst (LivesUnwritten rows after written) s h.1)))
        (below_or n k h.0),
  )

  pub made_over : (bound : ℕ) (f : MachOp) (found : List ℕ) → destroyed_by f ≡ Everything →
      AreLivingOver rows after bound written found → AreMade rows after bound written f found
  made_over bound f found e old = λ n. (λ c. (e, (old n).0 c), λ h. (old n).1 h.1)
