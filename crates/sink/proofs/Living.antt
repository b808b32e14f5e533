-- The numbers that are live at a place, one after the other.
use Rattle.std.proofs.Common.{◌≡◌, ◌↔◌, ℕ, zero, suc, ◌+◌, ◌<◌, ◌≤◌, Bool, true, false, ◌⊎◌, inl, inr, ⊎_elim, List, [], ◌∷◌, ◌++◌, length, sym, ◌∙◌, ap, subst, arith}
use Rattle.std.proofs.lemmas.List.Elements.{Contains-append_left, Contains-append_right, Contains-append_cases}
use Rattle.std.proofs.lemmas.Bool.{cases_lt, eq-eqb, eqb-true, cases_Bool}
use Rattle.std.specs.List.{Contains}
use Rattle.std.specs.Prelude.{nat_eq}
use Rattle.bs_bits.specs.Set.{has, HasNoneFrom, IsNext}
use Rattle.dataflow.specs.Rows.{set_in_row}
use Rattle.bs_words.proofs.Lists.{none_in, first_in, later_in, in_cons}
use Rattle.sink.specs.Graphs.{destroys_colours, LivesAt, AreLiving, AreOver}
use Rattle.mach_ir.specs.declared.mach.MachOp.{MachOp}
use Rattle.bs_words.proofs.Truths.{not_both}

-- a number is among these, or it is not
pub decide_in : (n : ℕ) (ks : List ℕ) → Contains ks n ⊎ (Contains ks n → ⊥)
decide_in n [] = inr (λ c. none_in n c)
decide_in n (k ∷ ks) =
    ⊎_elim (λ e. inl (subst (Contains (k ∷ ks)) (eqb-true k n e) (first_in k ks)))
    (λ e.
    ⊎_elim (λ c. inl (later_in k n ks c))
    (λ no. inr (λ c. ⊎_elim (λ same. not_both (nat_eq k n) (eq-eqb k n same) e) no (in_cons k n ks c))) (decide_in n ks))
    (cases_Bool (nat_eq k n))

-- a member is below the size
pub has_within : (set : List Bool) (n : ℕ) → has set n ≡ true → n < length set
has_within [] n e = absurd (not_true e)
  where
    not_true : false ≡ true → ⊥
    not_true e = cc
has_within (b ∷ bs) zero e = omega arith
has_within (b ∷ bs) (suc n) e = let h = has_within bs n e in omega (arith, h)

module _ (rows : List (List Bool)) (p : ℕ) (except : List ℕ) where
  abbrev pub Found : ℕ → List ℕ → Type 0
  Found from found = (n : ℕ) → Contains found n ↔ ((n < from) × LivesAt rows p except n)

  pub found_none : (found : List ℕ) → found ≡ [] → Found 0 found
  found_none found e = λ n. (
    λ c. absurd (none_in n (subst (λ xs. Contains xs n) e c)),
    λ h. let lt = h.0 in absurd (omega (arith, lt)),
  )

  below : (a b n : ℕ) → a ≤ b → n < a → n < b
  below a b n le lt = omega (arith, le, lt)

  pub found_end : (set : List Bool) (from bound : ℕ) (found : List ℕ) → set ≡ set_in_row rows p → from ≤ bound → HasNoneFrom set from → Found from found →
      Found bound found
  found_end set from bound found e le none old = λ n. (
    λ c. let x = (old n).0 c in (below from bound n le x.0, x.1),
    λ h.
        ⊎_elim (λ lt. (old n).1 (lt, h.1))
        (λ ge. absurd (not_both (has set n) (ap (λ s. has s n) e ∙ (h.1).live) (none n ge))) (cases_lt n from),
  )

  -- up to the next member
  up_to : (set : List Bool) (from k n : ℕ) → set ≡ set_in_row rows p → IsNext set from k → n < k + 1 → LivesAt rows p except n → (n < from) ⊎ (k ≡ n)
  up_to set from k n e next lt lives =
      ⊎_elim (λ h. inl h)
      (λ ge.
      ⊎_elim (λ small. absurd (not_both (has set n) (ap (λ s. has s n) e ∙ lives.live) (next.least n ge small)))
      (λ big. inr (omega (arith, lt, big))) (cases_lt n k)) (cases_lt n from)

  far : (from k n : ℕ) → from ≤ k → n < from → n < k + 1
  far from k n le lt = omega (arith, le, lt)

  last : (n k : ℕ) → k ≡ n → n < k + 1
  last n k e = omega (arith, e)

  pub found_taken : (set : List Bool) (from k : ℕ) (found made : List ℕ) → set ≡ set_in_row rows p → IsNext set from k → (Contains except k → ⊥) →
      Found from found → made ≡ found ++ k ∷ [] → Found (k + 1) made
  found_taken set from k found made e next other old same = λ n. (
    λ c.
        ⊎_elim (λ h. let x = (old n).0 h in (far from k n next.not_below x.0, x.1))
        (λ h.
        ⊎_elim (λ s. (last n k s, subst (LivesAt rows p except) s (record { live = sym (ap (λ s. has s k) e) ∙ next.member; other = other })))
        (λ d. absurd (none_in n d)) (in_cons k n [] h))
        (Contains-append_cases found (k ∷ []) n (subst (λ xs. Contains xs n) same c)),
    λ h.
        subst (λ xs. Contains xs n) (sym same)
        (⊎_elim (λ lt. Contains-append_left found (k ∷ []) n ((old n).1 (lt, h.1)))
        (λ s. Contains-append_right found (k ∷ []) n (subst (λ n. Contains (k ∷ []) n) s (first_in k []))) (up_to set from k n e next h.0 h.1)),
  )

  pub found_passed : (set : List Bool) (from k : ℕ) (found : List ℕ) → set ≡ set_in_row rows p → IsNext set from k → Contains except k →
      Found from found → Found (k + 1) found
  found_passed set from k found e next one old = λ n. (
    λ c. let x = (old n).0 c in (far from k n next.not_below x.0, x.1),
    λ h.
        ⊎_elim (λ lt. (old n).1 (lt, h.1)) (λ s. absurd ((h.1).other (subst (Contains except) s one)))
        (up_to set from k n e next h.0 h.1),
  )

  pub found_all : (set : List Bool) (from : ℕ) (found : List ℕ) → set ≡ set_in_row rows p → length set ≤ from → Found from found →
      AreLiving rows p except found
  found_all set from found e le old = λ n. (
    λ c. ((old n).0 c).1,
    λ h. (old n).1 (below (length set) from n le (has_within set n (ap (λ s. has s n) e ∙ h.live)), h),
  )

  pub over_held : (f : MachOp) (found : List ℕ) → destroys_colours f ≡ true → AreLiving rows p except found → AreOver rows p f except found
  over_held f found e old = λ n. (λ c. (e, (old n).0 c), λ h. (old n).1 h.1)
