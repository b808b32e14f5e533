-- More registers than colours: two of them are at one place.
use Rattle.std.proofs.Common.{◌≡◌, ◌≢◌, ℕ, suc, ◌≤◌, Bool, true, false, cond, ⊎_elim, List, [], ◌∷◌, length, refl, sym, ap, ◌∙◌, subst, arith, nat_eq}
use Rattle.std.specs.List.{Contains}
use Rattle.std.proofs.lemmas.Bool.{eq-eqb, eqb-true, both_ways}
use Rattle.bs_words.proofs.Lists.{none_in, first_in, later_in, in_cons}

-- a list without the first item that is this number
abbrev less : ℕ → List ℕ → List ℕ
less n [] = []
less n (x ∷ xs) = cond (nat_eq x n) xs (x ∷ less n xs)

less_long : (n : ℕ) (xs : List ℕ) → Contains xs n → length xs ≡ suc (length (less n xs))
less_long n [] c = absurd (none_in n c)
less_long n (x ∷ xs) c = by (λ d. less_long n xs d) (nat_eq x n) refl
  where
    by : (Contains xs n → length xs ≡ suc (length (less n xs))) → (b : Bool) → nat_eq x n ≡ b → suc (length xs) ≡ suc (length (cond b xs (x ∷ less n xs)))
    by ih true e = refl
    by ih false e =
        ⊎_elim (λ s. absurd (both_ways (nat_eq x n) e (eq-eqb x n s)))
        (λ d. ap suc (ih d)) (in_cons x n xs c)

less_has : (n k : ℕ) (xs : List ℕ) → n ≢ k → Contains xs k → Contains (less n xs) k
less_has n k [] apart c = absurd (none_in k c)
less_has n k (x ∷ xs) apart c = by (λ d. less_has n k xs apart d) (nat_eq x n) refl
  where
    by : (Contains xs k → Contains (less n xs) k) → (b : Bool) → nat_eq x n ≡ b → Contains (cond b xs (x ∷ less n xs)) k
    by ih true e = ⊎_elim (λ s. absurd (apart (sym (eqb-true x n e) ∙ s))) (λ d. d) (in_cons x k xs c)
    by ih false e =
        ⊎_elim (λ s. subst (Contains (x ∷ less n xs)) s (first_in x (less n xs)))
        (λ d. later_in x k (less n xs) (ih d)) (in_cons x k xs c)

-- no number twice
pub data Differ : List ℕ → Type 0 where
  no_numbers : Differ []
  one_differs : {x : ℕ} {xs : List ℕ} → (Contains xs x → ⊥) → Differ xs → Differ (x ∷ xs)

pub holes : (xs ys : List ℕ) → Differ xs → ((k : ℕ) → Contains xs k → Contains ys k) → length xs ≤ length ys
holes [] ys d h = omega arith
holes (x ∷ xs) ys (one_differs free d) h =
    let long = less_long x ys (h x (first_in x xs)) in
    let le = holes xs (less x ys) d
    (λ k c. less_has x k ys (λ e. free (subst (Contains xs) (sym e) c)) (h k (later_in x k xs c))) in
    omega (arith, long, le)
