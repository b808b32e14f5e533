-- What holds of two parts of the calls holds of the whole.
use Rattle.std.proofs.Common.{◌≡◌, ◌≤◌, ℕ, ◌+◌, ◌-◌, ◌++◌, List, [], ◌∷◌, length, refl, sym, subst, arith, length-append}
use Rattle.fork_join.specs.Calls.{AreGiven, AreGivenFrom}

pub given_both : {X : Type 0} (Gives : ℕ → X → Type 0) (from up : ℕ) (xs ys : List X) → up ≡ from + length xs
    → AreGivenFrom Gives from xs → AreGivenFrom Gives up ys → AreGivenFrom Gives from (xs ++ ys)
given_both Gives from up [] ys e a b = subst (λ k. AreGivenFrom Gives k ys) {x = up} (omega arith) b
given_both Gives from up (x ∷ xs) ys e a b = (a.0, given_both Gives (from + 1) up xs ys (omega arith) a.1 b)

-- the calls of one part, and then those of the other
pub both_given : {X : Type 0} (Gives : ℕ → X → Type 0) (from low up high count : ℕ) (xs ys all : List X) → up ≡ from + low → count ≡ low + high → all ≡ xs ++ ys
    → AreGiven Gives from low xs → AreGiven Gives up high ys → AreGiven Gives from count all
both_given Gives from low up high count xs ys all at sum whole a b =
    let la = a.len in
    let lb = b.len in
    subst (AreGiven Gives from count) (sym whole) (record {
      len = omega (arith, length-append xs ys);
      each = given_both Gives from up xs ys (omega arith) a.each b.each;
    })

-- one call more
pub one_more : {X : Type 0} (Gives : ℕ → X → Type 0) (from number : ℕ) (xs all : List X) (x : X) → from ≤ number → all ≡ xs ++ (x ∷ [])
    → Gives number x → AreGiven Gives from (number - from) xs → AreGiven Gives from (number + 1 - from) all
one_more Gives from number xs all x past whole gives so =
    both_given Gives from (number - from) number 1 (number + 1 - from) xs (x ∷ []) all (omega arith) (omega arith) whole so
    (record { len = refl; each = (gives, tt) })
