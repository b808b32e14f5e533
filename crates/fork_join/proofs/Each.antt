-- What is given by the place of a list, of each item of the list.
use Rattle.std.proofs.Common.{◌≡◌, ◌≤◌, ◌<◌, ℕ, suc, ◌+◌, List, [], ◌∷◌, Some, length, refl, subst, arith}
use Rattle.std.specs.List.{AllZip, slice_get}
use Rattle.fork_join.specs.Calls.{AreGiven, AreGivenFrom}

weaker_from : {X : Type 0} (G H : ℕ → X → Type 0) (from end : ℕ) (xs : List X) → from + length xs ≤ end → ((i : ℕ) (x : X) → i < end → G i x → H i x)
    → AreGivenFrom G from xs → AreGivenFrom H from xs
weaker_from G H from end [] room weaker so = tt
weaker_from G H from end (x ∷ xs) room weaker so = (weaker from x (omega arith) so.0, weaker_from G H (from + 1) end xs (omega arith) weaker so.1)

-- what is given says this too
pub given_weaker : {X : Type 0} (G H : ℕ → X → Type 0) (count : ℕ) (xs : List X)
    → ((i : ℕ) (x : X) → i < count → G i x → H i x) → AreGiven G 0 count xs → AreGiven H 0 count xs
given_weaker G H count xs weaker so =
    let len = so.len in
    record { len = so.len; each = weaker_from G H 0 count xs (omega arith) weaker so.each }

zip_from : {A B : Type 0} (R : A → B → Type 0) (all xs : List A) (from : ℕ) (ys : List B)
    → ((k : ℕ) (x : A) → slice_get xs k ≡ Some x → slice_get all (from + k) ≡ Some x)
    → length ys ≡ length xs → AreGivenFrom (λ k y. (x : A) → slice_get all k ≡ Some x → R x y) from ys → AllZip R xs ys
zip_from R all [] from [] at len given = tt
zip_from R all [] from (y ∷ ys) at len given = absurd (omega arith)
zip_from R all (x ∷ xs) from [] at len given = absurd (omega arith)
zip_from {A} R all (x ∷ xs) from (y ∷ ys) at len given =
    let here : from + 0 ≡ from = omega arith in
    let past : (k : ℕ) → from + suc k ≡ from + 1 + k = λ k. omega arith in (
      given.0 x (subst (λ n. slice_get all n ≡ Some x) here (at 0 x refl)),
      zip_from R all xs (from + 1) ys (λ k z is. subst (λ n. slice_get all n ≡ Some z) (past k) (at (suc k) z is)) (omega arith) given.1,
    )

-- item by item
pub given_each : {A B : Type 0} (R : A → B → Type 0) (xs : List A) (ys : List B)
    → AreGiven (λ k y. (x : A) → slice_get xs k ≡ Some x → R x y) 0 (length xs) ys → AllZip R xs ys
given_each {A} R xs ys so =
    let same : (k : ℕ) → k ≡ 0 + k = λ k. omega arith in
    zip_from R xs xs 0 ys (λ k x is. subst (λ n. slice_get xs n ≡ Some x) (same k) is) so.len so.each
