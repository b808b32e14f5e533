-- Members of lists, and lists that are mapped.
use Rattle.std.proofs.Common.{◌≡◌, ℕ, zero, suc, ◌<◌, ⊎_elim, List, [], ◌∷◌, map, length, refl, sym, subst, arith}
use Rattle.std.specs.List.{AllPairs, Contains}
use Rattle.std.specs.Prelude.{slice_index_or}
use Rattle.std.proofs.lemmas.List.{length-map}
use Rattle.bs_words.proofs.Lists.{none_in, first_in, later_in, in_cons}

-- what a member of a mapped list was
pub record Was {A B : Type 0} (f : A → B) (xs : List A) (y : B) : Type 0 where
  pub what : A
  pub among : Contains xs what
  pub same : f what ≡ y

pub was : {A B : Type 0} (f : A → B) (xs : List A) (y : B) → Contains (map f xs) y → Was f xs y
was f [] y c = absurd (none_in y c)
was f (x ∷ xs) y c =
    ⊎_elim (λ e. record { what = x; among = first_in x xs; same = e })
    (λ d. let w = was f xs y d in record { what = w.what; among = later_in x w.what xs w.among; same = w.same })
    (in_cons (f x) y (map f xs) c)

at_mapped : {A : Type 0} (f : A → A) (xs : List A) (k : ℕ) (d : A) → k < length xs →
    slice_index_or (map f xs) k d ≡ f (slice_index_or xs k d)
at_mapped f [] k d lt = absurd (omega (arith, lt))
at_mapped f (x ∷ xs) zero d lt = refl
at_mapped f (x ∷ xs) (suc k) d lt = at_mapped f xs k d (omega (arith, lt))

pub pairs_mapped : {A : Type 0} (f : A → A) (R : A → A → Type 0) (xs : List A) → AllPairs (λ x y. R (f x) (f y)) xs →
    AllPairs R (map f xs)
pairs_mapped f R xs h = λ i j d lt within.
    let le : j < length xs = subst (λ n. j < n) (length-map xs f) within in
    let under : i < length xs = omega (arith, lt, le) in
    subst (R (slice_index_or (map f xs) i d)) (sym (at_mapped f xs j d le))
    (subst (λ x. R x (f (slice_index_or xs j d))) (sym (at_mapped f xs i d under)) (h i j d lt le))
