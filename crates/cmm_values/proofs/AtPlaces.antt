-- What is at a place of a list.
use Rattle.std.proofs.Common.{◌≡◌, ◌∙◌, ℕ, ◌+◌, ◌<◌, suc, List, ◌∷◌, drop, get_or, set, map, length, ap, sym, arith, Option, None}
use Rattle.std.specs.Option.{unwrap_or, option_map}
use Rattle.std.specs.List.{slice_get}
use Rattle.std.proofs.Math.Seq.{drop-cons}
use Rattle.std.proofs.lemmas.List.{map-set, get_or-map}
use Rattle.std.proofs.lemmas.Option.{slice_get-map, unwrap_or-slice_get}

pub map_drop_cons : {A B : Type 0} (f : A → B) (xs : List A) (k : ℕ) (x : A) →
    k < length xs → x ≡ get_or xs k x → map f (drop k xs) ≡ f x ∷ map f (drop (k + 1) xs)
map_drop_cons {A} f xs k x h is =
    let next : suc k ≡ k + 1 = omega arith in
    let here : drop k xs ≡ x ∷ drop (k + 1) xs =
    drop-cons xs k x h ∙ ap (λ y. y ∷ drop (suc k) xs) (sym is) ∙ ap (λ n. x ∷ drop n xs) next in
    ap (map f) here

pub plain_drop_cons : {A : Type 0} (xs : List A) (k : ℕ) (x : A) →
    k < length xs → x ≡ get_or xs k x → drop k xs ≡ x ∷ drop (k + 1) xs
plain_drop_cons {A} xs k x h is =
    let next : suc k ≡ k + 1 = omega arith in
    drop-cons xs k x h ∙ ap (λ y. y ∷ drop (suc k) xs) (sym is) ∙ ap (λ n. x ∷ drop n xs) next

-- what is there, or what stands for nothing
pub read_is : {A : Type 0} (xs : List A) (i : ℕ) (d : A) (r : Option A) → r ≡ slice_get xs i → get_or xs i d ≡ unwrap_or r d
read_is xs i d r h = sym (ap (λ o. unwrap_or o d) h ∙ unwrap_or-slice_get xs i d)

-- the same where each element is seen by a function
pub map_read_is : {A B : Type 0} (f : A → B) (xs : List A) (i : ℕ) (d : B) (r : Option A) → r ≡ slice_get xs i →
    get_or (map f xs) i d ≡ unwrap_or (option_map f r) d
map_read_is f xs i d r h = read_is (map f xs) i d (option_map f r) (ap (option_map f) h ∙ sym (slice_get-map f xs i))

pub read_none : {A : Type 0} (xs : List A) (i : ℕ) (d : A) → slice_get xs i ≡ None → get_or xs i d ≡ d
read_none xs i d h = read_is xs i d None (sym h)

pub map_read_none : {A B : Type 0} (f : A → B) (xs : List A) (i : ℕ) (d : B) → slice_get xs i ≡ None → get_or (map f xs) i d ≡ d
map_read_none f xs i d h = map_read_is f xs i d None (sym h)

-- a place where a list that is seen by a function has changed
pub map_changed : {A B : Type 0} (f : A → B) (change : B → B) (xs : List A) (i : ℕ) (x y : A) (d : B) → i < length xs →
    x ≡ get_or xs i x → f y ≡ change (f x) → map f (set xs i y) ≡ set (map f xs) i (change (get_or (map f xs) i d))
map_changed f change xs i x y d h is e =
    map-set f xs i y ∙ ap (set (map f xs) i) (e ∙ ap change (sym (get_or-map f xs i x d h ∙ ap f (sym is))))
