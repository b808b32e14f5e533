-- The items of a slice from one of them on.
use Rattle.std.proofs.Common.{◌≡◌, ◌∙◌, ℕ, ◌+◌, ◌<◌, suc, List, ◌∷◌, drop, get_or, map, length, ap, sym, arith}
use Rattle.std.proofs.Math.Seq.{drop-cons}

pub map_drop-cons : {A B : Type 0} (f : A → B) (xs : List A) (k : ℕ) (x : A) →
    k < length xs → x ≡ get_or xs k x → map f (drop k xs) ≡ f x ∷ map f (drop (k + 1) xs)
map_drop-cons {A} f xs k x h is =
    let next : suc k ≡ k + 1 = omega arith in
    let here : drop k xs ≡ x ∷ drop (k + 1) xs =
    drop-cons xs k x h ∙ ap (λ y. y ∷ drop (suc k) xs) (sym is) ∙ ap (λ n. x ∷ drop n xs) next in
    ap (map f) here

pub map_drop-at : {A B : Type 0} (f : A → B) (xs : List A) (k : ℕ) (d : A) →
    k < length xs → map f (drop k xs) ≡ f (get_or xs k d) ∷ map f (drop (k + 1) xs)
map_drop-at {A} f xs k d h =
    let next : suc k ≡ k + 1 = omega arith in
    let here : drop k xs ≡ get_or xs k d ∷ drop (k + 1) xs =
    drop-cons xs k d h ∙ ap (λ n. get_or xs k d ∷ drop n xs) next in
    ap (map f) here
