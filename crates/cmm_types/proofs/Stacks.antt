-- A stack that contracts see from its top: what is left of it, and the search in it from the top on.
use Rattle.std.proofs.Common.{◌≡◌, ℕ, ◌+◌, ◌-◌, ◌<◌, List, [], ◌∷◌, ◌++◌, map, reverse, length, get_or, take, drop, ap, sym, ◌∙◌, arith}
use Rattle.std.proofs.lemmas.List.{map-append, reverse-append, length-reverse, length-map, length-drop, take-append-drop, take_more}
use Rattle.cmm_types.proofs.Leaving.{drop_front}

-- all but the lowest items are dropped
pub lowest : {A B : Type 0} (f : A → B) (n : ℕ) (xs : List A) → map f (reverse (take n xs)) ≡ drop (length (map f (reverse xs)) - n) (map f (reverse xs))
lowest {A} {B} f n xs =
    let front = map f (reverse (drop n xs)) in
    let rest = map f (reverse (take n xs)) in
    let whole : map f (reverse xs) ≡ front ++ rest =
    ap (λ l. map f (reverse l)) (sym (take-append-drop n xs)) ∙ ap (map f) (reverse-append (take n xs) (drop n xs)) ∙ map-append f (reverse (drop n xs)) (reverse (take n xs)) in
    let count : length (map f (reverse xs)) - n ≡ length front =
    omega (arith, length-map (reverse xs) f, length-reverse xs, length-map (reverse (drop n xs)) f, length-reverse (drop n xs), length-drop n xs) in
    sym (ap (λ k. drop k (map f (reverse xs))) count ∙ ap (drop (length front)) whole ∙ drop_front front rest)

-- one item more, at the top
pub one_more : {A B : Type 0} (f : A → B) (xs : List A) (i : ℕ) (x : A) → i < length xs → x ≡ get_or xs i x → map f (reverse (take (i + 1) xs)) ≡ f x ∷ map f (reverse (take i xs))
one_more f xs i x lt at =
    ap (λ l. map f (reverse l)) (take_more xs i x lt ∙ ap (λ y. take i xs ++ y ∷ []) (sym at))
    ∙ ap (map f) (reverse-append (take i xs) (x ∷ []))
