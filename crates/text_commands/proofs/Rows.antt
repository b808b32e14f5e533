-- A list that grows by what is at an index.
use Rattle.std.proofs.Common.{◌≡◌, ℕ, suc, ◌+◌, ◌<◌, List, ◌∷◌, length, drop, get_or, map, sym, ap, ◌∙◌, arith}
use Rattle.std.proofs.Math.Seq.{drop-cons}

pub map_rest : {A B : Type 0} (f : A → B) (xs : List A) (k : ℕ) (x : A) → k < length xs → x ≡ get_or xs k x
    → map f (drop k xs) ≡ f x ∷ map f (drop (k + 1) xs)
map_rest {A} f xs k x h is =
    let next : suc k ≡ k + 1 = omega arith in
    ap (map f) (drop-cons xs k x h ∙ ap (λ (y : A). y ∷ drop (suc k) xs) (sym is) ∙ ap (λ n. x ∷ drop n xs) next)
