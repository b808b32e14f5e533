-- What a search by name finds as it goes along a list.
use Rattle.std.proofs.Common.{◌≡◌, ℕ, zero, suc, ◌+◌, ◌<◌, ◌≤◌, Bool, true, false, cond, List, [], ◌∷◌, length, map, drop, get_or, Some, None, refl, ap, arith, ◌∙◌, sym, subst}
use Rattle.std.specs.Prelude.{find}
use Rattle.std.specs.List.{AllByRecursion}
use Rattle.std.specs.Str.{bytes_eq}
use Rattle.std.proofs.Math.Seq.{drop-cons}
use Rattle.std.proofs.lemmas.Slice.Eq.{bytes_eq-Decides}
use Rattle.std.proofs.lemmas.Bool.{false_from_ne_true}

-- ---- names

pub same_name : (a b : List ℕ) → a ≡ b → bytes_eq a b ≡ true
same_name a b e = (bytes_eq-Decides a b).1 e

pub other_name : (a b : List ℕ) → (a ≡ b → ⊥) → bytes_eq a b ≡ false
other_name a b h = false_from_ne_true (bytes_eq a b) (λ e. h ((bytes_eq-Decides a b).0 e))

-- ---- the first item that passes

step : {X : Type 0} (xs : List X) (i : ℕ) (x : X) → i < length xs → x ≡ get_or xs i x → drop i xs ≡ x ∷ drop (suc i) xs
step xs i x h e = drop-cons xs i x h ∙ ap (λ y. y ∷ drop (suc i) xs) (sym e)

pub found_here : {X Y : Type 0} (p : Y → Bool) (f : X → Y) (xs : List X) (i : ℕ) (x : X)
    → i < length xs → x ≡ get_or xs i x → p (f x) ≡ true → find p (map f (drop i xs)) ≡ Some (f x)
found_here p f xs i x h e t = ap (λ ys. find p (map f ys)) (step xs i x h e) ∙ ap (λ b. cond b (Some (f x)) (find p (map f (drop (suc i) xs)))) t

pub found_later : {X Y : Type 0} (p : Y → Bool) (f : X → Y) (xs : List X) (i : ℕ) (x : X)
    → i < length xs → x ≡ get_or xs i x → p (f x) ≡ false → find p (map f (drop i xs)) ≡ find p (map f (drop (i + 1) xs))
found_later p f xs i x h e t =
    let n : suc i ≡ i + 1 = omega arith in
    ap (λ ys. find p (map f ys)) (step xs i x h e) ∙ ap (λ b. cond b (Some (f x)) (find p (map f (drop (suc i) xs)))) t
    ∙ ap (λ k. find p (map f (drop k xs))) n

pub none_left : {X Y : Type 0} (p : Y → Bool) (f : X → Y) (xs : List X) (i : ℕ) → length xs ≤ i → find p (map f (drop i xs)) ≡ None
none_left p f [] zero h = refl
none_left p f [] (suc i) h = refl
none_left p f (x ∷ xs) zero h = absurd (omega arith)
none_left p f (x ∷ xs) (suc i) h = none_left p f xs i (omega arith)

found_first : {X : Type 0} (P : X → Type 0) (p : X → Bool) (y : X) (ys : List X) (x : X) (b : Bool) → P y × AllByRecursion P ys
    → cond b (Some y) (find p ys) ≡ Some x → (find p ys ≡ Some x → P x) → P x
found_first P p y ys x true all e later = let same : y ≡ x = cc in subst P same all.0
found_first P p y ys x false all e later = later e

-- what is found has what all have
pub found_has : {X : Type 0} (P : X → Type 0) (p : X → Bool) (xs : List X) (x : X) → AllByRecursion P xs → find p xs ≡ Some x → P x
found_has P p [] x all e = absurd (cc)
found_has P p (y ∷ ys) x all e = found_first P p y ys x (p y) all e (found_has P p ys x all.1)
