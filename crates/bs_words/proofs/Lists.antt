-- Lists and their members, where std's lemmas have no such form.
use Rattle.std.proofs.Common.{[], arith, List, ◌∷◌, refl, suc, ◌≡◌, ◌∙◌, ap, sym, ℕ, zero, ◌+◌, ◌<◌, ◌⊎◌, inl, inr, ◌++◌, length, Some, drop, drop-cons, get_or, ⊎_elim, map, subst, All, AllPairs}
use Rattle.std.specs.List.{Contains}
use Rattle.std.specs.Prelude.{slice_index_or, slice_get}

-- ---- members

pub none_in : {A : Type 0} (y : A) → Contains [] y → ⊥
none_in y c = let le = c.1 in absurd (omega (arith, le))

pub first_in : {A : Type 0} (y : A) (ys : List A) → Contains (y ∷ ys) y
first_in y ys = (0, omega arith, refl)

pub later_in : {A : Type 0} (x y : A) (ys : List A) → Contains ys y → Contains (x ∷ ys) y
later_in x y ys c = let le = c.1 in (suc c.0, omega (arith, le), c.2)

pub in_cons : {A : Type 0} (x y : A) (ys : List A) → Contains (x ∷ ys) y → (x ≡ y) ⊎ Contains ys y
in_cons x y ys c = by c.0 c.1 c.2
  where
    by : (k : ℕ) → k < length (x ∷ ys) → slice_index_or (x ∷ ys) k y ≡ y → (x ≡ y) ⊎ Contains ys y
    by zero le e = inl e
    by (suc k) le e = inr (k, omega (arith, le), e)

-- ---- places

-- what a list has at a place
pub got : {A : Type 0} (xs : List A) (q : ℕ) → q < length xs → (x : A) × (slice_get xs q ≡ Some x)
got [] q h = absurd (omega (arith, h))
got (x ∷ xs) zero h = (x, refl)
got (x ∷ xs) (suc q) h = got xs q (omega (arith, h))

pub drop_none : {A : Type 0} (xs : List A) → drop 0 xs ≡ xs
drop_none [] = refl
drop_none (x ∷ xs) = refl

pub drop_step : {A : Type 0} (xs : List A) (i : ℕ) (x : A) → i < length xs → x ≡ get_or xs i x → drop i xs ≡ x ∷ drop (i + 1) xs
drop_step xs i x h e =
    let next : suc i ≡ i + 1 = omega arith in
    drop-cons xs i x h ∙ (ap (λ y. y ∷ drop (suc i) xs) (sym e) ∙ ap (λ n. x ∷ drop n xs) next)

pub same_some : {A : Type 0} (x y : A) → Some x ≡ Some y → x ≡ y
same_some x y e = cc

pub mapped : {A B : Type 0} (f : A → B) (xs : List A) (x : A) → Contains xs x → Contains (map f xs) (f x)
mapped f [] x c = absurd (none_in x c)
mapped f (y ∷ ys) x c =
    ⊎_elim (λ e. subst (λ z. Contains (f y ∷ map f ys) (f z)) e (first_in (f y) (map f ys)))
    (λ d. later_in (f y) (f x) (map f ys) (mapped f ys x d)) (in_cons y x ys c)

-- ---- one more

pub pushed_kept : {A : Type 0} (xs : List A) (y x : A) (q : ℕ) → slice_get xs q ≡ Some x → slice_get (xs ++ y ∷ []) q ≡ Some x
pushed_kept [] y x q e = absurd (cc)
pushed_kept (z ∷ zs) y x zero e = e
pushed_kept (z ∷ zs) y x (suc q) e = pushed_kept zs y x q e

pub pushed_here : {A : Type 0} (xs : List A) (y : A) → slice_get (xs ++ y ∷ []) (length xs) ≡ Some y
pushed_here [] y = refl
pushed_here (z ∷ zs) y = pushed_here zs y

pub pushed_cases : {A : Type 0} (xs : List A) (y x : A) (q : ℕ) → slice_get (xs ++ y ∷ []) q ≡ Some x →
    (slice_get xs q ≡ Some x) ⊎ ((q ≡ length xs) × (y ≡ x))
pushed_cases [] y x zero e = inr (refl, (let f : y ≡ x = cc in f))
pushed_cases [] y x (suc q) e = absurd (cc)
pushed_cases (z ∷ zs) y x zero e = inl e
pushed_cases (z ∷ zs) y x (suc q) e =
    ⊎_elim (λ f. inl f) (λ f. inr (ap suc f.0, f.1)) (pushed_cases zs y x q e)

-- ---- beginnings

pub head_same : {A : Type 0} {x y : A} {xs ys : List A} → x ∷ xs ≡ y ∷ ys → x ≡ y
head_same e = cc

pub tail_same : {A : Type 0} {x y : A} {xs ys : List A} → x ∷ xs ≡ y ∷ ys → xs ≡ ys
tail_same e = cc

pub none_there : {A : Type 0} {x : A} {xs : List A} → [] ≡ x ∷ xs → ⊥
none_there e = cc

-- ---- pairs

pub pairs_here : {A : Type 0} (R : A → A → Type 0) (x : A) (xs : List A) → AllPairs R (x ∷ xs) → All (R x) xs
pairs_here R x xs h = λ k d lt. h 0 (suc k) d (omega arith) (omega (arith, lt))

pub pairs_later : {A : Type 0} (R : A → A → Type 0) (x : A) (xs : List A) → AllPairs R (x ∷ xs) → AllPairs R xs
pairs_later R x xs h = λ i j d lt le. h (suc i) (suc j) d (omega (arith, lt)) (omega (arith, le))
