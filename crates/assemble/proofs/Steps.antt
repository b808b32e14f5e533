-- What is known while the functions of a file are walked.
use Rattle.std.proofs.Common.{◌≡◌, ℕ, zero, suc, ◌+◌, ◌<◌, List, [], ◌∷◌, Some, length, map, get_or, drop, refl, sym, ap, ◌∙◌, subst, arith}
use Rattle.std.specs.Prelude.{sum_by, slice_get}
use Rattle.std.specs.List.{AllByRecursion, AllZip}
use Rattle.std.proofs.lemmas.List.Sums.{sum_by-cons}
use Rattle.function_places.specs.Places.{IsLaidFunction}
use Rattle.function_places.proofs.Starts.{own_forms}
use Rattle.assemble.specs.Sizes.{descs_size}
use Rattle.function_places.specs.Sizes.{pieces_size}
use Rattle.function_places.specs.declared.places.Laid.{Laid}
use Rattle.rv_pieces.specs.declared.piece.Pieces.{Pieces}

-- ---- functions that are laid out

pub descs_laid : (ps : List Pieces) (all : List Laid) → AllZip IsLaidFunction ps all → sum_by descs_size all ≡ sum_by pieces_size ps
descs_laid [] [] each = refl
descs_laid [] (own ∷ all) each = absurd each
descs_laid (p ∷ ps) [] each = absurd each
descs_laid (p ∷ ps) (own ∷ all) each =
    omega (arith, sum_by-cons descs_size own all, sum_by-cons pieces_size p ps, each.0.descs, descs_laid ps all each.1)

pub laid_at : (ps : List Pieces) (all : List Laid) (i : ℕ) (p : Pieces) (own : Laid) → AllZip IsLaidFunction ps all → i < length ps → p ≡ get_or ps i p → own ≡ get_or all i own → IsLaidFunction p own
laid_at [] all i p own each h is of = absurd (omega (arith, h))
laid_at (q ∷ ps) [] i p own each h is of = absurd each
laid_at (q ∷ ps) (k ∷ all) zero p own each h is of = subst (λ x. IsLaidFunction x own) (sym is) (subst (IsLaidFunction q) (sym of) each.0)
laid_at (q ∷ ps) (k ∷ all) (suc i) p own each h is of = laid_at ps all i p own each.1 (omega (arith, h)) is of

pub here : {A B : Type 0} (f : A → B) (xs : List A) (i : ℕ) (x : A) → i < length xs → x ≡ get_or xs i x → drop i (map f xs) ≡ f x ∷ drop (i + 1) (map f xs)
here f [] i x h is = absurd (omega (arith, h))
here f (y ∷ xs) zero x h is = ap (λ z. f z ∷ map f xs) (sym is)
here f (y ∷ xs) (suc i) x h is =
    let rest = here f xs i x (omega (arith, h)) is in
    let next : suc i + 1 ≡ suc (i + 1) = omega arith in
    rest ∙ ap (λ n. f x ∷ drop n (f y ∷ map f xs)) (sym next)

-- ---- what holds of each

pub all_at : {A : Type 0} (P : A → Type 0) (xs : List A) (i : ℕ) (x : A) → AllByRecursion P xs → i < length xs → x ≡ get_or xs i x → P x
all_at P [] i x all h is = absurd (omega (arith, h))
all_at P (y ∷ xs) zero x all h is = subst P (sym is) all.0
all_at P (y ∷ xs) (suc i) x all h is = all_at P xs i x all.1 (omega (arith, h)) is

pub form_at : (all : List Laid) (i : ℕ) (own : Laid) → i < length all → own ≡ get_or all i own → own.forms.items ≡ get_or (map own_forms all) i own.forms.items
form_at [] i own h is = absurd (omega (arith, h))
form_at (f ∷ all) zero own h is = ap own_forms is
form_at (f ∷ all) (suc i) own h is = form_at all i own (omega (arith, h)) is

-- what is at a place is what is read there
pub same_at : {A : Type 0} (xs : List A) (i : ℕ) (x y : A) → slice_get xs i ≡ Some x → y ≡ get_or xs i y → y ≡ x
same_at [] i x y got is = cc
same_at (z ∷ xs) zero x y got is = cc
same_at (z ∷ xs) (suc i) x y got is = same_at xs i x y got is

-- what is read at a place that is there
pub read_at : (xs : List ℕ) (i x : ℕ) → i < length xs → x ≡ get_or xs i x → x ≡ get_or xs i 0
read_at [] i x h is = absurd (omega (arith, h))
read_at (y ∷ xs) zero x h is = is
read_at (y ∷ xs) (suc i) x h is = read_at xs i x (omega (arith, h)) is
