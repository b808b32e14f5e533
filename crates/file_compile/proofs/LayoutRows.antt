-- The rows of an image as a layout.
use Rattle.std.proofs.Common.{◌≡◌, ℕ, suc, ◌+◌, ◌≤◌, zero, List, [], ◌∷◌, ◌++◌, length, drop, map, refl, sym, ap, ◌∙◌, arith, append-nil}
use Rattle.cmm_meaning.specs.Layout.{Layout}
use Rattle.image_form.specs.declared.image.FuncRow.{FuncRow}
use Rattle.image_form.specs.Tables.{Func, func}
use Rattle.rv_machine.specs.Memory.{code_start}

pub drop_past : {A : Type 0} (xs : List A) (k : ℕ) → length xs ≤ k → drop k xs ≡ []
drop_past [] zero h = refl
drop_past [] (suc k) h = refl
drop_past (x ∷ xs) zero h = absurd (omega arith)
drop_past (x ∷ xs) (suc k) h = drop_past xs k (omega arith)

pub map_past : {A B : Type 0} (f : A → B) (xs : List A) (k : ℕ) → length xs ≤ k → map f (drop k xs) ≡ []
map_past f xs k h = ap (map f) (drop_past xs k h)

-- where none is left, all have been mapped
pub whole_map : {A B : Type 0} (f : A → B) (items all : List A) (made : List B) (k : ℕ)
    → items ≡ all → length items ≤ k → map f items ≡ made ++ map f (drop k items) → made ≡ map f all
whole_map {A} {B} f items all made k same h is =
    sym (ap (map f) (sym same) ∙ is ∙ ap (λ (l : List A). made ++ map f l) (drop_past items k h) ∙ append-nil made)

pub same_layout : (rows : List FuncRow) (frames addresses : List ℕ)
    → frames ≡ map (λ (r : FuncRow). r.frame) rows
    → addresses ≡ map (λ (r : FuncRow). code_start + r.offset) rows
    → let layout : Layout = record { frames = frames; addresses = addresses } in
    let other : Layout = record { frames = map (λ (r : Func). r.frame) (map func rows); addresses = map (λ (r : Func). code_start + r.offset) (map func rows) } in
    layout ≡ other
same_layout rows frames addresses f a =
    let f' : frames ≡ map (λ (r : Func). r.frame) (map func rows) = f ∙ frames_same rows in
    let a' : addresses ≡ map (λ (r : Func). code_start + r.offset) (map func rows) = a ∙ addresses_same rows in
    cc
  where
    frames_same : (rows : List FuncRow) → map (λ (r : FuncRow). r.frame) rows ≡ map (λ (r : Func). r.frame) (map func rows)
    frames_same [] = refl
    frames_same (r ∷ rows) = ap (λ l. r.frame ∷ l) (frames_same rows)

    addresses_same : (rows : List FuncRow) → map (λ (r : FuncRow). code_start + r.offset) rows ≡ map (λ (r : Func). code_start + r.offset) (map func rows)
    addresses_same [] = refl
    addresses_same (r ∷ rows) = ap (λ l. (code_start + r.offset) ∷ l) (addresses_same rows)
