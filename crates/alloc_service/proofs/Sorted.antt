-- Descriptors by rising return addresses.
use Rattle.std.proofs.Common.{◌≡◌, ◌≢◌, ℕ, zero, suc, ◌+◌, ◌<◌, ◌≤◌, ◌⊎◌, inl, inr, ◌==◌, List, [], ◌∷◌, length, map, get_or, Some, None, refl, ap, arith, ◌∙◌, sym, eq-eqb}
use Rattle.std.proofs.lemmas.Bool.{ne_eqb, cond-true, cond-false, cases_eq}
use Rattle.image_form.specs.Image.{EachNext, First}
use Rattle.image_form.specs.Tables.{Desc, desc}
use Rattle.image_form.specs.declared.image.DescRow.{DescRow}
use Rattle.rv_machine.specs.Frames.{descriptor_at}
use Rattle.rv_machine.specs.Memory.{code_start}

-- the return offsets
abbrev pub afters : List DescRow → List ℕ
afters rows = map (λ (row : DescRow). row.after) rows

abbrev pub Rising : List DescRow → Type 0
Rising rows = EachNext (λ (a : Desc) (b : Desc). a.after < b.after) (map desc rows)

pub after_at : (rows : List DescRow) (i : ℕ) (row : DescRow) → i < length rows → row ≡ get_or rows i row → get_or (afters rows) i 0 ≡ row.after
after_at [] i row h e = absurd (omega arith)
after_at (r ∷ rows) zero row h e = ap (λ (x : DescRow). x.after) (sym e)
after_at (r ∷ rows) (suc i) row h e = after_at rows i row (omega arith) e

least : (after : ℕ) (rows : List DescRow) (k : ℕ) → First (λ (b : Desc). after < b.after) (map desc rows) → Rising rows → k < length rows → after < get_or (afters rows) k 0
least after [] k f r h = absurd (omega arith)
least after (row ∷ rows) zero f r h = f
least after (row ∷ rows) (suc k) f r h = omega (arith, f, least row.after rows k r.0 r.1 (omega arith))

pub rises : (rows : List DescRow) (i j : ℕ) → Rising rows → i < j → j < length rows → get_or (afters rows) i 0 < get_or (afters rows) j 0
rises [] i j r h k = absurd (omega arith)
rises (row ∷ rows) i zero r h k = absurd (omega arith)
rises (row ∷ rows) zero (suc j) r h k = least row.after rows j r.0 r.1 (omega arith)
rises (row ∷ rows) (suc i) (suc j) r h k = rises rows i j r.1 (omega arith) (omega arith)

pub rises_to : (rows : List DescRow) (i j : ℕ) → Rising rows → i ≤ j → j < length rows → get_or (afters rows) i 0 ≤ get_or (afters rows) j 0
rises_to rows i j r h k = by_case (cases_eq i j)
  where
    by_case : (i ≡ j) ⊎ (i ≡ j → ⊥) → get_or (afters rows) i 0 ≤ get_or (afters rows) j 0
    by_case (inl e) = omega (arith, ap (λ n. get_or (afters rows) n 0) e)
    by_case (inr n) = omega (arith, rises rows i j r (omega (arith, n)) k)

pub hit : (rows : List DescRow) (i : ℕ) (row : DescRow) (address : ℕ) → Rising rows → i < length rows → row ≡ get_or rows i row → code_start + row.after ≡ address → descriptor_at (map desc rows) address ≡ Some (desc row)
hit [] i row address r h e a = absurd (omega arith)
hit (r0 ∷ rows) zero row address r h e a =
    let same : code_start + r0.after ≡ address = ap (λ (x : DescRow). code_start + x.after) (sym e) ∙ a in
    cond-true (code_start + r0.after == address) (Some (desc r0)) (descriptor_at (map desc rows) address) (eq-eqb (code_start + r0.after) address same)
    ∙ ap (λ (x : DescRow). Some (desc x)) (sym e)
hit (r0 ∷ rows) (suc i) row address r h e a =
    let less = least r0.after rows i r.0 r.1 (omega arith) in
    let there = after_at rows i row (omega arith) e in
    cond-false (code_start + r0.after == address) (Some (desc r0)) (descriptor_at (map desc rows) address) (ne_eqb (code_start + r0.after) address (λ s. omega (arith, less, there)))
    ∙ hit rows i row address r.1 (omega arith) e a

pub miss : (rows : List DescRow) (address : ℕ) → ((k : ℕ) → k < length rows → code_start + get_or (afters rows) k 0 ≢ address) → descriptor_at (map desc rows) address ≡ None
miss [] address h = refl
miss (row ∷ rows) address h =
    cond-false (code_start + row.after == address) (Some (desc row)) (descriptor_at (map desc rows) address) (ne_eqb (code_start + row.after) address (h 0 (omega arith)))
    ∙ miss rows address (λ k l. h (suc k) (omega arith))

-- past a row of the middle, on either side
pub below_more :
    (rows : List DescRow) (address low middle : ℕ) (row : DescRow) → Rising rows → middle < length rows → row ≡ get_or rows middle row → code_start + row.after < address →
    (k : ℕ) → k < middle + 1 → code_start + get_or (afters rows) k 0 < address
below_more rows address low middle row r h e a k l = omega (arith, rises_to rows k middle r (omega arith) h, after_at rows middle row h e)

pub above_more :
    (rows : List DescRow) (address high middle : ℕ) (row : DescRow) → Rising rows → middle < length rows → row ≡ get_or rows middle row → address < code_start + row.after →
    (k : ℕ) → middle ≤ k → k < length rows → address < code_start + get_or (afters rows) k 0
above_more rows address high middle row r h e a k l m = omega (arith, rises_to rows middle k r l m, after_at rows middle row h e)
