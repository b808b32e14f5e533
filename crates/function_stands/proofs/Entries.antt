-- Functions are entered where the rows of the image say, and there their pieces are laid.
use Rattle.std.proofs.Common.{◌≡◌, ℕ, zero, suc, ◌+◌, ◌*◌, List, [], ◌∷◌, length, map, Some, refl, ap, ◌∙◌, arith}
use Rattle.std.specs.Prelude.{slice_get, slice_index}
use Rattle.cmm_meaning.specs.Setting.{Setting}
use Rattle.cmm_tree.specs.Tree.{FileTree, FunctionTree, functions}
use Rattle.correctness.specs.Setting.{layout_of}
use Rattle.image_form.specs.Image.{stub_words}
use Rattle.image_form.specs.Tables.{Func, Tables}
use Rattle.rv_layout_rules.specs.declared.form.Form.{Form}
use Rattle.rv_layout_rules.specs.Forms.{total_words}
use Rattle.rv_layout_rules.specs.Laid.{AllReach, address_of_place, function_entries_from, rows_from}
use Rattle.moving_laws.specs.Values.{function_at}
use Rattle.rv_machine.specs.Memory.{code_start}
use Rattle.rv_pieces.specs.declared.piece.Pieces.{Pieces}
use Rattle.function_stands.specs.Compiled.{IsImageOfPieces}
use Rattle.function_stands.specs.Functions.{entry_place}

-- ---- rows that are laid one after the other

function_at_entry : (fs : List FunctionTree) (ps : List Pieces) (forms : List (List Form)) (at k : ℕ) → length ps ≡ length fs → AllReach ps forms →
    function_at (rows_from at fs ps forms) k ≡ address_of_place (slice_index (function_entries_from at ps forms) k)
function_at_entry [] [] forms at k same are = refl
function_at_entry [] (p ∷ ps) forms at k same are = absurd (omega (arith, same))
function_at_entry (f ∷ fs) [] forms at k same are = absurd (omega (arith, same))
function_at_entry (f ∷ fs) (p ∷ ps) [] at k same are = absurd are
function_at_entry (f ∷ fs) (p ∷ ps) (g ∷ forms) at zero same are = refl
function_at_entry (f ∷ fs) (p ∷ ps) (g ∷ forms) at (suc k) same are =
    function_at_entry fs ps forms (at + total_words p.code g) k (omega (arith, same)) are.1

as_many_rows : (fs : List FunctionTree) (ps : List Pieces) (forms : List (List Form)) (at : ℕ) → length ps ≡ length fs → AllReach ps forms →
    length (rows_from at fs ps forms) ≡ length fs
as_many_rows [] ps forms at same are = refl
as_many_rows (f ∷ fs) [] forms at same are = absurd (omega (arith, same))
as_many_rows (f ∷ fs) (p ∷ ps) [] at same are = absurd are
as_many_rows (f ∷ fs) (p ∷ ps) (g ∷ forms) at same are =
    let rest = as_many_rows fs ps forms (at + total_words p.code g) (omega (arith, same)) are.1 in omega (arith, rest)

-- ---- one row

some_row : (a b : Func) → Some a ≡ Some b → a ≡ b
some_row a b e = cc

row_address : (rows : List Func) (f : ℕ) (row : Func) → slice_get rows f ≡ Some row → function_at rows f ≡ code_start + row.offset
row_address [] f row is = cc
row_address (r ∷ rows) zero row is = ap (λ (r : Func). code_start + r.offset) (some_row r row is)
row_address (r ∷ rows) (suc f) row is = row_address rows f row is

row_frame : (rows : List Func) (f : ℕ) (row : Func) → slice_get rows f ≡ Some row → slice_index (map (λ (r : Func). r.frame) rows) f ≡ row.frame
row_frame [] f row is = cc
row_frame (r ∷ rows) zero row is = ap (λ (r : Func). r.frame) (some_row r row is)
row_frame (r ∷ rows) (suc f) row is = row_frame rows f row is

pub frame_at : (image : Tables) (f : ℕ) (row : Func) → slice_get image.funcs f ≡ Some row → slice_index (layout_of image).frames f ≡ row.frame
frame_at image f row is = row_frame image.funcs f row is

-- ---- the image of a file

module _ (image : Tables) (file : FileTree) (ps : List Pieces) (c : Setting) (it : IsImageOfPieces image file ps c) where
  abbrev entries : List ℕ
  entries = function_entries_from stub_words ps it.laid.forms

  pub rows_are : (f : ℕ) → function_at image.funcs f ≡ address_of_place (slice_index entries f)
  rows_are f =
      ap (λ (t : Tables). function_at t.funcs f) it.laid.is
      ∙ function_at_entry (functions file) ps it.laid.forms stub_words f it.can.each_one it.laid.reach

  -- The entry of a function lies where its pieces are laid.
  pub entry_is : (f : ℕ) → entry_place image f ≡ slice_index entries f
  entry_is f = let e = rows_are f in omega (arith, e)

  pub entry_address : (f : ℕ) → function_at image.funcs f ≡ address_of_place (entry_place image f)
  entry_address f = let e = rows_are f in omega (arith, e)

  -- So says its row.
  pub entry_offset : (f : ℕ) (row : Func) → slice_get image.funcs f ≡ Some row → row.offset ≡ 4 * entry_place image f
  entry_offset f row is = let a = row_address image.funcs f row is in let e = rows_are f in omega (arith, a, e)

  -- There is a row for each function.
  pub as_many : length image.funcs ≡ length (functions file)
  as_many =
      ap (λ (t : Tables). length t.funcs) it.laid.is ∙ as_many_rows (functions file) ps it.laid.forms stub_words it.can.each_one it.laid.reach
