-- The rows of an image are those of its file: their types, their frames and their entries.
use Rattle.std.proofs.Common.{◌≡◌, ℕ, zero, suc, ◌+◌, ◌≤◌, List, [], ◌∷◌, ◌++◌, length, map, Some, refl, sym, ap, ◌∙◌, subst, arith, length-append}
use Rattle.std.specs.Prelude.{slice_get, slice_index}
use Rattle.std.specs.List.{AllByRecursion}
use Rattle.std.proofs.lemmas.List.{length-map}
use Rattle.cmm_tree.specs.Tree.{FunctionTree, FileTree, Parameter, comps_of, functions}
use Rattle.correctness.specs.Setting.{AreRowsOf, layout_of}
use Rattle.image_form.specs.Image.{stub, stub_words}
use Rattle.image_form.specs.Tables.{Func, Tables}
use Rattle.rv_layout_rules.specs.declared.form.Form.{Form}
use Rattle.rv_layout_rules.specs.Conditions.{CanBeLaid, IsRowLaid}
use Rattle.rv_layout_rules.specs.Forms.{total_words}
use Rattle.rv_layout_rules.specs.Laid.{AllReach, IsLaid, code_from, function_entries_from, rows_from}
use Rattle.rv_pieces.specs.declared.piece.Pieces.{Pieces}
use Rattle.compiled_files.specs.Image.{function_word_count}

types_are : (at : ℕ) (fs : List FunctionTree) (ps : List Pieces) (forms : List (List Form)) → length ps ≡ length fs → AllReach ps forms →
    AreRowsOf fs (rows_from at fs ps forms)
types_are at [] [] forms same are = tt
types_are at [] (p ∷ ps) forms same are = absurd (omega (arith, same))
types_are at (f ∷ fs) [] forms same are = absurd (omega (arith, same))
types_are at (f ∷ fs) (p ∷ ps) [] same are = absurd are
types_are at (f ∷ fs) (p ∷ ps) (k ∷ forms) same are =
    (record { name = refl; params = refl; result = refl }, types_are (at + total_words p.code k) fs ps forms (omega (arith, same)) are.1)

abbrev frames_in : List Func → List ℕ
frames_in rows = map (λ (row : Func). row.frame) rows

frame_is : (at : ℕ) (fs : List FunctionTree) (ps : List Pieces) (forms : List (List Form)) (n : ℕ) (q : Pieces) → length ps ≡ length fs →
    AllReach ps forms → slice_get ps n ≡ Some q → slice_index (frames_in (rows_from at fs ps forms)) n ≡ q.frame
frame_is at fs [] forms n q same are is = cc
frame_is at [] (p ∷ ps) forms n q same are is = absurd (omega (arith, same))
frame_is at (f ∷ fs) (p ∷ ps) [] n q same are is = absurd are
frame_is at (f ∷ fs) (p ∷ ps) (k ∷ forms) zero q same are is = let e : p ≡ q = cc in ap (λ (p : Pieces). p.frame) e
frame_is at (f ∷ fs) (p ∷ ps) (k ∷ forms) (suc n) q same are is = frame_is (at + total_words p.code k) fs ps forms n q (omega (arith, same)) are.1 is

frame_none : (at : ℕ) (fs : List FunctionTree) (ps : List Pieces) (forms : List (List Form)) (n : ℕ) → length ps ≤ n →
    slice_index (frames_in (rows_from at fs ps forms)) n ≡ 0
frame_none at [] ps forms n h = refl
frame_none at (f ∷ fs) [] forms n h = refl
frame_none at (f ∷ fs) (p ∷ ps) [] n h = refl
frame_none at (f ∷ fs) (p ∷ ps) (k ∷ forms) zero h = absurd (omega (arith, h))
frame_none at (f ∷ fs) (p ∷ ps) (k ∷ forms) (suc n) h = frame_none (at + total_words p.code k) fs ps forms n (omega (arith, h))

few_in : (fs : List FunctionTree) (n : ℕ) (f : FunctionTree) → AllByRecursion IsRowLaid fs → slice_get fs n ≡ Some f → length (comps_of f) ≤ 16
few_in [] n f all is = cc
few_in (g ∷ fs) zero f all is =
    let e : g ≡ f = cc in
    let few = all.0.few in
    subst (λ (g : FunctionTree). length (comps_of g) ≤ 16) e (omega (arith, few, length-map g.params (λ (p : Parameter). p.comp)))
few_in (g ∷ fs) (suc n) f all is = few_in fs n f all.1 is

module _ (file : FileTree) (image : Tables) (ps : List Pieces) (can : CanBeLaid file ps) (laid : IsLaid file ps image) where
  abbrev forms : List (List Form)
  forms = laid.forms

  rows_are : image.funcs ≡ rows_from stub_words (functions file) ps forms
  rows_are = ap (λ (t : Tables). t.funcs) laid.is

  -- The rows of the image are those of the file.
  pub rows : AreRowsOf (functions file) image.funcs
  rows =
      subst (AreRowsOf (functions file)) (sym rows_are) (types_are stub_words (functions file) ps forms can.each_one laid.reach)

  -- Their frames are those of the pieces.
  pub frame : (f : ℕ) (p : Pieces) → slice_get ps f ≡ Some p → slice_index (layout_of image).frames f ≡ p.frame
  frame f p is =
      ap (λ (rows : List Func). slice_index (frames_in rows) f) rows_are
      ∙ frame_is stub_words (functions file) ps forms f p can.each_one laid.reach is

  pub no_frame : (f : ℕ) → length ps ≤ f → slice_index (layout_of image).frames f ≡ 0
  no_frame f h = ap (λ (rows : List Func). slice_index (frames_in rows) f) rows_are ∙ frame_none stub_words (functions file) ps forms f h

  pub few : (f : ℕ) (tree : FunctionTree) → slice_get (functions file) f ≡ Some tree → length (comps_of tree) ≤ 16
  few f tree is = few_in (functions file) f tree can.of_file.rows is

  -- The code has the words of the functions, and the stub.
  pub words_many : length image.code ≡ stub_words + function_word_count image
  words_many =
      let code = code_from file (function_entries_from stub_words ps forms) stub_words ps forms in
      let long : length image.code ≡ length (stub ++ code) = ap (λ (t : Tables). length t.code) laid.is in
      omega (arith, long, length-append stub code)

  pub words_fit : function_word_count image + 1 ≤ length image.code
  words_fit = let many = words_many in omega (arith, many)
