-- Each function of an image has an instruction in its code.
use Rattle.std.proofs.Common.{◌≡◌, ℕ, zero, suc, ◌+◌, ◌*◌, ◌<◌, List, [], ◌∷◌, ◌++◌, length, subst, sym, ap, length-append, arith}
use Rattle.std.specs.List.{AllByRecursion}
use Rattle.cmm_tree.specs.Tree.{FunctionTree, FileTree, functions}
use Rattle.image_form.specs.Image.{AreTables, stub, stub_words}
use Rattle.image_form.specs.Tables.{Tables, Func}
use Rattle.assemble_rules.proofs.Whole.{total_some}
use Rattle.rv_layout_rules.specs.declared.form.Form.{Form}
use Rattle.rv_layout_rules.specs.Conditions.{CanBeLaid, IsFunctionLaid}
use Rattle.rv_layout_rules.specs.Forms.{total_words, label_word_offset}
use Rattle.rv_layout_rules.specs.Laid.{function_entries_from, function_words, code_from, rows_from, AllReach, IsLaid}
use Rattle.rv_layout_rules.proofs.Functions.{forms_length, function_length}
use Rattle.moving_laws.specs.Values.{HasFunctions, function_at}
use Rattle.rv_machine.specs.Memory.{code_start}
use Rattle.rv_pieces.specs.declared.piece.Pieces.{Pieces}

begins_inside : (file : FileTree) (entries : List ℕ) (at : ℕ) (fs : List FunctionTree) (ps : List Pieces) (forms : List (List Form)) (f : ℕ) → AllReach ps forms →
    AllByRecursion (IsFunctionLaid file) ps → f < length (rows_from at fs ps forms) →
    function_at (rows_from at fs ps forms) f < code_start + 4 * (at + length (code_from file entries at ps forms))
begins_inside file entries at [] ps forms f are laid lt = absurd (omega (arith, lt))
begins_inside file entries at (g ∷ fs) [] forms f are laid lt = absurd (omega (arith, lt))
begins_inside file entries at (g ∷ fs) (p ∷ ps) [] f are laid lt = absurd are
begins_inside file entries at (g ∷ fs) (p ∷ ps) (k ∷ forms) zero are laid lt =
    let some = laid.0.nonempty in
    let next = at + total_words p.code k in
    omega (
      arith,
      some,
      total_some p.code k (forms_length (label_word_offset p.code k) 0 p.code k are.0),
      function_length file entries at p k,
      length-append (function_words file entries at p.code k) (code_from file entries next ps forms),
    )
begins_inside file entries at (g ∷ fs) (p ∷ ps) (k ∷ forms) (suc f) are laid lt =
    let next = at + total_words p.code k in
    let later = begins_inside file entries next fs ps forms f are.1 laid.1 (omega (arith, lt)) in
    omega (arith, later, function_length file entries at p k, length-append (function_words file entries at p.code k) (code_from file entries next ps forms))

pub has_functions : (file : FileTree) (ps : List Pieces) (image : Tables) → IsLaid file ps image → CanBeLaid file ps → AreTables image → HasFunctions image
has_functions file ps image laid can tables = record { tables = tables; inside = inside }
  where
    forms : List (List Form)
    forms = laid.forms

    entries : List ℕ
    entries = function_entries_from stub_words ps laid.forms

    inside : (f : ℕ) → f < length image.funcs → function_at image.funcs f < code_start + 4 * length image.code
    inside f lt =
        let code = code_from file entries stub_words ps laid.forms in
        let rows_are : image.funcs ≡ rows_from stub_words (functions file) ps laid.forms = ap (λ (t : Tables). t.funcs) laid.is in
        let long : length image.code ≡ length (stub ++ code) = ap (λ (t : Tables). length t.code) laid.is in
        let own = begins_inside file entries stub_words (functions file) ps laid.forms f laid.reach can.each (subst (λ (rows : List Func). f < length rows) rows_are lt) in
        subst (λ (rows : List Func). function_at rows f < code_start + 4 * length image.code) (sym rows_are) (omega (arith, own, long, length-append stub code))
