-- The parts of the code of a whole function.
use Rattle.std.specs.Prelude.{suc, ◌+◌, true, not, List, [], length}
use Rattle.bs_words.specs.declared.types.Ty.{Ty}
use Rattle.cmm_tree.specs.Tree.{FunctionTree}
use Rattle.cmm_types.specs.Types.{body_type, result_of}
use Rattle.mach_ir.specs.declared.mach.Instr.{Instr}
use Rattle.selection_rules.specs.Select.{first_after_colours, fresh_register, is_no_value, params_from, return_code, select, width, with_params}
use Rattle.selection.specs.declared.function.Numbers.{Numbers}

-- the numbers of its registers and labels
abbrev pub numbers_in : FunctionTree → Numbers
numbers_in f =
    let moved = first_after_colours + length f.params in
    let value = moved + length f.params in
    let base = suc (suc value) in
    record { moved = moved; value = value; given = suc value; base = base; labels = base + width f.body }

-- its body, and what it gives back
abbrev pub body_code : FunctionTree → List Instr
body_code f =
    let type : Ty = body_type f in
    let moved = first_after_colours + length f.params in
    let params = params_from moved f.params in
    let n = moved + length f.params in
    let env = with_params f.params params [] in
    select env [] (not (is_no_value type)) true (fresh_register n type) (suc (suc n)) f.body
    (return_code (fresh_register n type) (suc n) (result_of type))
