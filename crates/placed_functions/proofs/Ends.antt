-- Selected code ends in a return.
use Rattle.std.proofs.Common.{ℕ, suc, true, not, List, []}
use Rattle.bs_words.specs.declared.types.Ret.{Ret}
use Rattle.bs_words.specs.declared.types.Ret.TheVariants as ret
use Rattle.cmm_tree.specs.Tree.{FunctionTree}
use Rattle.cmm_types.specs.Types.{body_type, result_of}
use Rattle.mach_ir.specs.declared.mach.Instr.{Instr}
use Rattle.mach_ir.specs.declared.reg.Reg.{Reg}
use Rattle.pass_rules.specs.Carried.{EndsInReturn, at_return, further}
use Rattle.selection_rules.specs.Select.{selected, select, return_code, first_after_colours, is_no_value, fresh_register, seats}
use Rattle.selection_rules.proofs.Endings.{ending_moves, ending_select}
use Rattle.selection_rules.proofs.Parts.{Within, inside_in}
use Rattle.selection_places.proofs.Whole.{value_at, params_of, env_of}
use Rattle.mach_laws.specs.Expand.{Ending, all, more}

ends_through : {rest code : List Instr} → Ending rest code → EndsInReturn rest → EndsInReturn code
ends_through all e = e
ends_through (more x) e = further (ends_through x e)

returns_end : (d : Reg) (n : ℕ) (result : Ret) → EndsInReturn (return_code d n result)
returns_end d n ret.Unit = at_return
returns_end d n (ret.Comp c) = further at_return

pub selected_end : (f : FunctionTree) → EndsInReturn (selected f).code
selected_end f =
    let d = fresh_register (value_at f) (body_type f) in
    let last = return_code d (suc (value_at f)) (result_of (body_type f)) in
    let body : Within last (select (env_of f) [] (not (is_no_value (body_type f))) true d (suc (suc (value_at f))) f.body last) =
    ending_select (env_of f) [] (not (is_no_value (body_type f))) true d (suc (suc (value_at f))) f.body last in
    let whole : Within last (selected f).code = inside_in body (ending_moves (seats 0 first_after_colours (params_of f)) (params_of f) _) in
    ends_through whole.ending (returns_end d (suc (value_at f)) (result_of (body_type f)))
