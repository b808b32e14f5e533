use Rattle.std.proofs.Common.{◌≡◌, ◌+◌, List, ◌∷◌, length, refl, ap, ◌∙◌}
use Rattle.std.proofs.lemmas.Result.{on_ok_weaker}
use Rattle.cmm_meaning.specs.Evaluation.{comps_of_arguments}
use Rattle.cmm_tree.specs.Rows.{expressions_of}
use Rattle.mach_ir.specs.declared.reg.Reg.{Reg}
use Rattle.mach_ir.specs.declared.mach.Instr.{Instr}
use Rattle.selection_rules.specs.Instructions as emit
use Rattle.selection_rules.specs.Select.{moves_all, regs_of, result_seat, seats, select_waiting}
use Rattle.selection_operands.proofs.CallNumbers.{row-is, seated-is, given-is, base-is}
use Rattle.selection_operands.proofs.RowForms.{extcall-is}
use Rattle.selection_scope.specs.Scoping.{LexicalScope, scoped_names}
use Rattle.selection_operands.proofs.leaving.extcall.Goals as goal

pub returns-clause-code : goal.returns-clause-code
returns-clause-code g c =
    let s = c.args.scope.now in
    let row = c.args.node.place.base + 1 in
    let numbers = c.call_numbers-numbers.result in
    let count = length c.args.arguments.now in
    let es = expressions_of c.args.arguments.now in
    let regs = regs_of s.names row es in
    let args = seats 0 numbers.seated regs in
    let outside = c.args.outside in
    let comps = comps_of_arguments (scoped_names s) es in
    let results = result_seat numbers.given outside.result in
    let is = c.call_numbers-numbers.ensures in
    let called : List Reg → List Instr = λ a. emit.external_instruction outside.name.now comps outside.result outside.frame a results ∷ c.from_seat.new.self in
    let moved : c.put_external.new.code ≡ moves_all regs args (called args) =
    c.in_ok-put_external.ensures ∙ ap (λ k. moves_all (regs_of s.names k es) (seats 0 numbers.seated (regs_of s.names k es)) (called (seats 0 numbers.seated (regs_of s.names k es)))) (row-is row count numbers is) in
    on_ok_weaker c.put_row-2.result
    (λ h. λ at result_at.
    extcall-is s c.args.node.place c.args.node.ty outside.frame outside.name.now c.args.arguments.now outside.result row count numbers.seated numbers.given numbers.base regs args results comps c.dest.result
    c.args.code.now c.from_seat.new.self (called args) c.put_external.new.code c.put_row.new.code c.put_row-2.new.code at result_at
    refl refl (seated-is row count numbers is) (given-is row count numbers is) (base-is row count numbers is)
    refl refl refl refl (c.requires.ty at result_at) c.dest.ensures
    c.in_ok-from_seat.ensures
    refl
    moved
    c.in_ok-put_row.ensures.code
    (h ∙ ap (λ (v : LexicalScope). select_waiting v.names v.labels row numbers.base es c.put_row.new.code) c.in_ok-put_row.ensures.scope))
    c.put_row-2.ensures.code
