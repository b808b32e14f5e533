use Rattle.mach_laws.proofs.Places.{args_in_code, results_in_code}
use Rattle.interfere.proofs.Entering.{regs_small, read_in, code_begun, code_more, code_all}
use Rattle.std.proofs.Common.{◌∙◌}
use Rattle.interfere.proofs.registers.enter_code.Goals as goal

pub loop-instr-init : goal.loop-instr-init
loop-instr-init c = code_begun c.args.code.now c.args.table.now.items

pub enter-requires : goal.enter-requires
enter-requires c =
    let i = c.instr-item.result in
    let at = read_in c.args.code.now c.loop-instr.instr-index i c.loop-instr-test.true c.instr-item.is in
    regs_small _ _ i.args c.as_slice.result.now c.as_slice.ensures
    (λ r a. c.requires r (args_in_code c.args.code.now i r at a)) c.loop-instr.invariant.len

pub enter-requires-in-loop-instr : goal.enter-requires-in-loop-instr
enter-requires-in-loop-instr c =
    let i = c.instr-item.result in
    let at = read_in c.args.code.now c.loop-instr.instr-index i c.loop-instr-test.true c.instr-item.is in
    regs_small _ _ i.results c.as_slice-in-loop-instr.result.now c.as_slice-in-loop-instr.ensures
    (λ r a. c.requires r (results_in_code c.args.code.now i r at a)) (c.enter.ensures.len ∙ c.loop-instr.invariant.len)

pub loop-instr-preserved : goal.loop-instr-preserved
loop-instr-preserved c =
    code_more c.args.code.now c.loop-instr.instr-index c.instr-item.result c.as_slice.result.now c.as_slice-in-loop-instr.result.now
    c.args.table.now.items c.loop-instr.table.items c.enter.new.table.items c.enter-in-loop-instr.new.table.items c.loop-instr-test.true
    c.instr-item.is c.as_slice.ensures c.as_slice-in-loop-instr.ensures c.loop-instr.invariant c.enter.ensures c.enter-in-loop-instr.ensures

pub returns : goal.returns
returns c =
    code_all c.args.code.now c.loop-instr.instr-index c.args.table.now.items c.loop-instr.table.items c.loop-instr-test.false
    c.loop-instr.invariant
