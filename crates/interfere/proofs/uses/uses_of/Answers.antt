use Rattle.std.proofs.Common.{◌∙◌}
use Rattle.interfere.proofs.Counting.{args_fit, results_fit}
use Rattle.mach_laws.proofs.Places.{args_in_code, results_in_code}
use Rattle.interfere.proofs.Entering.{regs_small, read_in}
use Rattle.interfere.proofs.uses.uses_of.Goals as goal

pub count-requires-clause-numbers : goal.count-requires-clause-numbers
count-requires-clause-numbers c =
    let i = c.instr-item.result in
    let at = read_in c.args.code.now c.loop-instr.instr-index i c.loop-instr-test.true c.instr-item.is in
    regs_small c.args.size _ i.args c.as_slice.result.now c.as_slice.ensures (λ r a. c.requires.numbers r (args_in_code c.args.code.now i r at a))
    c.loop-instr.invariant.len

pub count-requires-clause-countable : goal.count-requires-clause-countable
count-requires-clause-countable c =
    args_fit _ c.args.code.now c.loop-instr.instr-index c.instr-item.result c.loop-instr-test.true c.instr-item.is
    c.loop-instr.invariant.uses c.requires.countable c.as_slice.result.now c.as_slice.ensures

pub count-requires-in-loop-instr-clause-numbers : goal.count-requires-in-loop-instr-clause-numbers
count-requires-in-loop-instr-clause-numbers c =
    let i = c.instr-item.result in
    let at = read_in c.args.code.now c.loop-instr.instr-index i c.loop-instr-test.true c.instr-item.is in
    regs_small c.args.size _ i.results c.as_slice-in-loop-instr.result.now c.as_slice-in-loop-instr.ensures
    (λ r a. c.requires.numbers r (results_in_code c.args.code.now i r at a)) (c.count.ensures.len ∙ c.loop-instr.invariant.len)

pub count-requires-in-loop-instr-clause-countable : goal.count-requires-in-loop-instr-clause-countable
count-requires-in-loop-instr-clause-countable c =
    results_fit _ c.args.code.now c.loop-instr.instr-index c.instr-item.result c.loop-instr-test.true c.instr-item.is
    c.loop-instr.invariant.uses c.requires.countable c.as_slice.result.now c.as_slice-in-loop-instr.result.now _ c.as_slice.ensures c.as_slice-in-loop-instr.ensures
    c.count.ensures.more
