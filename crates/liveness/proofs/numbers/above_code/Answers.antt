use Rattle.std.proofs.Common.{suc, ◌<◌, subst}
use Rattle.std.proofs.lemmas.List.{take_all}
use Rattle.liveness.specs.Numbers.{IsAboveCode}
use Rattle.mach_ir.specs.Sizes.{number_limit}
use Rattle.mach_ir.specs.declared.reg.Reg.{Reg}
use Rattle.liveness.proofs.Bounds.{code_begun, code_step}
use Rattle.liveness.proofs.Counting.{args_all, results_all}
use Rattle.liveness.proofs.numbers.above_code.Goals as goal

pub loop-instr-init : goal.loop-instr-init
loop-instr-init c = code_begun c.args.bound c.args.code.now

pub loop-instr-preserved : goal.loop-instr-preserved
loop-instr-preserved c =
    code_step c.args.bound c.loop-instr.above_all c.above-above_args.result c.above-above_all.result c.loop-instr.instr-index
    c.args.code.now c.instr-item.result c.as_slice.result.now c.as_slice-in-loop-instr.result.now c.loop-instr-test.true c.instr-item.is
    c.as_slice.ensures c.as_slice-in-loop-instr.ensures c.loop-instr.invariant c.above-above_args.ensures c.above-above_all.ensures

pub returns : goal.returns
returns c =
    subst (λ xs. IsAboveCode c.args.bound xs c.loop-instr.above_all) (take_all c.loop-instr.instr-index c.args.code.now c.loop-instr-test.false)
    c.loop-instr.invariant

pub above-above_args-requires : goal.above-above_args-requires
above-above_args-requires c =
    args_all (λ (r : Reg). suc r.number < number_limit) c.args.code.now c.loop-instr.instr-index c.instr-item.result c.as_slice.result.now c.requires
    c.loop-instr-test.true c.instr-item.is c.as_slice.ensures

pub above-above_all-requires : goal.above-above_all-requires
above-above_all-requires c =
    results_all (λ (r : Reg). suc r.number < number_limit) c.args.code.now c.loop-instr.instr-index c.instr-item.result
    c.as_slice-in-loop-instr.result.now c.requires c.loop-instr-test.true c.instr-item.is c.as_slice-in-loop-instr.ensures
