use Rattle.std.proofs.Common.{◌∙◌, ap, arith}
use Rattle.rv_machine.specs.Hart.{Hart}
use Rattle.rv_machine.specs.Services.{returned_with}
use Rattle.rv_machine.specs.Step.{registers_after}
use Rattle.mover_runtime.proofs.Retiring.{counted_is}
use Rattle.mover_runtime.proofs.counting.finish_call.Goals as goal

pub returns : goal.returns
returns c =
    let exact = c.finish_call.ensures
    ∙ counted_is (returned_with (registers_after c.args.answer c.args.machine.now.registers) c.args.machine.now) (omega (arith, c.requires.room)) in
    record { exact = exact; retired = ap (λ (h : Hart). h.retired) exact }
