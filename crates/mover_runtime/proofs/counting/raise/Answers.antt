use Rattle.std.proofs.Common.{◌∙◌, ap, arith}
use Rattle.rv_machine.specs.FrameCalls.{raised}
use Rattle.rv_machine.specs.Hart.{Hart}
use Rattle.rv_machine.specs.Services.{cleared}
use Rattle.mover_runtime.proofs.Retiring.{counted_is}
use Rattle.mover_runtime.proofs.counting.raise.Goals as goal

pub returns : goal.returns
returns c =
    let exact = c.raise.ensures ∙ counted_is (raised c.args.value (cleared c.args.machine.now)) (omega (arith, c.requires.room)) in
    record { exact = exact; retired = ap (λ (h : Hart). h.retired) exact }
