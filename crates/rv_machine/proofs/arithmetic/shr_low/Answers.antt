use Rattle.std.proofs.Common.{arith}
use Rattle.rv_machine.proofs.LowHalf.{shr_extended}
use Rattle.rv_machine.proofs.arithmetic.shr_low.Goals as goal

pub returns : goal.returns
returns c = grind (arith, shr_extended)
