use Rattle.std.proofs.Common.{arith}
use Rattle.rv_machine.proofs.LowHalf.{sar_extended}
use Rattle.rv_machine.proofs.arithmetic.sar_low.Goals as goal

pub returns : goal.returns
returns c = grind (arith, sar_extended)
