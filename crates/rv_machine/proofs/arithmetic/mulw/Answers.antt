use Rattle.std.proofs.Common.{arith}
use Rattle.rv_machine.proofs.LowHalf.{mul_extended}
use Rattle.rv_machine.proofs.arithmetic.mulw.Goals as goal

pub returns : goal.returns
returns c = grind (arith, mul_extended)
