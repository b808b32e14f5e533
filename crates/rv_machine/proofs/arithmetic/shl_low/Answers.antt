use Rattle.std.proofs.Common.{arith}
use Rattle.rv_machine.proofs.LowHalf.{shl_extended}
use Rattle.rv_machine.proofs.arithmetic.shl_low.Goals as goal

pub returns : goal.returns
returns c = grind (arith, shl_extended)
