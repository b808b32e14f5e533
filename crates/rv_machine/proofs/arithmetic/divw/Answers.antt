use Rattle.std.proofs.Common.{arith}
use Rattle.rv_machine.proofs.LowHalf.{low_nonzero, div_extended}
use Rattle.rv_machine.proofs.arithmetic.divw.Goals as goal

pub returns-else-divisor-eq0 : goal.returns-else-divisor-eq0
returns-else-divisor-eq0 c = grind (arith, low_nonzero, div_extended)
