use Rattle.std.proofs.Common.{length}
use Rattle.rv_emit.proofs.units.+falls_to.Given as goal

abbrev pub decreases-falls_to : goal.decreases-falls_to
decreases-falls_to l = length l.code.now
