use Rattle.std.proofs.Common.{length}
use Rattle.rv_emit.proofs.output.Output.+addresses.Given as goal

abbrev pub decreases-addresses : goal.decreases-addresses
decreases-addresses l = length l.blocks.now
