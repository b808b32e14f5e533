use Rattle.std.proofs.Common.{length}
use Rattle.rv_emit.proofs.output.Output.+tests_in_turn.Given as goal

abbrev pub decreases-tests_in_turn : goal.decreases-tests_in_turn
decreases-tests_in_turn l = length l.labels.now
