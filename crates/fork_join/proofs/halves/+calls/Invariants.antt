use Rattle.std.proofs.Common.{◌+◌, ◌*◌, length}
use Rattle.fork_join.proofs.halves.+calls.Given as goal

abbrev pub decreases-halves : goal.decreases-halves
decreases-halves g l = 2 * length l.work.now

abbrev pub decreases-front : goal.decreases-front
decreases-front g l = 2 * length l.low.now + 1

abbrev pub decreases-back : goal.decreases-back
decreases-back g l = 2 * length l.high.now + 1
