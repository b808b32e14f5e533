use Rattle.std.proofs.Common.{◌-◌}
use Rattle.sink.proofs.Living.{Found}
use Rattle.sink.proofs.graphs.living.Given as goal

abbrev pub invariant-loop-from : goal.invariant-loop-from
invariant-loop-from l = Found l.live.before.rows.items l.place l.except l.from l.found.items

abbrev pub decreases-loop-from : goal.decreases-loop-from
decreases-loop-from l = l.bound - l.from
