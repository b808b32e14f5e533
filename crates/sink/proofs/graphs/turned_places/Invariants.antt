use Rattle.std.proofs.Common.{length}
use Rattle.sink.proofs.Popping.{Turning}
use Rattle.sink.proofs.graphs.turned_places.Given as goal

abbrev pub invariant-loop-place : goal.invariant-loop-place
invariant-loop-place l = Turning l.fn.places.items l.left.items l.made

abbrev pub decreases-loop-place : goal.decreases-loop-place
decreases-loop-place l = length l.left.items
