use Rattle.std.proofs.Common.{◌≤◌, length, drop}
use Rattle.bs_words.specs.Contents.{contents}
use Rattle.sink.specs.Graphs.{AreStaleNodes}
use Rattle.sink.proofs.Popping.{Rest}
use Rattle.sink.proofs.graphs.stale_places.Given as goal

abbrev pub invariant-loop-place : goal.invariant-loop-place
invariant-loop-place l =
    record {
      short : length l.left.items ≤ length l.mach.code;
      rest : Rest (contents l.fn.flow.places) l.left.items;
      nodes : AreStaleNodes l.mach l.live.before.rows.items (drop (length l.left.items) l.mach.code) l.nodes;
    }

abbrev pub decreases-loop-place : goal.decreases-loop-place
decreases-loop-place l = length l.left.items
