use Rattle.std.proofs.Common.{◌≤◌, length, drop}
use Rattle.liveness.specs.Nodes.{AreLivenessNodes}
use Rattle.spill.specs.Graphs.{wanted_uses}
use Rattle.spill.proofs.wanted.wanted_places.Given as goal

abbrev pub invariant-loop-left : goal.invariant-loop-left
invariant-loop-left l =
    record {
      within : l.left ≤ length l.mach.code;
      nodes : AreLivenessNodes l.mach (wanted_uses l.mach l.lost.rows.items) (drop l.left l.mach.code) l.nodes;
    }

abbrev pub decreases-loop-left : goal.decreases-loop-left
decreases-loop-left l = l.left
