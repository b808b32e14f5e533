use Rattle.std.proofs.Common.{◌≤◌, length, drop}
use Rattle.spill.specs.Graphs.{AreLostNodes}
use Rattle.spill.proofs.lost.lost_places.Given as goal

abbrev pub invariant-loop-left : goal.invariant-loop-left
invariant-loop-left l =
    record {
      within : l.left ≤ length l.mach.code;
      nodes : AreLostNodes l.mach l.live.before.rows.items l.flow.bound (drop l.left l.mach.code) l.nodes;
    }

abbrev pub decreases-loop-left : goal.decreases-loop-left
decreases-loop-left l = l.left
