use Rattle.std.proofs.Common.{◌≡◌, ◌≤◌, length, drop}
use Rattle.mach_ir.specs.Meaning.{tries_at}
use Rattle.liveness.specs.Nodes.{AreLivenessNodes, register_uses}
use Rattle.liveness.proofs.flow.nodes_of.Given as goal

abbrev pub invariant-loop-left : goal.invariant-loop-left
invariant-loop-left l =
    record {
      within : l.left ≤ length l.mach.code;
      nodes : AreLivenessNodes l.mach (register_uses l.mach) (drop l.left l.mach.code) l.nodes;
      tries : l.tries ≡ tries_at (drop l.left l.mach.code);
    }

abbrev pub decreases-loop-left : goal.decreases-loop-left
decreases-loop-left l = l.left
