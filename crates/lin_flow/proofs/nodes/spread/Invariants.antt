use Rattle.std.proofs.Common.{◌≤◌, length}
use Rattle.lin_flow.specs.Nodes.{Spreads}
use Rattle.lin_flow.proofs.nodes.spread.Given as goal

abbrev pub invariant-loop-visit : goal.invariant-loop-visit
invariant-loop-visit l =
    record {
      spreads : Spreads l.lin l.initial.search l.search l.nodes.items;
      visited : l._visit ≤ length l.nodes.items;
    }
