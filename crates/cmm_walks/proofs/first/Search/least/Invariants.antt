use Rattle.std.proofs.Common.{length}
use Rattle.cmm_walks.specs.Labels.{IsUnlabelled}
use Rattle.cmm_walks.proofs.Searches.{SlotsDone}
use Rattle.cmm_walks.proofs.first.Search.least.Given as goal

abbrev pub invariant-loop-slot : goal.invariant-loop-slot
invariant-loop-slot l = record {
  unlabelled : IsUnlabelled (length l.self.nodes.now) l.labels;
  done : SlotsDone l.self.nodes.now l.goal l.slot l.found.items;
}
