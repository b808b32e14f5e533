use Rattle.cmm_walks.proofs.Spreads.{Clearing}
use Rattle.cmm_walks.proofs.labels.NodeLabels.clear.Given as goal

abbrev pub invariant-loop-i : goal.invariant-loop-i
invariant-loop-i l = Clearing l.initial.self l.self l.i
