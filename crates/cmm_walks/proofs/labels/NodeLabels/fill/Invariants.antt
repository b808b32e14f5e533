use Rattle.cmm_walks.proofs.Spreads.{Filling}
use Rattle.cmm_walks.proofs.labels.NodeLabels.fill.Given as goal

abbrev pub invariant-loop-seed : goal.invariant-loop-seed
invariant-loop-seed l = Filling l.nodes l.slot l.seed-items l.seed-index l.self
