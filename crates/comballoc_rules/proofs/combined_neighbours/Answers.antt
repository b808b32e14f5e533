use Rattle.comballoc_rules.proofs.Neighbours.{neighbours}
use Rattle.comballoc_rules.proofs.combined_neighbours.Goals as goal

pub returns : goal.returns
returns c = λ m blocks others n. neighbours m blocks others n
