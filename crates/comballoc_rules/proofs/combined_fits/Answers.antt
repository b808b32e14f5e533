use Rattle.comballoc_rules.proofs.Largest.{largest}
use Rattle.comballoc_rules.proofs.combined_fits.Goals as goal

pub returns : goal.returns
returns c = λ m i blocks d a. largest m i blocks d a
