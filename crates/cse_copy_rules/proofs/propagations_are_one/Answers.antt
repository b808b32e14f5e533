use Rattle.cse_copy_rules.proofs.One.{one_propagated}
use Rattle.cse_copy_rules.proofs.propagations_are_one.Goals as goal

pub returns : goal.returns
returns c = one_propagated
