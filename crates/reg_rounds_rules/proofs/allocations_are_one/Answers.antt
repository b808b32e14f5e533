use Rattle.reg_rounds_rules.proofs.Once.{allocated_once}
use Rattle.reg_rounds_rules.proofs.allocations_are_one.Goals as goal

pub returns : goal.returns
returns c = λ alloc m q k a b. allocated_once a b
