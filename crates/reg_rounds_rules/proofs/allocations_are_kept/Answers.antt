use Rattle.reg_rounds_rules.proofs.Kept.{allocated_kept}
use Rattle.reg_rounds_rules.proofs.allocations_are_kept.Goals as goal

pub returns : goal.returns
returns c = λ alloc m q formed well low is. allocated_kept m q formed well low is
