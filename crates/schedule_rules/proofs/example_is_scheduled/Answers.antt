use Rattle.schedule_rules.proofs.Example.{heights, order}
use Rattle.schedule_rules.proofs.example_is_scheduled.Goals as goal

pub returns-clause-heights : goal.returns-clause-heights
returns-clause-heights c = heights

pub returns-clause-order : goal.returns-clause-order
returns-clause-order c = order
