use Rattle.schedule_rules.proofs.Named.{scheduled_does}
use Rattle.schedule_rules.proofs.reordered_functions_read_no_poison.Goals as goal

pub returns : goal.returns
returns c = λ p m r one two well safe named exact. scheduled_does p m r one two well safe named exact
