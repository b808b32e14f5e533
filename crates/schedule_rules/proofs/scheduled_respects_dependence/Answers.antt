use Rattle.schedule_rules.proofs.Reorder.{scheduled_ordered}
use Rattle.schedule_rules.proofs.scheduled_respects_dependence.Goals as goal

pub returns : goal.returns
returns c = λ code. scheduled_ordered code
