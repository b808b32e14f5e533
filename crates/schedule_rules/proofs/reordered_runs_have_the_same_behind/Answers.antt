use Rattle.schedule_rules.proofs.Behind.{live_behind}
use Rattle.schedule_rules.proofs.reordered_runs_have_the_same_behind.Goals as goal

pub returns : goal.returns
returns c = λ m r whole l out run other code after p o rest i later s w. live_behind m r whole l out run other code after p o rest i later s w
