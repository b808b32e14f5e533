use Rattle.schedule_rules.proofs.Reorder.{reordered}
use Rattle.schedule_rules.proofs.reordered_runs_end_alike.Goals as goal

pub returns : goal.returns
returns c = λ setting run other s u o p e. reordered setting run other s u o p e
