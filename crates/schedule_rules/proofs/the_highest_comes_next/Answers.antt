use Rattle.schedule_rules.proofs.Best.{best_is_first}
use Rattle.schedule_rules.proofs.the_highest_comes_next.Goals as goal

pub returns : goal.returns
returns c = λ left p e. best_is_first left p e
