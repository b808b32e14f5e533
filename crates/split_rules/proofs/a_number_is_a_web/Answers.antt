use Rattle.split_rules.proofs.Result.{split_webs}
use Rattle.split_rules.proofs.a_number_is_a_web.Goals as goal

pub returns : goal.returns
returns c = split_webs
