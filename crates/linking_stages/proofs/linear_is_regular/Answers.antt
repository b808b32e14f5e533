use Rattle.linking_stages.proofs.Regular.{linear_regular}
use Rattle.linking_stages.proofs.linear_is_regular.Goals as goal

pub returns : goal.returns
returns c = linear_regular
