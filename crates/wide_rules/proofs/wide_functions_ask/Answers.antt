use Rattle.wide_rules.proofs.Wide.{asks_on, wide_on}
use Rattle.wide_rules.proofs.wide_functions_ask.Goals as goal

pub returns-clause-asks : goal.returns-clause-asks
returns-clause-asks c = λ alloc fresh rounds first m q asks formed well low wide asked round. asks_on formed well low wide asked round

pub returns-clause-wide : goal.returns-clause-wide
returns-clause-wide c = λ alloc fresh rounds first m formed well low wide asked. wide_on formed well low wide asked
