use Rattle.schedule_rules.proofs.Points.{names, no_addr}
use Rattle.schedule_rules.proofs.reordered_functions_name_the_same.Goals as goal

pub returns-clause-names : goal.returns-clause-names
returns-clause-names c = λ m r whole old new named exact. names m r whole old new named exact

pub returns-clause-addrs : goal.returns-clause-addrs
returns-clause-addrs c = λ m r whole old new safe. no_addr m r whole old new safe
