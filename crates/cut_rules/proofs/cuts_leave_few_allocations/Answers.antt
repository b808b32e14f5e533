use Rattle.cut_rules.proofs.Cut.{has_cuts, few_in_runs}
use Rattle.cut_rules.proofs.cuts_leave_few_allocations.Goals as goal

pub returns-clause-cut : goal.returns-clause-cut
returns-clause-cut c = has_cuts

pub returns-clause-few : goal.returns-clause-few
returns-clause-few c = few_in_runs
