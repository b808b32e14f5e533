use Rattle.schedule_rules.proofs.Sums.{ordered_total, ordered_length, ordered_labels}
use Rattle.schedule_rules.proofs.reordered_functions_are_as_large.Goals as goal

pub returns-clause-sums : goal.returns-clause-sums
returns-clause-sums c = λ measure code other o. ordered_total measure code other o

pub returns-clause-length : goal.returns-clause-length
returns-clause-length c = λ code other o. ordered_length code other o

pub returns-clause-labels : goal.returns-clause-labels
returns-clause-labels c = λ code other o. ordered_labels code other o
