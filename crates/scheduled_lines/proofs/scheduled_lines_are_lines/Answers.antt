use Rattle.scheduled_lines.proofs.Lines.{lines_kept, scheduled_kept}
use Rattle.scheduled_lines.proofs.scheduled_lines_are_lines.Goals as goal

pub returns-clause-any : goal.returns-clause-any
returns-clause-any c = λ tree p m code keeps reached lines order. lines_kept tree p m code keeps reached lines order

pub returns-clause-scheduled : goal.returns-clause-scheduled
returns-clause-scheduled c = λ tree p m keeps reached lines. scheduled_kept tree p m keeps reached lines
