use Rattle.schedule_rules.proofs.Doing.{reordered_does, scheduled_does_so}
use Rattle.schedule_rules.proofs.reordered_functions_do_the_same.Goals as goal

pub returns-clause-any : goal.returns-clause-any
returns-clause-any c = λ m r o same located. reordered_does m r o same located

pub returns-clause-scheduled : goal.returns-clause-scheduled
returns-clause-scheduled c = λ m located. scheduled_does_so m located
