use Rattle.schedule_rules.proofs.Walked.{line_back}
use Rattle.schedule_rules.proofs.WalkedForth.{line_forth}
use Rattle.schedule_rules.proofs.reordered_functions_have_the_same_walks.Goals as goal

pub returns-clause-back : goal.returns-clause-back
returns-clause-back c = λ m r whole i after tries stays z. line_back m r whole i after tries stays z

pub returns-clause-forth : goal.returns-clause-forth
returns-clause-forth c = λ m r whole i next tries stays z. line_forth m r whole i next tries stays z
