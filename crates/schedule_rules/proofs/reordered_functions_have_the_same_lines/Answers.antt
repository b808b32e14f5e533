use Rattle.schedule_rules.proofs.Lines.{ordered_lines}
use Rattle.schedule_rules.proofs.Located.{located_kept}
use Rattle.schedule_rules.proofs.reordered_functions_have_the_same_lines.Goals as goal

pub returns-clause-lines : goal.returns-clause-lines
returns-clause-lines c = λ code other o i. ordered_lines code other o i

pub returns-clause-located : goal.returns-clause-located
returns-clause-located c = λ m r o e located. located_kept m r o e located
