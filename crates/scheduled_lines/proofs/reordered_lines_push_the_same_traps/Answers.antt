use Rattle.lin_tidy_rules.specs.Leaving.{with_code}
use Rattle.scheduled_lines.proofs.InStep.{in_step, traps_were}
use Rattle.scheduled_lines.proofs.reordered_lines_push_the_same_traps.Goals as goal

pub returns : goal.returns
returns c = λ m code order place traps x. traps_were m (with_code m code) (in_step order) x
