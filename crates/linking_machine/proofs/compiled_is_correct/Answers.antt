use Rattle.linking_machine.proofs.Compiled.{compiled_correct}
use Rattle.linking_machine.proofs.compiled_is_correct.Goals as goal

pub returns : goal.returns
returns c = compiled_correct
