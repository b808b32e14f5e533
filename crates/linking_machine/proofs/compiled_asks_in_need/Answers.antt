use Rattle.linking_machine.proofs.Compiled.{compiled_in_need}
use Rattle.linking_machine.proofs.compiled_asks_in_need.Goals as goal

pub returns : goal.returns
returns c = compiled_in_need
