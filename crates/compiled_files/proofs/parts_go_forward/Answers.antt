use Rattle.compiled_files.proofs.Forward.{forward}
use Rattle.compiled_files.proofs.parts_go_forward.Goals as goal

pub returns : goal.returns
returns c = forward
