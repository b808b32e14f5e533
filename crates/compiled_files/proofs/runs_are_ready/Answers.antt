use Rattle.compiled_files.proofs.Ready.{ready}
use Rattle.compiled_files.proofs.runs_are_ready.Goals as goal

pub returns : goal.returns
returns c = λ lins named f place formed u i next reached is. ready lins named f place formed u i next reached is
