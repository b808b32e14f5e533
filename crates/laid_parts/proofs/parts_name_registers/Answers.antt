use Rattle.laid_parts.proofs.Each.{carried}
use Rattle.laid_parts.proofs.parts_name_registers.Goals as goal

pub returns : goal.returns
returns c = λ m w s i among traps f d. carried m w s i among traps f d
