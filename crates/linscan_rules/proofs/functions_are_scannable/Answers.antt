use Rattle.linscan_rules.proofs.Tables.{scannable}
use Rattle.linscan_rules.proofs.functions_are_scannable.Goals as goal

pub returns : goal.returns
returns c = λ m g t has is its. scannable m g t has is its
