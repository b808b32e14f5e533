use Rattle.linscan_rules.proofs.Tables.{table_once}
use Rattle.linscan_rules.proofs.intervals_tables_are_one.Goals as goal

pub returns : goal.returns
returns c = λ m s t one two. table_once m s t one two
