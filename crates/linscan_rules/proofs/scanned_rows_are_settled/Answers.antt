use Rattle.linscan_rules.proofs.Rows.{rows_settled}
use Rattle.linscan_rules.proofs.scanned_rows_are_settled.Goals as goal

pub returns : goal.returns
returns c = λ colours closed intervals start rows are blocks. rows_settled colours closed intervals start rows are blocks
