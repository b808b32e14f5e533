use Rattle.linscan_rules.proofs.Graphs.{scan_once}
use Rattle.linscan_rules.proofs.scans_are_one.Goals as goal

pub returns : goal.returns
returns c = λ g t c d one two n. scan_once g t c d one two n
