use Rattle.linscan_rules.proofs.Graphs.{scanned_safe, scanned_full}
use Rattle.linscan_rules.proofs.scanned_graphs_are_right.Goals as goal

pub returns-clause-colouring : goal.returns-clause-colouring
returns-clause-colouring c = λ g t d h may by. scanned_safe g t d h may by

pub returns-clause-full : goal.returns-clause-full
returns-clause-full c = λ g t d h may by. scanned_full g t d h may by
