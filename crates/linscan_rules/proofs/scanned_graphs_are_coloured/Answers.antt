use Rattle.mach_ir.specs.Graph.{InGraph, JoinedIn}
use Rattle.linscan_rules.specs.Ranges.{IsInterval}
use Rattle.linscan_rules.proofs.Contract.{rows_coloured, rows_full}
use Rattle.linscan_rules.proofs.scanned_graphs_are_coloured.Goals as goal

pub returns-clause-colouring : goal.returns-clause-colouring
returns-clause-colouring c = λ m g closed intervals start rows are. rows_coloured (InGraph g) (JoinedIn g) (IsInterval m) closed intervals start rows are

pub returns-clause-full : goal.returns-clause-full
returns-clause-full c = λ m g closed intervals start rows are. rows_full (InGraph g) (JoinedIn g) (IsInterval m) closed intervals start rows are
