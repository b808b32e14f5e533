use Rattle.mach_ir.specs.Walks.{IsRegister, Joined}
use Rattle.linscan_rules.specs.Ranges.{IsInterval}
use Rattle.linscan_rules.proofs.Contract.{rows_coloured, rows_full}
use Rattle.linscan_rules.proofs.scanned_rows_are_coloured.Goals as goal

pub returns-clause-colouring : goal.returns-clause-colouring
returns-clause-colouring c = λ m closed intervals start rows are. rows_coloured (IsRegister m) (Joined m) (IsInterval m) closed intervals start rows are

pub returns-clause-full : goal.returns-clause-full
returns-clause-full c = λ m closed intervals start rows are. rows_full (IsRegister m) (Joined m) (IsInterval m) closed intervals start rows are
