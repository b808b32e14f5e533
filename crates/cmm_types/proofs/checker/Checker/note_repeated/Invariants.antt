use Rattle.std.proofs.Common.{drop}
use Rattle.cmm_tree.specs.Rows.{handlers_of}
use Rattle.cmm_types.specs.Gathered.{repeated_faults}
use Rattle.cmm_types.proofs.Loops.{Noting}
use Rattle.cmm_types.proofs.checker.Checker.note_repeated.Given as goal

abbrev pub invariant-loop-index : goal.invariant-loop-index
invariant-loop-index l =
    Noting l.initial.self l.self (repeated_faults (handlers_of (drop l.index l.handlers))) (repeated_faults (handlers_of l.handlers))
