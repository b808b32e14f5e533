use Rattle.std.proofs.Common.{drop}
use Rattle.cmm_tree.specs.View.{label_view}
use Rattle.cmm_tree.specs.Rows.{handlers_of}
use Rattle.cmm_types.specs.Gathered.{labelled_faults}
use Rattle.cmm_types.proofs.Loops.{Noting}
use Rattle.cmm_types.proofs.checker.Checker.note_labelled.Given as goal

abbrev pub invariant-loop-handler : goal.invariant-loop-handler
invariant-loop-handler l =
    Noting l.initial.self l.self (labelled_faults (label_view l.label) (handlers_of (drop l.handler-index l.handlers))) (labelled_faults (label_view l.label) (handlers_of l.handlers))
