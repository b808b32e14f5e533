use Rattle.std.proofs.Common.{drop}
use Rattle.cmm_tree.specs.View.{params_view}
use Rattle.cmm_types.specs.Gathered.{params_faults}
use Rattle.cmm_types.proofs.Loops.{Noting}
use Rattle.cmm_types.proofs.checker.Checker.note_params.Given as goal

abbrev pub invariant-loop-param : goal.invariant-loop-param
invariant-loop-param l =
    Noting l.initial.self l.self (params_faults (params_view (drop l.param-index l.params))) (params_faults (params_view l.params))
