use Rattle.std.proofs.Common.{◌≡◌, map, drop, length}
use Rattle.cmm_tree.specs.View.{params_view}
use Rattle.cmm_meaning.specs.Evaluation.{scoped_parameter, with_bound}
use Rattle.eval_frames.specs.Views.{here_view}
use Rattle.eval_frames.proofs.bind.bind_params.Given as goal

-- what is left is bound to what is left
abbrev pub invariant-loop-param : goal.invariant-loop-param
invariant-loop-param l =
    with_bound (map scoped_parameter (params_view (drop (length l.yielded) l.params))) (drop (length l.yielded) l.values) (here_view l.here)
    ≡ with_bound (map scoped_parameter (params_view l.params)) l.values (here_view l.initial.here)
