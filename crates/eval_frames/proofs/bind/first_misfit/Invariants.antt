use Rattle.std.proofs.Common.{◌≡◌, drop, length}
use Rattle.cmm_tree.specs.View.{params_view}
use Rattle.cmm_meaning.specs.State.{World}
use Rattle.cmm_meaning.specs.Evaluation.{Evaluation, entered}
use Rattle.eval_frames.proofs.bind.first_misfit.Given as goal

-- what is left says it
abbrev pub invariant-loop-param : goal.invariant-loop-param
invariant-loop-param l =
    (w : World) (go : Evaluation) → entered l.end (params_view (drop (length l.yielded) l.params)) (drop (length l.yielded) l.values) w go
    ≡ entered l.end (params_view l.params) l.values w go
