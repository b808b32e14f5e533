use Rattle.std.proofs.Common.{◌≡◌, map, drop, length}
use Rattle.cmm_tree.specs.Tree.{Parameter}
use Rattle.cmm_tree.specs.View.{params_view}
use Rattle.cmm_meaning.specs.Evaluation.{fit_parameters}
use Rattle.eval_frames.proofs.bind.fit_parameters.Given as goal

-- what is left says it
abbrev pub invariant-loop-param : goal.invariant-loop-param
invariant-loop-param l =
    fit_parameters l.end (map (λ (p : Parameter). p.comp) (params_view (drop (length l.yielded) l.params))) (drop (length l.yielded) l.values)
    ≡ fit_parameters l.end (map (λ (p : Parameter). p.comp) (params_view l.params)) l.values
