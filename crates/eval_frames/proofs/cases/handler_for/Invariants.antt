use Rattle.std.proofs.Common.{◌≡◌, Bool, drop}
use Rattle.cmm_tree.specs.View.{label_view}
use Rattle.cmm_meaning.specs.Evaluation.{Surroundings}
use Rattle.cmm_meaning.specs.Choices.{ready_for}
use Rattle.eval_frames.specs.Filled.{handlers_ready}
use Rattle.eval_frames.proofs.cases.handler_for.Given as goal

-- the handlers that are left say it
abbrev pub invariant-loop-handler : goal.invariant-loop-handler
invariant-loop-handler l =
    (s : Surroundings) (tail : Bool) → ready_for l.within (label_view l.label) (handlers_ready s tail (drop l.handler-index l.handlers))
    ≡ ready_for l.within (label_view l.label) (handlers_ready s tail l.handlers)
