use Rattle.std.proofs.Common.{sym, ap, ◌∙◌}
use Rattle.eval_frames.specs.Filled.{ready_handlers, handlers_ready}
use Rattle.eval_frames.proofs.Listed.{handlers_is}
use Rattle.eval_frames.proofs.cases.handlers_of.Goals as goal

pub returns-in-Catch : goal.returns-in-Catch
returns-in-Catch c s tail =
    ap (λ f. ready_handlers s f tail) c.in-Catch.is
    ∙ handlers_is s c.in-Catch.field-0 c.in-Catch.handlers tail
    ∙ ap (handlers_ready s tail) (sym c.as_slice.ensures.value)
