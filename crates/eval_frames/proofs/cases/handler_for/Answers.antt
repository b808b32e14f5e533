use Rattle.std.proofs.Common.{◌+◌, Some, cond, drop, sym, ap, ◌∙◌}
use Rattle.cmm_tree.specs.View.{label_view}
use Rattle.cmm_meaning.specs.Choices.{ready_for}
use Rattle.eval_frames.specs.Filled.{handler_ready, handlers_ready}
use Rattle.eval_frames.proofs.Listed.{ready_turn, ready_end}
use Rattle.eval_frames.proofs.cases.handler_for.Goals as goal

pub returns-then-takes : goal.returns-then-takes
returns-then-takes c s tail =
    let xs = c.args.handlers.now in
    let i = c.loop-handler.handler-index in
    let x = c.handler-item.result in
    let label = label_view c.args.label.now in
    let others = ready_for c.args.within label (handlers_ready s tail (drop (i + 1) xs)) in
    ap (λ t. cond t (Some (handler_ready s tail x)) others) c.if-takes.ensures
    ∙ sym (ready_turn s tail c.args.within label xs i x c.loop-handler-test.true c.handler-item.is)
    ∙ c.loop-handler.invariant s tail

pub loop-handler-preserved : goal.loop-handler-preserved
loop-handler-preserved c s tail =
    let xs = c.args.handlers.now in
    let i = c.loop-handler.handler-index in
    let x = c.handler-item.result in
    let label = label_view c.args.label.now in
    let others = ready_for c.args.within label (handlers_ready s tail (drop (i + 1) xs)) in
    ap (λ t. cond t (Some (handler_ready s tail x)) others) c.if-takes.ensures
    ∙ sym (ready_turn s tail c.args.within label xs i x c.loop-handler-test.true c.handler-item.is)
    ∙ c.loop-handler.invariant s tail

pub returns : goal.returns
returns c s tail =
    sym (ready_end s tail c.args.within (label_view c.args.label.now) c.args.handlers.now c.loop-handler.handler-index c.loop-handler-test.false)
    ∙ c.loop-handler.invariant s tail
