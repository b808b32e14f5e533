use Rattle.std.proofs.Common.{◌≡◌, ◌≢◌, ◌∙◌, ◌-◌, true, false, ap}
use denote.Enum.Bare.{sameb}
use Rattle.eval_frames.specs.contracts.group.EvaluationGroup.{the_type}
use Rattle.eval_frames.specs.Groups.{evaluation_group}
use Rattle.eval_frames.specs.Held.{inside}
use Rattle.eval_frames.specs.Filled.{evaluated_expression, resume}
use Rattle.eval_frames.specs.Around.{around_view}
use Rattle.cmm_eval.specs.Stands.{stands, goes_on}
use Rattle.eval_frames.specs.Views.{here_view, world_view}
use Rattle.eval_frames.specs.declared.group.EvaluationGroup.TheVariants as group
use Rattle.eval_frames.specs.declared.here.Here as here
use Rattle.eval_frames.specs.declared.world.World as world
use Rattle.cmm_eval.proofs.Ended.{if_ok_then}
use Rattle.cmm_eval.proofs.Turns.{pushed, node_begins}
use Rattle.cmm_eval.proofs.machine.Machine.begin.Goals as goal

pub returns-clause-meaning : goal.returns-clause-meaning
returns-clause-meaning c =
    let a = c.args.around.now in
    let s = around_view a in
    let m = c.args.self.now in
    let e = c.args.expr.now in
    let tail = c.args.tail in
    let h = here_view m.here in
    let w = world_view m.world in
    let p = c.in_ok-push.ensures in
    let not-float : evaluation_group e.form ≢ group.Float = λ is.
    let different : false ≡ true = c.if-eq.ensures ∙ ap (λ g. sameb the_type g group.Float) (c.group_of.ensures ∙ is) in cc in
    let frames = c.push.new.self.frames.items in
    if_ok_then
    (λ now. stands a c.enter.new.self now ≡ goes_on a c.push.new.self (λ h w. inside s e.form tail h w))
    (λ now. stands a c.enter.new.self now ≡ goes_on a m (λ h w. evaluated_expression s e tail h w)) c.enter.result
    (λ now q. q
    ∙ ap (λ (i : here.Here). resume s frames (inside s e.form tail (here_view i) (world_view c.push.new.self.world))) p.here
    ∙ ap (λ (v : world.World). resume s frames (inside s e.form tail h (world_view v))) (p.world ∙ c.spend.ensures)
    ∙ pushed s m.frames.items frames _ (inside s e.form tail h (record w { left = w.left - 1 })) (evaluated_expression s e tail h w) p.frames
    (node_begins s e tail h w not-float c.if-self-eq0.false))
    c.enter.ensures.meaning
