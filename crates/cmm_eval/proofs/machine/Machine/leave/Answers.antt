use Rattle.std.proofs.Common.{◌≡◌, ◌-◌, true, Some, option_map, option_copied, map, refl, ap, sym, ◌∙◌}
use Rattle.cmm_tree.specs.View.{label_view, params_view}
use Rattle.cmm_meaning.specs.State.{Here, back_in}
use Rattle.cmm_meaning.specs.Evaluation.{NotProper, Evaluation, Exits, Stops, entered, scoped_parameter, with_bound, back, caught}
use Rattle.cmm_meaning.specs.Choices.{ready_for}
use Rattle.eval_frames.specs.Filled.{or_improper, evaluated_expression, ready_handlers, handler_ready, does, resume}
use Rattle.eval_frames.specs.Around.{around_view}
use Rattle.cmm_eval.specs.Stands.{stands}
use Rattle.eval_frames.specs.Views.{here_view, world_view}
use Rattle.eval_frames.specs.declared.here.Here as here
use Rattle.eval_frames.specs.declared.world.World as world
use Rattle.cmm_eval.proofs.Turns.{pushed}
use Rattle.cmm_eval.proofs.Leaving.{none_of, misfits, handler_begins}
use Rattle.cmm_eval.proofs.machine.Machine.leave.Goals as goal

pub returns-in-Some-first_misfit-clause-meaning : goal.returns-in-Some-first_misfit-clause-meaning
returns-in-Some-first_misfit-clause-meaning c =
    let s = around_view c.args.around.now in
    let m = c.args.self.now in
    let f = c.args.frame.form.now in
    let tail = c.args.frame.tail in
    let within = c.in-Catch.within in
    let label = label_view c.args.label.now in
    let values = c.args.values.items in
    let x = c.in-Some.handler.now in
    let kind = c.in-Some-first_misfit.kind in
    let h = here_view m.here in
    let w = world_view m.world in
    let ready : ready_for within label (ready_handlers s f tail) ≡ Some (handler_ready s tail x) =
    ap (ready_for within label) (c.handlers_of.ensures s tail)
    ∙ sym (c.handler_for.ensures s tail)
    ∙ ap (λ o. option_map (handler_ready s tail) (option_copied o)) c.in-Some.is in
    let enters : (go : Evaluation) → Stops (NotProper kind) w ≡ entered s.end (params_view x.params.items) values w go =
    λ go. ap (λ o. or_improper o w go) (sym c.in-Some-first_misfit.is)
    ∙ c.first_misfit.ensures w go
    ∙ ap (λ e. entered e (params_view c.as_slice-params.result.now) c.as_slice.result.now w go) c.requires.end
    ∙ ap (λ l. entered s.end (params_view l) c.as_slice.result.now w go) c.as_slice-params.ensures.value
    ∙ ap (λ l. entered s.end (params_view x.params.items) l w go) c.as_slice.ensures.value in
    ap (λ n. stands c.args.around.now m n) c.not_proper.ensures
    ∙ ap (resume s m.frames.items)
    (misfits s f tail within c.in-Catch.turns c.in-Catch.level c.in-Catch.tries label values h w c.if-turns-eq0.false x kind ready enters
    ∙ ap (λ st. does s st f tail (Exits label values h w)) (sym c.in-Catch.is))

pub returns-in-Catch-clause-meaning : goal.returns-in-Catch-clause-meaning
returns-in-Catch-clause-meaning c =
    let s = around_view c.args.around.now in
    let m = c.args.self.now in
    let f = c.args.frame.form.now in
    let tail = c.args.frame.tail in
    let within = c.in-Catch.within in
    let turns = c.in-Catch.turns in
    let level = c.in-Catch.level in
    let tries = c.in-Catch.tries in
    let label = label_view c.args.label.now in
    let values = c.args.values.items in
    let x = c.in-Some.handler.now in
    let h = here_view m.here in
    let w = world_view m.world in
    let p = c.in_ok-push_catch-in-Catch.ensures in
    let q = c.in_ok-push-in-Catch.ensures in
    let n = c.push_catch.new.self.frames.items in
    let new = c.push.new.self.frames.items in
    let ready : ready_for within label (ready_handlers s f tail) ≡ Some (handler_ready s tail x) =
    ap (ready_for within label) (c.handlers_of.ensures s tail)
    ∙ sym (c.handler_for.ensures s tail)
    ∙ ap (λ o. option_map (handler_ready s tail) (option_copied o)) c.in-Some.is in
    let enters : (go : Evaluation) → go ≡ entered s.end (params_view x.params.items) values w go =
    λ go. ap (λ o. or_improper o w go) (sym (none_of c.first_misfit.result c.in_default-first_misfit.not-Some))
    ∙ c.first_misfit.ensures w go
    ∙ ap (λ e. entered e (params_view c.as_slice-params.result.now) c.as_slice.result.now w go) c.requires.end
    ∙ ap (λ l. entered s.end (params_view l) c.as_slice.result.now w go) c.as_slice-params.ensures.value
    ∙ ap (λ l. entered s.end (params_view x.params.items) l w go) c.as_slice.ensures.value in
    let bind = λ (i : Here). with_bound (map scoped_parameter (params_view x.params.items)) values i in
    let inner : here_view c.bind_params.new.here ≡ bind (back_in level tries h) =
    c.in_ok-bind_params-in-Catch.ensures
    ∙ ap (λ l. with_bound (map scoped_parameter (params_view l)) c.as_slice-in-Catch.result.now (here_view c.back_in.new.self)) c.as_slice-params.ensures.value
    ∙ ap (λ l. with_bound (map scoped_parameter (params_view x.params.items)) l (here_view c.back_in.new.self)) c.as_slice-in-Catch.ensures.value
    ∙ ap bind (c.back_in.ensures ∙ ap (λ (i : here.Here). back_in level tries (here_view i)) (q.here ∙ p.here)) in
    let body = evaluated_expression s x.body tail (bind (back_in level tries h)) w in
    ap (λ (o : world.World). resume s new (evaluated_expression s x.body tail (here_view c.bind_params.new.here) (world_view o))) (q.world ∙ p.world)
    ∙ ap (λ (i : Here). resume s new (evaluated_expression s x.body tail i w)) inner
    ∙ pushed s n new _ body (back level tries body) q.frames refl
    ∙ pushed s m.frames.items n _ (back level tries body) (caught s.end (turns - 1) true (ready_handlers s f tail) level tries (back level tries body)) p.frames refl
    ∙ ap (resume s m.frames.items)
    (handler_begins s f tail within turns level tries label values h w c.if-turns-eq0.false x ready enters
    ∙ ap (λ st. does s st f tail (Exits label values h w)) (sym c.in-Catch.is))
