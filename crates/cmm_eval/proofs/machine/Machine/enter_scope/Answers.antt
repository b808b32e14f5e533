use Rattle.std.proofs.Common.{◌≡◌, ◌+◌, suc, false, length, vec_len, ap, sym, subst, ◌∙◌, refl, add-one, arith}
use Rattle.cmm_tree.specs.declared.expr.Form.{Form}
use Rattle.cmm_tree.specs.declared.expr.Expr.{Expr}
use Rattle.cmm_meaning.specs.State.{World, Here, taken, within_try, deepened}
use Rattle.cmm_meaning.specs.Evaluation.{Evaluation, Surroundings, and_then, caught, tried}
use Rattle.eval_frames.specs.Filled.{evaluated_expression, bindings_from, body_of, ready_handlers, evaluated_handler}
use Rattle.eval_frames.specs.Held.{inside}
use Rattle.eval_frames.specs.Views.{here_view, world_view}
use Rattle.eval_frames.specs.declared.frame.Step.TheVariants as step
use Rattle.cmm_eval.proofs.Resumed.{stands_pushed_at}
use Rattle.eval_frames.proofs.Listed.{let_is}
use Rattle.cmm_eval.proofs.Ended.{if_ok_then, bounds_count}
use Rattle.cmm_eval.proofs.machine.Machine.enter_scope.Goals as goal

pub returns-in_ok-push-in-Let-clause-meaning : goal.returns-in_ok-push-in-Let-clause-meaning
returns-in_ok-push-in-Let-clause-meaning c =
    let p = c.in_ok-push-in-Let.ensures in
    let m = c.args.self.now in
    let tail = c.args.tail in
    let h = here_view m.here in
    let w = world_view m.world in
    let level = c.len-level.result in
    let v = c.in-Let.bindings in
    let b = c.in-Let.field-1 in
    let count : vec_len m.here.names ≡ length m.here.names.items = omega (arith, m.here.names.ok.0) in
    let level_is : level ≡ length h.names = c.len-level.ensures ∙ count ∙ bounds_count m.here.names.items in
    if_ok_then _ _ c.bind_next.result (λ now q s. q s
    ∙ stands_pushed_at s m c.push.new.self (record { form = c.args.form; tail = tail; step = step.Bound level m.here.tries })
    (bindings_from s c.as_slice.result.now) (inside s c.args.form.now tail) p.here p.world p.frames
    (ap (λ l. and_then (bindings_from s l h w) (λ _ h w. body_of s c.args.form.now tail level m.here.tries h w)) c.as_slice.ensures.value
    ∙ ap (λ n. and_then (bindings_from s v.items h w) (λ _ h w. body_of s c.args.form.now tail n m.here.tries h w)) level_is
    ∙ subst (λ (f : Form). and_then (bindings_from s v.items h w) (λ _ i w. body_of s f tail (length h.names) h.tries i w) ≡ inside s f tail h w) (sym c.in-Let.is)
    (sym (let_is s v b tail h w)))) c.bind_next.ensures.meaning

pub returns-in_ok-push_catch-in-Catch-clause-meaning : goal.returns-in_ok-push_catch-in-Catch-clause-meaning
returns-in_ok-push_catch-in-Catch-clause-meaning c s =
    let p = c.in_ok-push_catch-in-Catch.ensures in
    let m = c.args.self.now in
    let f = c.args.form.now in
    let tail = c.args.tail in
    let h = here_view m.here in
    let w = world_view m.world in
    let level = c.len-level.result in
    let tries = m.here.tries in
    let turns = m.world.left + 1 in
    let body = c.in-Catch.body.value in
    let count : vec_len m.here.names ≡ length m.here.names.items = omega (arith, m.here.names.ok.0) in
    let level_is : level ≡ length h.names = c.len-level.ensures ∙ count ∙ bounds_count m.here.names.items in
    let more : turns ≡ suc w.left = add-one m.world.left in
    stands_pushed_at s m c.push_catch.new.self (record { form = c.args.form; tail = tail; step = step.Catch false turns level tries })
    (evaluated_expression s c.deref.result.now tail) (inside s f tail) p.here p.world p.frames
    (ap (λ (e : Expr). caught s.end turns false (ready_handlers s f tail) level tries (evaluated_expression s e tail h w)) c.deref.ensures
    ∙ ap (λ n. caught s.end n false (ready_handlers s f tail) level tries (evaluated_expression s body tail h w)) more
    ∙ ap (λ n. caught s.end (suc w.left) false (ready_handlers s f tail) n tries (evaluated_expression s body tail h w)) level_is
    ∙ subst (λ (f : Form). caught s.end (suc w.left) false (ready_handlers s f tail) (length h.names) tries (evaluated_expression s body tail h w) ≡ inside s f tail h w)
    (sym c.in-Catch.is) refl)

pub returns-in_ok-push-in-Try-clause-meaning : goal.returns-in_ok-push-in-Try-clause-meaning
returns-in_ok-push-in-Try-clause-meaning c =
    let p = c.in_ok-push-in-Try.ensures in
    let m = c.args.self.now in
    let n = c.push-in-Try.new.self in
    let f = c.args.form.now in
    let tail = c.args.tail in
    let h = here_view m.here in
    let w = world_view m.world in
    let level = c.len-level.result in
    let tries = m.here.tries in
    let body = c.in-Try.body.value in
    let count : vec_len m.here.names ≡ length m.here.names.items = omega (arith, m.here.names.ok.0) in
    let level_is : level ≡ length h.names = c.len-level.ensures ∙ count ∙ bounds_count m.here.names.items in
    let begun : Surroundings → Expr → Here → World → Evaluation = λ s e h w. evaluated_expression s e false (within_try h) (deepened (taken (within_try h)) w) in
    if_ok_then _ _ c.begin_try.result (λ now q s. q s
    ∙ stands_pushed_at s m n (record { form = c.args.form; tail = tail; step = step.Try level tries })
    (begun s c.deref-in-Try.result.now) (inside s f tail) p.here p.world p.frames
    (ap (λ (e : Expr). tried (evaluated_handler s f tail) level tries (begun s e h w)) c.deref-in-Try.ensures
    ∙ ap (λ k. tried (evaluated_handler s f tail) k tries (begun s body h w)) level_is
    ∙ subst (λ (f : Form). tried (evaluated_handler s f tail) (length h.names) tries (begun s body h w) ≡ inside s f tail h w)
    (sym c.in-Try.is) refl)) c.begin_try.ensures.meaning
