use Rattle.std.proofs.Common.{◌≡◌, refl, subst, sym, ap, ◌∙◌}
use Rattle.cmm_tree.specs.declared.expr.Form.{Form}
use Rattle.cmm_tree.specs.declared.expr.Expr.{Expr}
use Rattle.cmm_meaning.specs.Evaluation.{back}
use Rattle.eval_frames.specs.Filled.{evaluated_expression, body_of}
use Rattle.eval_frames.specs.declared.frame.Step.TheVariants as step
use Rattle.cmm_eval.proofs.Resumed.{stands_pushed}
use Rattle.cmm_eval.proofs.machine.Machine.body.Goals as goal

pub returns-in_ok-push-in-Let-clause-meaning : goal.returns-in_ok-push-in-Let-clause-meaning
returns-in_ok-push-in-Let-clause-meaning c s =
    let p = c.in_ok-push-in-Let.ensures in
    let tail = c.args.tail in
    let level = c.args.level in
    let tries = c.args.tries in
    stands_pushed s c.args.self.now c.push.new.self (record { form = c.args.form; tail = tail; step = step.Scope level tries })
    (evaluated_expression s c.deref.result.now tail) (λ h w. body_of s c.args.form.now tail level tries h w) p.here p.world p.frames
    (λ h w. ap (λ (e : Expr). back level tries (evaluated_expression s e tail h w)) c.deref.ensures
    ∙ subst (λ (f : Form). back level tries (evaluated_expression s c.in-Let.body.value tail h w) ≡ body_of s f tail level tries h w) (sym c.in-Let.is) refl)
