use Rattle.std.proofs.Common.{◌≡◌, ◌∙◌, List, Option, ap, sym}
use Rattle.std.specs.Prelude.{reverse}
use Rattle.bs_words.specs.declared.values.Value.{Value}
use Rattle.cmm_tree.specs.declared.expr.Expr.{Expr}
use Rattle.eval_frames.specs.Held.{inside}
use Rattle.eval_frames.specs.Filled.{operands_of, waits_for, resume}
use Rattle.eval_frames.specs.Around.{around_view}
use Rattle.cmm_eval.specs.Stands.{stands, goes_on}
use Rattle.eval_frames.specs.Views.{here_view, world_view}
use Rattle.cmm_eval.proofs.Ended.{if_ok_then}
use Rattle.cmm_eval.proofs.Operands.{row_waits}
use Rattle.cmm_eval.proofs.machine.Machine.enter.Goals as goal

pub returns-in-Row-clause-meaning : goal.returns-in-Row-clause-meaning
returns-in-Row-clause-meaning c =
    let a = c.args.around.now in
    let s = around_view a in
    let m = c.args.self.now in
    let f = c.args.form.now in
    let tail = c.args.tail in
    let h = here_view m.here in
    let w = world_view m.world in
    if_ok_then
    (λ now. stands a c.wait.new.self now ≡ goes_on a m (λ h w. waits_for s f tail (reverse c.operands_of.result.now) (reverse c.new.result.items) h w))
    (λ now. stands a c.wait.new.self now ≡ goes_on a m (λ h w. inside s f tail h w)) c.wait.result
    (λ now p. p
    ∙ ap (resume s m.frames.items)
    (ap (λ (l : List Expr). waits_for s f tail (reverse l) (reverse c.new.result.items) h w) c.operands_of.ensures
    ∙ ap (λ (l : List (Option Value)). waits_for s f tail (reverse (operands_of f)) (reverse l) h w) c.new.ensures.items
    ∙ row_waits s f tail h w (sym c.in-Row.ensures)))
    c.wait.ensures.meaning
