use Rattle.std.proofs.Common.{◌∙◌, List, cond, ap, sym}
use Rattle.std.specs.Prelude.{nat_lt}
use Rattle.bs_words.specs.Operators.{word_in}
use Rattle.bs_words.specs.declared.values.Kind.TheVariants.{SwitchRange}
use Rattle.cmm_tree.specs.declared.expr.Case.{Case}
use Rattle.cmm_tree.specs.declared.expr.Form.{Form}
use Rattle.cmm_meaning.specs.Evaluation.{Stops, NotProper, proper, chosen}
use Rattle.cmm_meaning.specs.Choices.{case_for}
use Rattle.eval_frames.specs.Filled.{resume, taken_by, cases_ready}
use Rattle.eval_frames.specs.Around.{around_view}
use Rattle.eval_frames.specs.Views.{here_view, world_view}
use Rattle.cmm_eval.proofs.Ended.{switch_takes}
use Rattle.cmm_eval.proofs.machine.Machine.take.Goals as goal

pub returns-in-Switch-clause-meaning : goal.returns-in-Switch-clause-meaning
returns-in-Switch-clause-meaning c =
    let s = around_view c.args.around.now in
    let m = c.args.self.now in
    let h = here_view m.here in
    let w = world_view m.world in
    let tail = c.args.tail in
    let v = c.args.value in
    let f = c.in-Switch in
    ap (resume s m.frames.items)
    (c.begin_case.ensures s h w
    ∙ ap (λ (l : List Case). proper (word_in v) w (λ k. cond (nat_lt k f.size) (chosen (case_for (cases_ready s tail l) k) h w) (Stops (NotProper SwitchRange) w)))
    c.as_slice.ensures.value
    ∙ sym (ap (λ (g : Form). taken_by s g tail v h w) f.is ∙ switch_takes s f.size_at f.size f.selector f.cases tail v h w))
