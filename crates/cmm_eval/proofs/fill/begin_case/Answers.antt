use Rattle.std.proofs.Common.{◌∙◌, ap, sym}
use Rattle.std.proofs.lemmas.Bool.{lt-ltb}
use Rattle.bs_words.specs.Operators.{word_in}
use Rattle.eval_frames.specs.declared.frame.Now.{Now}
use Rattle.eval_frames.specs.Filled.{cases_ready, standing}
use Rattle.cmm_eval.proofs.Ended.{case_begins}
use Rattle.cmm_eval.proofs.fill.begin_case.Goals as goal

pub returns-in-Some : goal.returns-in-Some
returns-in-Some c s h w =
    let k = c.in-Ok.number in
    let size = c.args.size in
    case_begins (word_in c.args.value) k size _ (cases_ready s c.args.tail c.args.cases.now) h w (sym c.in-Ok.ensures) (lt-ltb k size c.if-number-size.false)
    (c.in-Some.ensures s c.args.tail)

pub returns-in-None : goal.returns-in-None
returns-in-None c s h w =
    let k = c.in-Ok.number in
    let size = c.args.size in
    ap (λ (n : Now). standing s n h w) c.not_proper-in-None.ensures
    ∙ case_begins (word_in c.args.value) k size _ (cases_ready s c.args.tail c.args.cases.now) h w (sym c.in-Ok.ensures) (lt-ltb k size c.if-number-size.false)
    (c.in-None.ensures s c.args.tail)
