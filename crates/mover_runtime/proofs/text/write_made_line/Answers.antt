use Rattle.std.proofs.Common.{◌≡◌, ℕ, List, ◌++◌, take, ap, subst, ◌∙◌, append_assoc}
use Rattle.std.specs.Prelude.{codes}
use Rattle.bs_words.specs.Contents.{contents}
use Rattle.bs_words.specs.declared.values.Obs.{Obs}
use Rattle.rv_machine.specs.Services.{arguments_from}
use Rattle.rv_machine.specs.Text.{shown_text}
use Rattle.mover_runtime.specs.Written.{AppendsResult}
use Rattle.mover_runtime.proofs.text.write_made_line.Goals as goal

pub returns-clause-text : goal.returns-clause-text
returns-clause-text g c =
    let shown : List Obs = arguments_from 10 (contents c.args.row.now.params) c.args.machine.now in
    let same : take c.len.result c.observe_arguments-shown.result ≡ shown =
    ap (λ (n : ℕ). take n c.observe_arguments-shown.result) c.len.ensures ∙ c.observe_arguments-shown.ensures.shown in
    subst (λ (t : List ℕ). AppendsResult c.write_call_line.result (g.K.Sink.held c.args.out.now) (g.K.Sink.held c.write_call_line.new.out) (t ++ codes "\n"))
    (ap (λ (os : List Obs). (c.args.text.now ++ c.args.row.now.name) ++ shown_text os) same
    ∙ append_assoc c.args.text.now c.args.row.now.name (shown_text shown))
    c.write_call_line.ensures.text
