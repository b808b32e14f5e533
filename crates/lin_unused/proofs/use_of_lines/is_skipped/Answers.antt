use Rattle.std.proofs.Common.{◌+◌, ◌≤◌, ◌↔◌, List, ◌∙◌, subst, length, drop, refl}
use Rattle.std.specs.Prelude.{IsTrue}
use Rattle.lin_ir.specs.declared.lin.Line.{Line}
use Rattle.lin_tidy_rules.specs.Leaving.{LabelsBetween}
use Rattle.lin_unused.proofs.Useful.{skip_none, skip_jump, line_at}
use Rattle.lin_unused.proofs.use_of_lines.is_skipped.Goals as goal

pub returns-in-None : goal.returns-in-None
returns-in-None c =
    let m = c.args.lin.now in
    skip_none m c.args.place c.index-code-place.result
    (line_at m c.args.place c.index-code-place.result c.as_slice-code.result.now c.requires.place c.as_slice-code.ensures c.index-code-place.is)
    (λ l e. absurd (let f = (c.in-None.ensures l).1 e in cc))

pub returns-in-Some : goal.returns-in-Some
returns-in-Some c =
    let m = c.args.lin.now in
    let label = c.in-Some.label in
    skip_jump m c.args.place c.index-code-place.result
    (line_at m c.args.place c.index-code-place.result c.as_slice-code.result.now c.requires.place c.as_slice-code.ensures c.index-code-place.is)
    label c.place_of-to.result c.labels_between.result ((c.in-Some.ensures label).0 refl)
    (c.place_of-to.ensures ∙ c.requires.labels.each label) c.requires.place
    (subst
    (λ (xs : List Line). c.args.place + 1 ≤ length xs →
    IsTrue c.labels_between.result ↔ LabelsBetween (drop (c.args.place + 1) xs) (drop c.place_of-to.result xs)) c.as_slice-code.ensures
    c.labels_between.ensures)
