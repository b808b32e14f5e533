use Rattle.std.proofs.Common.{sym, ◌∙◌, ap, refl, arith}
use Rattle.lin_ir.specs.declared.lin.Line.{Line}
use Rattle.lin_tidy_rules.specs.Leaving.{is_landing}
use Rattle.lin_unused.proofs.Useful.{line_at, use_landing, use_passed_by, use_walked, first_searched, searched_first}
use Rattle.lin_unused.proofs.use_of_lines.is_passed_over.Goals as goal

pub returns-then-is_landing : goal.returns-then-is_landing
returns-then-is_landing c =
    let m = c.args.lin.now in
    let at = line_at m c.args.place c.index-as_slice-place.result c.as_slice.result.now c.requires.place c.as_slice.ensures c.index-as_slice-place.is in
    use_landing m c.requires.walked.walked.numbered c.args.place
    (λ j next d. ap (λ (i : Line). is_landing i.op) (sym (at j next d) ∙ c.index-as_slice-place.is) ∙ sym c.is_landing.ensures ∙ c.if-is_landing.true)

pub returns-then-not-has_first : goal.returns-then-not-has_first
returns-then-not-has_first c =
    let m = c.args.lin.now in
    let lt = c.requires.place in
    let at = line_at m c.args.place c.index-as_slice-place.result c.as_slice.result.now c.requires.place c.as_slice.ensures c.index-as_slice-place.is in
    use_passed_by m c.args.place
    (λ r. c.has_first.ensures.no c.if-not-has_first.true c.requires.walked.walked.grouped
    (searched_first m c.args.walks.now c.args.reached c.requires.walked c.args.place (omega (arith, lt)) r)) _
    (λ j next d. ap (λ (i : Line). is_landing i.op) (sym (at j next d) ∙ c.index-as_slice-place.is) ∙ sym c.is_landing.ensures ∙ c.if-is_landing.false) refl

pub returns : goal.returns
returns c =
    let m = c.args.lin.now in
    use_walked m c.args.place c.is_skipped.result
    (first_searched m c.args.walks.now c.args.reached c.requires.walked c.args.place (c.has_first.ensures.yes c.if-not-has_first.false))
    c.requires.still c.is_skipped.ensures
