use Rattle.std.proofs.Common.{sym, ◌∙◌, ap, refl, arith}
use Rattle.std.proofs.lemmas.Bool.{true≢false}
use Rattle.lin_ir.specs.declared.lin.Line.{Line}
use Rattle.lin_tidy_rules.specs.Leaving.{is_landing}
use Rattle.lin_tidy_rules.specs.Vals.{as_vals}
use Rattle.lin_unused.proofs.Useful.{line_at, vals_length, use_landing, use_unreached, use_idle}
use Rattle.lin_unused.proofs.use_of_lines.is_useless.Goals as goal

pub returns-then-is_landing : goal.returns-then-is_landing
returns-then-is_landing c =
    let m = c.args.lin.now in
    let at = line_at m c.args.place c.index-as_slice-place.result c.as_slice.result.now c.requires.place c.as_slice.ensures c.index-as_slice-place.is in
    use_landing m c.requires.numbered c.args.place
    (λ j next d. ap (λ (i : Line). is_landing i.op) (sym (at j next d) ∙ c.index-as_slice-place.is) ∙ sym c.is_landing.ensures ∙ c.if-is_landing.true)

pub returns-then-not-is_reached : goal.returns-then-not-is_reached
returns-then-not-is_reached c =
    let m = c.args.lin.now in
    let at = line_at m c.args.place c.index-as_slice-place.result c.as_slice.result.now c.requires.place c.as_slice.ensures c.index-as_slice-place.is in
    let len = vals_length m.code in
    use_unreached m c.requires.numbered c.args.place
    (λ r. true≢false (sym ((c.is_reached.ensures (as_vals m) c.requires.walks (omega (arith, len, c.requires.place))).1 r) ∙ c.if-not-is_reached.true)) _
    (λ j next d. ap (λ (i : Line). is_landing i.op) (sym (at j next d) ∙ c.index-as_slice-place.is) ∙ sym c.is_landing.ensures ∙ c.if-is_landing.false) refl

pub returns : goal.returns
returns c =
    let m = c.args.lin.now in
    let at = line_at m c.args.place c.index-as_slice-place.result c.as_slice.result.now c.requires.place c.as_slice.ensures c.index-as_slice-place.is in
    let len = vals_length m.code in
    use_idle m c.requires.numbered c.args.place c.args.walks.now c.is_idle.result c.requires.walks
    ((c.is_reached.ensures (as_vals m) c.requires.walks (omega (arith, len, c.requires.place))).0 c.if-not-is_reached.false)
    (λ j next d. ap (λ (i : Line). is_landing i.op) (sym (at j next d) ∙ c.index-as_slice-place.is) ∙ sym c.is_landing.ensures ∙ c.if-is_landing.false)
    c.is_idle.ensures
