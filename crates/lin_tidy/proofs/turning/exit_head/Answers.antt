use Rattle.std.proofs.Common.{◌≡◌, ◌+◌, List, ◌∷◌, None, cond, drop, get_or, sym, ap, ◌∙◌}
use Rattle.std.specs.Option.{option_map}
use Rattle.lin_ir.specs.Meaning.{after_label}
use Rattle.lin_ir.specs.declared.lin.Line.{Line}
use Rattle.lin_tidy_rules.specs.Turning.{head_at, stands_first, exit_head}
use Rattle.lin_tidy.specs.Loops.{head_view}
use Rattle.lin_tidy.proofs.Loops.{if_ok, at_line, no_exit, exit_there, after_place}
use Rattle.lin_tidy.proofs.turning.exit_head.Goals as goal

pub returns-in-None : goal.returns-in-None
returns-in-None c =
    let code = c.args.lin.now.code in
    let j = c.index-code-place.result in
    at_line (λ i next. None ≡ exit_head c.args.lin.now c.args.free i.op i.args i.results next) code c.args.place j c.requires.place
    (c.index-code-place.is ∙ ap (λ (xs : List Line). get_or xs c.args.place j) c.as_slice-code.ensures)
    (no_exit c.args.lin.now c.args.free j (drop (c.args.place + 1) code) c.exit_of.result c.exit_of.ensures c.in-None.is)

pub returns-then-stands_first : goal.returns-then-stands_first
returns-then-stands_first c =
    let code = c.args.lin.now.code in
    let j = c.index-code-place.result in
    let l = c.in-Some.label in
    let next = drop (c.args.place + 1) code in
    at_line (λ i next. None ≡ exit_head c.args.lin.now c.args.free i.op i.args i.results next) code c.args.place j c.requires.place
    (c.index-code-place.is ∙ ap (λ (xs : List Line). get_or xs c.args.place j) c.as_slice-code.ensures)
    (sym (exit_there c.args.lin.now c.args.free l j next c.exit_of.result c.exit_of.ensures c.in-Some.is
    ∙ ap (λ b. cond b None (head_at c.args.free (after_label l code)))
    (sym (ap (λ (xs : List Line). stands_first l (drop (c.args.place + 1) xs)) c.as_slice-code.ensures)
    ∙ sym c.stands_first.ensures ∙ c.if-stands_first.true)))

pub returns-else-stands_first : goal.returns-else-stands_first
returns-else-stands_first c =
    let m = c.args.lin.now in
    let j = c.index-code-place.result in
    let l = c.in-Some.label in
    let next = drop (c.args.place + 1) m.code in
    if_ok (λ head. option_map head_view head ≡ head_at c.args.free (drop c.place_of.result m.code))
    (λ head. (i : Line) (next : List Line) → drop c.args.place m.code ≡ i ∷ next →
    option_map head_view head ≡ exit_head m c.args.free i.op i.args i.results next)
    c.head_at.result
    (λ head h.
    at_line (λ i next. option_map head_view head ≡ exit_head m c.args.free i.op i.args i.results next) m.code c.args.place j c.requires.place
    (c.index-code-place.is ∙ ap (λ (xs : List Line). get_or xs c.args.place j) c.as_slice-code.ensures)
    (h ∙ ap (head_at c.args.free) (after_place m c.args.labels.now l c.place_of.result c.requires.labels c.place_of.ensures)
    ∙ sym (exit_there m c.args.free l j next c.exit_of.result c.exit_of.ensures c.in-Some.is
    ∙ ap (λ b. cond b None (head_at c.args.free (after_label l m.code)))
    (sym (ap (λ (xs : List Line). stands_first l (drop (c.args.place + 1) xs)) c.as_slice-code.ensures)
    ∙ sym c.stands_first.ensures ∙ c.if-stands_first.false))))
    c.head_at.ensures
