use Rattle.std.proofs.Common.{◌≡◌, ◌+◌, ◌<◌, ℕ, List, drop, length, get_or, sym, ap, ◌∙◌, arith}
use Rattle.std.specs.Option.{option_map}
use Rattle.lin_ir.specs.declared.lin.Line.{Line}
use Rattle.lin_tidy_rules.specs.Turning.{label_on, head_by, head_at}
use Rattle.lin_tidy.specs.Loops.{head_view}
use Rattle.lin_unused.proofs.Between.{drop_line}
use Rattle.lin_tidy.proofs.Loops.{if_ok, after_room}
use Rattle.lin_tidy.proofs.turning.head_at.Goals as goal

pub label_on-on-requires : goal.label_on-on-requires
label_on-on-requires c =
    let code = c.args.lin.now.code in
    let k = c.args.place in
    let all = c.len.ensures in
    let out = c.if-place-len.false in
    let lt : k < length code = omega (arith, all, out) in
    after_room code c.args.free k c.lines_after.result lt c.requires c.lines_after.ensures

pub returns : goal.returns
returns c =
    let code = c.args.lin.now.code in
    let k = c.args.place in
    let i = c.index-as_slice-place.result in
    let all = c.len.ensures in
    let out = c.if-place-len.false in
    let lt : k < length code = omega (arith, all, out) in
    let at : i ≡ get_or code k i = c.index-as_slice-place.is ∙ ap (λ (xs : List Line). get_or xs k i) c.as_slice.ensures in
    let here = drop_line code k i lt at in
    if_ok (λ head. (free : ℕ) (next : List Line) →
    c.label_on-on.result ≡ label_on free (length next) → option_map head_view head ≡ head_by free i.op i.args i.results next)
    (λ head. option_map head_view head ≡ head_at c.args.free (drop k code)) c.head_by.result
    (λ head h.
    h c.args.free (drop (k + 1) code) (c.label_on-on.ensures ∙ ap (label_on c.args.free) (c.lines_after.ensures i (drop (k + 1) code) here))
    ∙ sym (ap (head_at c.args.free) here)) c.head_by.ensures
