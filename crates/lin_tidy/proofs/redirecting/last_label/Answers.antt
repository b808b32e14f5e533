use Rattle.std.proofs.Common.{◌≡◌, ◌-◌, ◌<◌, ◌≤◌, Some, None, length, sym, ◌∙◌, arith}
use Rattle.lin_tidy_rules.specs.Redirecting.{final_label}
use Rattle.lin_tidy.proofs.Leading.{next_is, followed_none, followed_some, followed_out}
use Rattle.lin_tidy.proofs.redirecting.last_label.Goals as goal

pub loop-line-preserved : goal.loop-line-preserved
loop-line-preserved c =
    let all : c.len-line-end.result ≡ length c.args.lin.now.code = c.len-line-end.ensures in
    let lt : c.loop-line._line < length c.args.lin.now.code = omega (arith, all) in
    followed_some c.args.lin.now (length c.args.lin.now.code) c.loop-line._line c.loop-line.last c.in-Some.next
    (final_label c.args.lin.now c.args.label) lt
    (next_is c.args.lin.now c.args.labels.now c.as_slice.result.now c.loop-line.last c.place_of.result (Some c.in-Some.next) c.requires
    c.as_slice.ensures c.place_of.ensures (sym c.in-Some.is ∙ c.jump_from.ensures)) c.loop-line.invariant

pub returns-in-None : goal.returns-in-None
returns-in-None c =
    followed_none c.args.lin.now (length c.args.lin.now.code - c.loop-line._line) c.loop-line.last (final_label c.args.lin.now c.args.label)
    (next_is c.args.lin.now c.args.labels.now c.as_slice.result.now c.loop-line.last c.place_of.result None c.requires c.as_slice.ensures
    c.place_of.ensures (sym c.in-None.is ∙ c.jump_from.ensures)) c.loop-line.invariant

pub returns : goal.returns
returns c =
    let all : c.len-line-end.result ≡ length c.args.lin.now.code = c.len-line-end.ensures in
    let le : length c.args.lin.now.code ≤ c.loop-line._line = omega (arith, all) in
    followed_out c.args.lin.now (length c.args.lin.now.code) c.loop-line._line c.loop-line.last (final_label c.args.lin.now c.args.label) le
    c.loop-line.invariant
