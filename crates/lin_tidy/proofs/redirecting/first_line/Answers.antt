use Rattle.std.proofs.Common.{sym, ◌∙◌}
use Rattle.std.proofs.lemmas.Bool.{true≢false}
use Rattle.lin_tidy.proofs.Leading.{first_past, first_later, first_here}
use Rattle.lin_tidy.proofs.redirecting.first_line.Goals as goal

pub loop-at-preserved : goal.loop-at-preserved
loop-at-preserved c =
    sym (first_later c.args.code.now c.loop-at.at c.index-code-at.result c.loop-at-test.true c.index-code-at.is
    (c.is_label.ensures.0 c.if-not-is_label.false)) ∙ c.loop-at.invariant

pub returns-then-not-is_label : goal.returns-then-not-is_label
returns-then-not-is_label c =
    sym (first_here c.args.code.now c.loop-at.at c.index-code-at.result c.loop-at-test.true c.index-code-at.is
    (λ y. true≢false (sym (c.is_label.ensures.1 y) ∙ c.if-not-is_label.true))) ∙ c.loop-at.invariant

pub returns : goal.returns
returns c = sym (first_past c.args.code.now c.loop-at.at c.loop-at-test.false) ∙ c.loop-at.invariant
