use Rattle.std.proofs.Common.{◌≡◌, sym, ◌∙◌, refl, arith, subst}
use Rattle.std.proofs.lemmas.Bool.{true≢false}
use Rattle.lin_unused.proofs.Between.{SameFrom, past_between, not_between, same_more, all_between}
use Rattle.lin_unused.proofs.use_of_lines.labels_between.Goals as goal

pub returns-then-to-from : goal.returns-then-to-from
returns-then-to-from c = λ le. (
  λ e. absurd (true≢false (sym e)),
  λ p. absurd (past_between c.args.code.now c.args.from c.args.to c.if-to-from.true le p),
)

pub returns-then-not-is_label : goal.returns-then-not-is_label
returns-then-not-is_label c = λ le. (
  λ e. absurd (true≢false (sym e)),
  λ p. absurd
      (not_between c.args.code.now c.args.from c.loop-place.place c.args.to c.index-code-place.result c.loop-place-test.true c.requires
      c.index-code-place.is (λ l. true≢false (sym (c.is_label.ensures.1 l) ∙ c.if-not-is_label.true)) c.loop-place.invariant p),
)

pub loop-place-preserved : goal.loop-place-preserved
loop-place-preserved c =
    same_more c.args.code.now c.args.from c.loop-place.place c.args.to c.index-code-place.result c.loop-place-test.true c.requires
    c.index-code-place.is (c.is_label.ensures.0 c.if-not-is_label.false) c.loop-place.invariant

pub returns : goal.returns
returns c = λ le. (
  λ e.
      let same : c.loop-place.place ≡ c.args.to =
      omega (arith, c.loop-place-test.false, c.loop-place.auto.place, c.loop-place.auto.place-end, c.if-to-from.false) in
      all_between c.args.code.now c.args.from c.args.to
      (subst (λ k. SameFrom c.args.code.now c.args.from k c.args.to) same c.loop-place.invariant),
  λ p. refl,
)
