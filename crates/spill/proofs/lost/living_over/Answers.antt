use Rattle.std.proofs.Common.{◌≡◌, ◌∙◌, ◌+◌, ℕ, Vec, Global, sym, ap, subst, arith}
use Rattle.spill.specs.Graphs.{AreLivingOver}
use Rattle.spill.proofs.Making.{over_taken, over_passed}
use Rattle.spill.proofs.lost.living_over.Goals as goal
use Rattle.spill.proofs.lost.living_over.Goals.{then-lives_over+in_ok-push, else-lives_over}
use Rattle.bs_words.proofs.Truths.{not_both}

pub loop-number-preserved : goal.loop-number-preserved
loop-number-preserved c =
    let rows = c.args.live.now.before.rows.items in
    let k = c.loop-number.number in
    elim c.if-lives_over.branch [
      | then-lives_over+in_ok-push w ↦
          over_taken rows c.args.after c.args.written.now k c.loop-number.found.items c.if-lives_over.found.items c.loop-number.invariant
          (c.lives_over.ensures.0 w.if-lives_over.true)
          (ap (λ (v : Vec ℕ Global). v.items) w.found-is ∙ w.in_ok-push.ensures.items)
      | else-lives_over w ↦
          subst (AreLivingOver rows c.args.after (k + 1) c.args.written.now) (ap (λ (v : Vec ℕ Global). v.items) (sym w.found-is))
          (over_passed rows c.args.after c.args.written.now k c.loop-number.found.items c.loop-number.invariant
          (λ h. not_both c.lives_over.result (c.lives_over.ensures.1 h) w.if-lives_over.false))
    ]

pub returns : goal.returns
returns c =
    let e : c.loop-number.number ≡ c.args.bound = let a = c.loop-number-test.false in let b = c.loop-number.auto.number-end in omega (arith, a, b) in
    subst (λ k. AreLivingOver c.args.live.now.before.rows.items c.args.after k c.args.written.now c.loop-number.found.items) e c.loop-number.invariant
