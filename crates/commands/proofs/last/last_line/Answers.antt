use Rattle.std.proofs.Common.{◌≡◌, ◌⊎◌, inl, inr, ◌-◌, get_or, sym, subst, arith, length-drop, take_all}
use Rattle.commands.specs.Soak.{IsLastLine}
use Rattle.commands.proofs.LastLine.{last_line_at}
use Rattle.commands.proofs.last.last_line.Goals as goal
use Rattle.commands.proofs.last.last_line.Goals.{then-loop-start-test+else-text-start-ne10, else-loop-start-test}

pub returns : goal.returns
returns c =
    let at : (c.loop-start.start ≡ 0) ⊎ (get_or c.args.text.now (c.loop-start.start - 1) 0 ≡ 10) =
    elim c.loop-start-test.branch [ then-loop-start-test+else-text-start-ne10 w ↦ inr w.if-text-start-ne10.false | else-loop-start-test w ↦ inl (omega (arith, w.loop-start-test.false)) ] in
    subst (IsLastLine c.args.text.now) (sym (take_all _ _ (omega (arith, length-drop c.loop-start.start c.args.text.now))))
    (last_line_at c.args.text.now c.loop-start.start c.requires.0 c.requires.1 c.loop-start.invariant at)
