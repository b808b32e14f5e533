use Rattle.std.proofs.Common.{ap, ◌-◌, ◌∙◌}
use Rattle.lin_tidy.proofs.Loops.{lines_left}
use Rattle.lin_tidy.proofs.turning.lines_after.Goals as goal

pub returns : goal.returns
returns c = λ i next e.
    ap (λ n. n - c.args.place - 1) c.len.ensures ∙ lines_left c.args.lin.now.code c.args.place i next e
