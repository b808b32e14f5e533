use Rattle.commands.proofs.LastLine.{IsWithinLine}
use Rattle.commands.proofs.last.last_line.Given as goal

abbrev pub invariant-loop-start : goal.invariant-loop-start
invariant-loop-start l = IsWithinLine l.text l.start

abbrev pub decreases-loop-start : goal.decreases-loop-start
decreases-loop-start l = l.start
