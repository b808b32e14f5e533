use Rattle.std.proofs.Common.{length}
use Rattle.command_line.proofs.Cuts.{GoesOn}
use Rattle.command_line.proofs.values.items.Given as goal

abbrev pub invariant-loop-first : goal.invariant-loop-first
invariant-loop-first l = GoesOn l.text l.items.items l.rest

abbrev pub decreases-loop-first : goal.decreases-loop-first
decreases-loop-first l = length l.rest
