use Rattle.spill.specs.Graphs.{AreLivingOver}
use Rattle.spill.proofs.lost.living_over.Given as goal

abbrev pub invariant-loop-number : goal.invariant-loop-number
invariant-loop-number l = AreLivingOver l.live.before.rows.items l.after l.number l.written l.found.items
