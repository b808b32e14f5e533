use Rattle.frame_tables.proofs.Pointing.{Gathering}
use Rattle.frame_tables.proofs.after.gather.Given as goal

abbrev pub invariant-loop-number : goal.invariant-loop-number
invariant-loop-number l = Gathering l.search l.nodes l.choice l.aside l.number-items l.number-index l.numbers.items
