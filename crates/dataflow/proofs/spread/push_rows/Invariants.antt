use Rattle.std.proofs.Common.{take}
use Rattle.dataflow.specs.Spread.{Pushed}
use Rattle.dataflow.proofs.spread.push_rows.Given as goal

abbrev pub invariant-loop-q : goal.invariant-loop-q
invariant-loop-q l = Pushed l.set l.initial.rows.items l.rows.items (take l.q-index l.places) l.grew
