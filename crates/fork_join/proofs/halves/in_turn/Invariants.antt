use Rattle.std.proofs.Common.{◌-◌, Ok}
use Rattle.fork_join.specs.Calls.{AreGiven}
use Rattle.fork_join.proofs.halves.in_turn.Given as goal

abbrev pub invariant-loop-number : goal.invariant-loop-number
invariant-loop-number g l = AreGiven (λ i x. goal.F-post g l.f i (Ok x)) l.from (l.number - l.from) l.all.items
