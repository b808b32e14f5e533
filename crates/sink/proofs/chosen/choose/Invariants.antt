use Rattle.std.proofs.Common.{◌≡◌, ◌++◌, drop}
use Rattle.sink.specs.Chosen.{all_moves}
use Rattle.sink.proofs.chosen.choose.Given as goal

abbrev pub invariant-loop-number : goal.invariant-loop-number
invariant-loop-number l =
    l.moves.items ++ all_moves l.code l.stale.rows.items l.mixed (drop l.number l.registers) (drop l.number l.sights)
    ≡ all_moves l.code l.stale.rows.items l.mixed l.registers l.sights
