use Rattle.std.proofs.Common.{◌≡◌, ◌++◌, drop}
use Rattle.sink.specs.Moves.{moves_before}
use Rattle.sink.proofs.moves.moves_before.Given as goal

abbrev pub invariant-loop-moved : goal.invariant-loop-moved
invariant-loop-moved l = l.made.items ++ moves_before (drop l.moved-index l.moves) l.place ≡ moves_before l.moves l.place
