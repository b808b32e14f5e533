use Rattle.std.proofs.Common.{◌≡◌, ◌+◌, drop}
use Rattle.std.specs.Prelude.{sum_by}
use Rattle.function_places.specs.Sizes.{piece_size}
use Rattle.function_places.proofs.sizes.code_size.Given as goal

abbrev pub invariant-loop-piece : goal.invariant-loop-piece
invariant-loop-piece l = l.size + sum_by piece_size (drop l.piece-index l.code) ≡ sum_by piece_size l.code
