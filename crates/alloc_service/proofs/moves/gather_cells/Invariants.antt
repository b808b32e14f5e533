use Rattle.std.proofs.Common.{◌≡◌, ◌+◌, ◌*◌, ◌^◌, ◌<◌, ◌≤◌, ◌++◌, vec_len}
use Rattle.std.specs.Vec.{vec_capacity}
use Rattle.rv_machine.specs.Memory.{words_at}
use Rattle.rv_machine.specs.Moving.{rewritten_cells}
use Rattle.alloc_service.specs.Forward.{forward}
use Rattle.alloc_service.proofs.moves.gather_cells.Given as goal

abbrev pub invariant-loop-left : goal.invariant-loop-left
invariant-loop-left l = record {
  gathered : l.words.items ++ rewritten_cells l.scanned (forward l.table) (words_at l.memory l.at l.left)
      ≡ l.initial.words.items ++ rewritten_cells l.scanned (forward l.table) (words_at l.memory l.start l.count);
  len : vec_len l.words + l.left ≡ vec_len l.initial.words + l.count;
  room : vec_len l.words + l.left ≤ vec_capacity l.words;
  kept : vec_capacity l.initial.words ≤ vec_capacity l.words;
  low : l.at + 8 * l.left < 2 ^ 63;
}

abbrev pub decreases-loop-left : goal.decreases-loop-left
decreases-loop-left l = l.left
