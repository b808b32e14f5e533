use Rattle.std.proofs.Common.{◌≡◌, ◌+◌, ◌≤◌, ◌++◌, drop, vec_len}
use Rattle.std.specs.Vec.{vec_capacity}
use Rattle.alloc_service.specs.Forward.{forward, words_moved, words_of_blocks}
use Rattle.alloc_service.proofs.moves.gather.Given as goal

abbrev pub invariant-loop-block : goal.invariant-loop-block
invariant-loop-block l = record {
  gathered : l.words.items ++ words_moved (forward l.table) l.memory (drop l.block-index l.blocks)
      ≡ l.initial.words.items ++ words_moved (forward l.table) l.memory l.blocks;
  room : vec_len l.words + words_of_blocks (drop l.block-index l.blocks) ≤ vec_capacity l.words;
  kept : vec_capacity l.initial.words ≤ vec_capacity l.words;
}
