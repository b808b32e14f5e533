use Rattle.std.proofs.Common.{◌≡◌, ◌+◌, ◌*◌, drop}
use Rattle.rv_machine.specs.Memory.{put}
use Rattle.alloc_service.proofs.moves.write_words.Given as goal

abbrev pub invariant-loop-word : goal.invariant-loop-word
invariant-loop-word l = record {
  written : put l.memory l.at (drop l.word-index l.words) ≡ put l.initial.memory l.from l.words;
  low : l.at ≡ l.from + 8 * l.word-index;
}
