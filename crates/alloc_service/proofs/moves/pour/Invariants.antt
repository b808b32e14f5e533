use Rattle.std.proofs.Common.{◌≡◌, drop, length}
use Rattle.alloc_service.specs.Forward.{poured, words_of_blocks}
use Rattle.alloc_service.proofs.moves.pour.Given as goal

abbrev pub invariant-loop-block : goal.invariant-loop-block
invariant-loop-block l = record {
  poured : poured l.memory l.rest (drop l.block-index l.blocks) ≡ poured l.initial.memory l.words l.blocks;
  enough : length l.rest ≡ words_of_blocks (drop l.block-index l.blocks);
}
