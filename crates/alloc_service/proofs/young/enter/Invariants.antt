use Rattle.std.proofs.Common.{◌≡◌, ◌+◌, ◌≤◌, ◌++◌, reverse, vec_len}
use Rattle.std.specs.Vec.{vec_capacity}
use Rattle.alloc_service.proofs.young.enter.Given as goal

abbrev pub invariant-loop-block : goal.invariant-loop-block
invariant-loop-block l = record {
  entered : l.blocks.items ++ reverse l.young.items ≡ l.initial.blocks.items ++ reverse l.initial.young.items;
  room : vec_len l.blocks + vec_len l.young ≤ vec_capacity l.blocks;
  young : vec_capacity l.initial.young ≤ vec_capacity l.young;
  table : vec_capacity l.initial.blocks ≤ vec_capacity l.blocks;
}

abbrev pub decreases-loop-block : goal.decreases-loop-block
decreases-loop-block l = vec_len l.young
