use Rattle.std.proofs.Common.{◌≡◌, ◌+◌, ◌-◌, ◌*◌, ◌^◌, ◌≤◌, ◌++◌, drop, length, vec_len}
use Rattle.std.specs.Vec.{vec_capacity}
use Rattle.rv_machine.specs.Placement.{bytes_used, spaced}
use Rattle.alloc_service.proofs.starts.add_spaced.Given as goal

abbrev pub invariant-loop-block : goal.invariant-loop-block
invariant-loop-block l = record {
  filled : l.starts.items ++ spaced l.gap l.at (drop l.block-index l.blocks) ≡ l.initial.starts.items ++ spaced l.gap l.from l.blocks;
  room : vec_len l.starts + (length l.blocks - l.block-index) ≤ vec_capacity l.starts;
  kept : vec_capacity l.initial.starts ≤ vec_capacity l.starts;
  below : l.at + 4 * bytes_used (drop l.block-index l.blocks) ≤ 5 * 2 ^ 32;
}
