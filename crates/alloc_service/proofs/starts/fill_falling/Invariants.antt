use Rattle.std.proofs.Common.{◌≡◌, ◌+◌, ◌*◌, ◌^◌, ◌≤◌, ◌++◌, take, reverse, length, vec_len}
use Rattle.std.specs.Vec.{vec_capacity}
use Rattle.rv_machine.specs.Placement.{bytes_used, spaced}
use Rattle.alloc_service.proofs.starts.fill_falling.Given as goal

abbrev pub invariant-loop-left : goal.invariant-loop-left
invariant-loop-left l = record {
  filled : l.starts.items ++ spaced l.gap l.at (reverse (take l.left l.blocks)) ≡ spaced l.gap l.from (reverse l.blocks);
  room : vec_len l.starts + l.left ≤ vec_capacity l.starts;
  kept : vec_capacity l.initial.starts ≤ vec_capacity l.starts;
  below : l.at + 4 * bytes_used (take l.left l.blocks) ≤ 5 * 2 ^ 32;
  within : l.left ≤ length l.blocks;
}

abbrev pub decreases-loop-left : goal.decreases-loop-left
decreases-loop-left l = l.left
