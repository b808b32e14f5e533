use Rattle.std.proofs.Common.{◌≡◌, ◌≤◌, ◌+◌, ◌++◌, drop}
use Rattle.mach_ir.specs.Blocks.{total_block_bytes}
use Rattle.comballoc.proofs.combining.push_all.Given as goal

abbrev pub invariant-loop-block : goal.invariant-loop-block
invariant-loop-block l =
    (l.blocks ++ drop l.block-index l.block-items ≡ l.fn.blocks ++ l.block-items)
    × (total_block_bytes l.blocks + total_block_bytes (drop l.block-index l.block-items) ≤ 2056)
