-- The bytes of an allocation that grows.
use Rattle.std.proofs.Common.{◌≡◌, ℕ, ◌+◌, List, [], ◌∷◌, ◌++◌, ap, ◌∙◌, arith}
use Rattle.mach_ir.specs.Blocks.{new_block_bytes, total_block_bytes}
use Rattle.mach_ir.specs.declared.blocks.NewBlock.{NewBlock}

around_none : (k : ℕ) → k + 0 ≡ 0 + k
around_none k = omega arith

from_left : (a b c : ℕ) → a + (b + c) ≡ (a + b) + c
from_left a b c = omega arith

pub bytes_push : (blocks : List NewBlock) (block : NewBlock) →
    total_block_bytes (blocks ++ block ∷ []) ≡ total_block_bytes blocks + new_block_bytes block
bytes_push [] block = around_none (new_block_bytes block)
bytes_push (b ∷ blocks) block =
    ap (λ k. new_block_bytes b + k) (bytes_push blocks block)
    ∙ from_left (new_block_bytes b) (total_block_bytes blocks) (new_block_bytes block)
