-- The bytes of an allocation.
use Rattle.std.specs.Prelude.{ℕ, ◌+◌, ◌*◌, List, [], ◌∷◌}
use Rattle.mach_ir.specs.declared.blocks.NewBlock.{NewBlock}

-- a header word, and a word for each cell
abbrev pub new_block_bytes : NewBlock → ℕ
new_block_bytes b = 8 * (b.cells + 1)

abbrev pub total_block_bytes : List NewBlock → ℕ
total_block_bytes [] = 0
total_block_bytes (b ∷ blocks) = new_block_bytes b + total_block_bytes blocks
