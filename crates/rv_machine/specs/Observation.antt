-- What an observer sees of a word of the machine.
use Rattle.std.specs.Prelude.{ℕ, zero, suc, ◌+◌, ◌-◌, ◌*◌, ◌/◌, ◌%◌, ◌^◌, cond, ◌&&◌, ◌==◌, nat_le, List, [], ◌∷◌, ◌++◌, reverse, Option, Some, None, option_map, option_and_then}
use Rattle.bs_words.specs.declared.types.Comp.{Comp}
use Rattle.bs_words.specs.declared.types.Comp.TheVariants.{Int, Val, Addr, Float}
use Rattle.bs_words.specs.declared.values.Obs.{Obs}
use Rattle.bs_words.specs.declared.values.Obs.TheVariants.{Word, Block}
use Rattle.rv_isa.specs.Registers.{s10}
use Rattle.rv_machine.specs.Memory.{Region, read}
use Rattle.rv_machine.specs.Hart.{Hart, Placed, register}

-- the young area, where compiled code makes blocks from the top down
abbrev pub young_start : ℕ
young_start = 0x38000000

abbrev pub young_top : ℕ
young_top = 0x38010000

-- the number of cells that a header word says
abbrev pub cells_of_header : ℕ → ℕ
cells_of_header header = header / 2 ^ 10

-- a block of so many cells whose header is at an address, before the rest
abbrev pub block_then : ℕ → ℕ → Option (List Placed) → Option (List Placed)
block_then words address rest =
    cond (nat_le 1 words && nat_le words 256) (option_map (λ bs. record { start = address + 8; words = words } ∷ bs) rest) None

-- the blocks that lie one after the other from an address up to the young area's top, the lowest
-- first: each is a header and as many words as it says, 1 to 256; none where they do not read so
abbrev pub blocks_from : ℕ → List Region → ℕ → Option (List Placed)
blocks_from zero memory address = None
blocks_from (suc most) memory address =
    cond (address == young_top) (Some [])
    (option_and_then (λ header. block_then (cells_of_header header) address (blocks_from most memory (address + 8 + 8 * cells_of_header header)))
    (read memory address 8))

-- the blocks from an address that is a multiple of 8 in the young area or its top
abbrev pub young_blocks : List Region → ℕ → Option (List Placed)
young_blocks memory address =
    cond ((address % 8 == 0) && nat_le young_start address && nat_le address young_top)
    (blocks_from (suc ((young_top - address) / 16)) memory address) None

-- every block by serial, where the lowest young one begins at an address: those of the table, and then the
-- young ones, the one at the highest address first; none where the words do not read as whole blocks
abbrev pub blocks_at : Hart → ℕ → Option (List Placed)
blocks_at h from = option_map (λ young. h.blocks ++ reverse young) (young_blocks h.memory from)

abbrev pub or_none : Option (List Placed) → List Placed
or_none None = []
or_none (Some blocks) = blocks

abbrev pub blocks_or : List Placed → Option (List Placed) → List Placed
blocks_or table None = table
blocks_or table (Some blocks) = blocks

-- the blocks that an observer knows: those of the table alone where the young area does not read
abbrev pub all_blocks : Hart → List Placed
all_blocks h = blocks_or h.blocks (blocks_at h (register h s10))

-- the serial of the block that starts at an address, counted from `k`
abbrev pub serial_from : ℕ → List Placed → ℕ → Option ℕ
serial_from k [] address = None
serial_from k (b ∷ bs) address = cond (b.start == address) (Some k) (serial_from (suc k) bs address)

abbrev pub block_or_word : Option ℕ → ℕ → Obs
block_or_word None word = Word word
block_or_word (Some serial) word = Block serial

-- a word of type val that is a block's start is that block, and every other word is itself
abbrev pub observed_word : Hart → Comp → ℕ → Obs
observed_word h Val word = block_or_word (serial_from 0 (all_blocks h) word) word
observed_word h Int word = Word word
observed_word h Addr word = Word word
observed_word h Float word = Word word

-- the serial of the block at an address, among blocks that were passed from the lowest on: a block above
-- them comes before them
abbrev pub passed : ℕ → Option ℕ → ℕ → Option ℕ
passed address found start =
    cond (start == address) (Some 0) (option_map (λ serial. suc serial) found)
