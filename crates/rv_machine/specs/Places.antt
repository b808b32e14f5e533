-- Where things lie in the machine's memory, and what is in memory that holds nothing.
use Rattle.std.specs.Prelude.{ℕ, ◌+◌, ◌*◌}
use Rattle.rv_machine.specs.Observation.{young_start, young_top}

-- the domain page: its first word is the limit word
abbrev pub domain_start : ℕ
domain_start = 0x20000000

-- the two halves of the heap
abbrev pub half_start : ℕ → ℕ
half_start k = 0x30000000 + 0x04000000 * k

-- the bottom of the stack, where a trap frame lies that no program pushed
abbrev pub stack_bottom : ℕ
stack_bottom = 0x3FFFFFF0

-- the most bytes of a stack, and of a half of the heap
abbrev pub most_room : ℕ
most_room = 67108864

-- the end of the stack's region, after that trap frame
abbrev pub stack_end : ℕ
stack_end = 0x40000000

-- the limit word while the mover asks for nothing, and where it asks
abbrev pub limit_at_rest : ℕ
limit_at_rest = young_start

abbrev pub limit_asked : ℕ
limit_asked = young_top

-- what is in memory that holds nothing, and what an external call leaves in the registers that it
-- destroys
abbrev pub filler : ℕ
filler = 0x5A5A5A5A5A5A5A5A
