-- The state in which a run begins.
use Rattle.std.specs.Prelude.{ℕ, zero, suc, ◌+◌, ◌-◌, ◌*◌, ◌/◌, List, [], ◌∷◌, ◌++◌, length, replicate}
use Rattle.image_form.specs.Tables.{Tables, Func}
use Rattle.rv_machine.specs.Hart.{Hart}
use Rattle.rv_machine.specs.Memory.{Region, words_of_bytes, code_start}
use Rattle.rv_machine.specs.Observation.{young_start, young_top}
use Rattle.bs_words.specs.Fits.{data_start}
use Rattle.rv_machine.specs.Places.{domain_start, half_start, stack_bottom, limit_at_rest, filler}

-- a region of so many words that are all the same
unfoldable pub uniform : ℕ → ℕ → ℕ → Region
uniform start words word = record { start = start; bytes = 8 * words; words = replicate words word }

unfoldable pub data_region : List ℕ → Region
data_region bytes =
    record { start = data_start; bytes = length bytes; words = words_of_bytes bytes }

unfoldable pub domain_region : Region
domain_region =
    record { start = domain_start; bytes = 4096; words = limit_at_rest ∷ replicate 511 0 }

-- the stack of so many bytes, and the bottom trap frame: the address in the stub that ends the run with
-- an uncaught raise, and no trap frame below
unfoldable pub stack_region : ℕ → Region
stack_region stack =
    record { start = stack_bottom - stack; bytes = stack + 16; words = replicate (stack / 8) 0 ++ (code_start + 8) ∷ 0 ∷ [] }

abbrev pub start_memory : Tables → ℕ → ℕ → List Region
start_memory image stack heap =
    data_region image.bytes ∷ domain_region ∷ uniform (half_start 0) (heap / 8) filler ∷ uniform (half_start 1) (heap / 8) filler
    ∷ uniform young_start 8192 filler ∷ stack_region stack ∷ []

-- the first `count` argument registers, 0 where there is no argument
abbrev pub padded : ℕ → List ℕ → List ℕ
padded zero args = []
padded (suc count) [] = 0 ∷ padded count []
padded (suc count) (a ∷ args) = a ∷ padded count args

-- x0 to x31: ra is the stub's address, sp and s1 are the stack's bottom, the arguments are in a0 to a7
-- and s2 to s9, s10 is the young area's top and s11 the domain page; the others are 0
abbrev pub start_registers : List ℕ → List ℕ
start_registers args =
    0 ∷ code_start ∷ stack_bottom ∷ 0 ∷ 0 ∷ 0 ∷ 0 ∷ 0 ∷ 0 ∷ stack_bottom ∷ (padded 16 args
    ++ young_top ∷ domain_start ∷ 0 ∷ 0 ∷ 0 ∷ 0 ∷ [])

-- a state in which no instruction has retired and there is no block
abbrev pub idle : Tables → List ℕ → ℕ → List Region → ℕ → ℕ → Hart
idle image registers pc memory stack_base heap = record {
  image = image;
  registers = registers;
  pc = pc;
  memory = memory;
  stack_base = stack_base;
  heap = heap;
  blocks = [];
  retired = 0;
  services = 0;
}

-- the state at the entry of a function, with argument words and so many bytes of stack and of each half
abbrev pub start : Tables → Func → List ℕ → ℕ → ℕ → Hart
start image entry args stack heap =
    idle image (start_registers args) (code_start + entry.offset) (start_memory image stack heap)
    (stack_bottom - stack) heap
