-- What every state of a run keeps, whatever its code does: registers and memory hold words, the regions stay
-- where they are, and the blocks of the table are apart inside the heap.
use Rattle.std.specs.Prelude.{◌≡◌, ℕ, ◌+◌, ◌-◌, ◌*◌, ◌%◌, ◌^◌, ◌<◌, ◌≤◌, true, List, [], ◌∷◌, length, map, slice_index}
use Rattle.std.specs.List.{AllByRecursion}
use Rattle.image_form.specs.Image.{AreTables}
use Rattle.image_form.specs.Tables.{Tables}
use Rattle.rv_machine.specs.Hart.{Hart, Next, Retired, Service, StackOut, Stopped}
use Rattle.rv_machine.specs.Memory.{Region}
use Rattle.rv_machine.specs.Observation.{young_start}
use Rattle.rv_machine.specs.Placement.{are_apart}
use Rattle.rv_machine.specs.Places.{domain_start, half_start, stack_bottom, most_room, stack_end}
use Rattle.bs_words.specs.Fits.{data_start}
use Rattle.rv_machine.specs.Relocation.{Serviced, Goes, NoHeap, Refused}
use Rattle.rv_machine.specs.Services.{Machine, Now, Going, Over}
use Rattle.rv_machine.specs.Space.{IsHeap}

-- every number of the list is a word
abbrev pub AllWords : List ℕ → Type 0
AllWords xs = (i : ℕ) → slice_index xs i < 2 ^ 64

-- ---- registers

-- There are 32, and x0 holds 0.
pub record AreRegisters (registers : List ℕ) : Type 0 where
  pub count : length registers ≡ 32
  pub x0 : slice_index registers 0 ≡ 0
  pub words : AllWords registers

-- ---- memory

-- Where a region lies.
pub record Extent : Type 0 where
  pub start : ℕ
  pub bytes : ℕ

abbrev pub extent : Region → Extent
extent r = record { start = r.start; bytes = r.bytes }

-- where the regions of a machine lie that runs an image, with so many bytes in each half of the heap and
-- this lowest address of the stack
abbrev pub extents : Tables → ℕ → ℕ → List Extent
extents image heap base =
    record { start = data_start; bytes = length image.bytes } ∷ record { start = domain_start; bytes = 4096 }
    ∷ record { start = half_start 0; bytes = heap } ∷ record { start = half_start 1; bytes = heap }
    ∷ record { start = young_start; bytes = 65536 } ∷ record { start = base; bytes = stack_end - base } ∷ []

-- A region begins at a multiple of 8, and has words for all its bytes.
pub record IsRegion (r : Region) : Type 0 where
  pub aligned : r.start % 8 ≡ 0
  pub covered : r.bytes ≤ 8 * length r.words
  pub words : AllWords r.words

-- The regions of a memory lie there.
pub record HasRegions (places : List Extent) (memory : List Region) : Type 0 where
  pub lie : map extent memory ≡ places
  pub each : AllByRecursion IsRegion memory

-- ---- the hart

-- The lowest address of a stack.
pub record IsStackBase (base : ℕ) : Type 0 where
  pub aligned : base % 16 ≡ 0
  pub low : stack_bottom ≤ base + most_room
  pub high : base ≤ stack_bottom

pub record IsSound (h : Hart) : Type 0 where
  pub image : AreTables h.image
  pub registers : AreRegisters h.registers
  pub memory : HasRegions (extents h.image h.heap h.stack_base) h.memory
  pub stack : IsStackBase h.stack_base
  pub heap : IsHeap h.heap h.blocks
  pub apart : are_apart h.blocks ≡ true

-- ---- what comes of an instruction, of a service and of a run's step

abbrev pub IsSoundNext : Next → Type 0
IsSoundNext (Retired h) = IsSound h
IsSoundNext (Service h) = IsSound h
IsSoundNext StackOut = Unit {0}
IsSoundNext (Stopped cause) = Unit {0}

abbrev pub IsSoundService : Serviced → Type 0
IsSoundService (Goes h) = IsSound h
IsSoundService NoHeap = Unit {0}
IsSoundService (Refused cause) = Unit {0}

-- The hart of a run is sound, and the answers that are left are words.
pub record IsSoundMachine (m : Machine) : Type 0 where
  pub hart : IsSound m.hart
  pub answers : AllWords m.answers

abbrev pub IsSoundNow : Now → Type 0
IsSoundNow (Going m) = IsSoundMachine m
IsSoundNow (Over calls end) = Unit {0}
