-- How the machine holds the state of a Linear function.
use Rattle.std.specs.Prelude.{◌≡◌, ◌≢◌, ℕ, ◌+◌, ◌-◌, ◌*◌, ◌%◌, ◌<◌, ◌≤◌, Bool, true, false, cond, List, [], ◌∷◌, ◌++◌, length, map, reverse, Option, Some, None, slice_get, slice_index}
use Rattle.std.specs.List.{AllByRecursion}
use Rattle.bs_words.specs.Memory.{HeapBlock}
use Rattle.bs_words.specs.declared.types.Loc.{Loc}
use Rattle.bs_words.specs.declared.types.Loc.TheVariants as loc
use Rattle.bs_words.specs.declared.values.Value.{Value}
use Rattle.image_form.specs.Tables.{Desc}
use Rattle.lin_ir.specs.Meaning.{is_named_location}
use Rattle.mach_ir.specs.Acts.{Around}
use Rattle.rv_isa.specs.Registers.{a0, ra, s1, s10, s11, sp, t1, t2}
use Rattle.rv_machine.specs.Frames.{Frame, registers_named}
use Rattle.rv_machine.specs.Hart.{Placed}
use Rattle.rv_machine.specs.Memory.{Region, memory_word, code_start}
use Rattle.rv_machine.specs.Moving.{is_scanned}
use Rattle.rv_machine.specs.Observation.{cells_of_header, young_start}
use Rattle.rv_machine.specs.Placement.{are_apart}
use Rattle.rv_machine.specs.Places.{domain_start, stack_bottom}
use Rattle.rv_machine.specs.Relocation.{root_addresses}
use Rattle.rv_machine.specs.Sound.{AreRegisters, HasRegions, extents}
use Rattle.rv_machine.specs.Space.{IsHeap}
use Rattle.moving_laws.specs.Heap.{AreBlocks}
use Rattle.moving_laws.specs.Stands.{AmongNumbers, BlocksStand, StaticsStand, AreReadable}
use Rattle.moving_laws.specs.Values.{value_word, IsKnown, FitsCell}
use Rattle.moving_laws.specs.Waiting.{WaitingActivation, Chain, AllWait, IsBack, TrapsFrom, traps_at}
use Rattle.moving_laws.specs.Young.{Rises}
use Rattle.lin_machine.specs.Contents.{blocks_of, statics_of}
use Rattle.lin_machine.specs.Statics.{StaticsLie}
use Rattle.lin_machine.specs.View.{Fixed, View}

-- ---- where the words of a function lie

pub record Laid : Type 0 where
  -- the place of the part of a line, by the number of lines after it and itself
  pub part : ℕ → ℕ
  -- the bytes of its frame, and whether its highest 8 hold the return address
  pub frame : ℕ
  pub saves : Bool
  -- the number of its slots
  pub slots : ℕ
  -- the address of a handler, by its label
  pub handler : ℕ → ℕ
  pub even : frame % 16 ≡ 0
  pub room : 8 * slots + cond saves 8 0 ≤ frame

-- ---- what lies below a function on the stack

-- The activations that wait, their frames, where its own frame ends, and where it goes back to.
pub record Below : Type 0 where
  pub waiting : List WaitingActivation
  pub frames : List Frame
  pub top : ℕ
  pub back : ℕ

-- below the entry there is only the stub
abbrev pub nothing_below : Below
nothing_below = record { waiting = []; frames = []; top = stack_bottom; back = code_start }

-- the trap frames of the activations that wait, the innermost first
abbrev pub waiting_trap_frames : List WaitingActivation → List Frame → List (ℕ × ℕ)
waiting_trap_frames [] fs = []
waiting_trap_frames (x ∷ xs) [] = []
waiting_trap_frames (x ∷ xs) (f ∷ fs) = traps_at f.at x.tries ++ waiting_trap_frames xs fs

-- What waits, round the running function, and the trap frame at the stack's bottom.
pub record Waits (s : Fixed) (placed : List Placed) (m : List Region) (c : Below) : Type 0 where
  pub low : s.base ≤ c.top
  pub high : c.top ≤ stack_bottom
  pub even : c.top % 16 ≡ 0
  pub back : IsBack c.back
  pub backs : AllByRecursion (λ (x : WaitingActivation). IsBack x.back) c.waiting
  pub chain : Chain s.image.descs s.base m false c.back c.top c.frames
  pub waits : AllWait s.image placed m c.waiting c.frames
  pub bottom : memory_word m stack_bottom ≡ code_start + 8

-- own: the trap frames of the running function, which lie at the low end of its frame
abbrev pub TrapsStand : Fixed → List Region → ℕ → List (ℕ × ℕ) → Below → Type 0
TrapsStand s m trap own c =
    TrapsFrom s.base m trap (own ++ waiting_trap_frames c.waiting c.frames) stack_bottom

-- ---- the heap and the data

pub record HeapStands (s : Fixed) (placed : List Placed) (m : List Region) (a : Around)
    : Type 0 where
  pub old : AreBlocks placed
  pub readable : AreReadable m placed
  pub stand : BlocksStand s.image placed m (blocks_of a)
  -- headers say how many cells there are, and what these hold
  pub heads : (k : ℕ) (b : HeapBlock) → slice_get a.memory.blocks k ≡ Some b →
      cells_of_header b.header ≡ length b.cells
  pub fits : (k j : ℕ) (b : HeapBlock) (v : Value) → slice_get a.memory.blocks k ≡ Some b →
      (blocks_of a).cell k j ≡ Some v → FitsCell s.image (length placed) (is_scanned b.header) v
  pub statics : StaticsStand s.image placed m (root_addresses s.image) (statics_of a.memory)
  pub lie : StaticsLie s.image a.memory

-- the table of blocks, and the memory in which they lie
pub record IsUsable (s : Fixed) (v : View) : Type 0 where
  pub regions : HasRegions (extents s.image s.heap s.base) v.memory
  pub heap : IsHeap s.heap v.blocks
  pub apart : are_apart v.blocks ≡ true

-- ---- the registers that the machine keeps to itself

-- s10, with the bytes that were taken off it for blocks to come, is where the young blocks begin
pub record OwnRegisters (registers : List ℕ) (young : List Placed) (taken : ℕ) : Type 0 where
  pub are : AreRegisters registers
  pub from_even : (slice_index registers s10 + taken) % 8 ≡ 0
  pub from_low : young_start ≤ slice_index registers s10 + taken
  pub rises : Rises (slice_index registers s10 + taken) young
  pub domain : slice_index registers s11 ≡ domain_start

-- a register that may be a location
pub record IsLocationRegister (r : ℕ) : Type 0 where
  pub some : 3 ≤ r
  pub below : r < 32
  pub no_trap : r ≢ s1
  pub no_young : r ≢ s10
  pub no_domain : r ≢ s11
  pub no_scratch : (r ≢ t1) × (r ≢ t2)

-- ---- what locations hold

-- the blocks by serial, those of the table and then the young ones
abbrev pub blocks_by_serial : View → List Placed → List Placed
blocks_by_serial v young = v.blocks ++ reverse young

-- a word stands for a value whose blocks and functions are there
pub record StandsFor (s : Fixed) (placed : List Placed) (w : ℕ) (v : Value) : Type 0 where
  pub is : w ≡ value_word s.image placed v
  pub known : IsKnown s.image (length placed) v

abbrev pub RegistersHold : Fixed → List Placed → List ℕ → (Loc → Option Value) → Type 0
RegistersHold s placed registers file =
    (r : ℕ) (v : Value) → file (loc.Machine r) ≡ Some v →
    IsLocationRegister r × StandsFor s placed (slice_index registers r) v

-- Between a raise and the entry of its handler the raised value is in a0, and registers hold
-- nothing else.
abbrev pub AreCarried : Fixed → List Placed → List ℕ → (Loc → Option Value) → Option Value → Type 0
AreCarried s placed registers file None = RegistersHold s placed registers file
AreCarried s placed registers file (Some v) = StandsFor s placed (slice_index registers a0) v

-- slot k lies 8 bytes further than slot k - 1, above the function's trap frames
abbrev pub SlotsHold : Fixed → Laid → List Placed → List Region → ℕ → ℕ → (Loc → Option Value) →
    Type 0
SlotsHold s laid placed m at traps file =
    (k : ℕ) (v : Value) → file (loc.Slot k) ≡ Some v →
    (k < laid.slots) × StandsFor s placed (memory_word m (at + (8 * k + 16 * traps))) v

-- where the return address is: in the frame's highest 8 bytes, or still in ra
abbrev pub ReturnStands : Bool → View → Below → Type 0
ReturnStands true v c = memory_word v.memory (c.top - 8) ≡ c.back
ReturnStands false v c = slice_index v.registers ra ≡ c.back

-- ---- the running function

-- at any place of its words
pub record Within (s : Fixed) (laid : Laid) (v : View) (young : List Placed) (taken : ℕ)
    (file : Loc → Option Value) (a : Around) (c : Below) : Type 0 where
  pub own : OwnRegisters v.registers young taken
  pub usable : IsUsable s v
  pub frame : slice_index v.registers sp + 16 * length a.tries + laid.frame ≡ c.top
  pub low : s.base ≤ slice_index v.registers sp
  pub carried : AreCarried s (blocks_by_serial v young) v.registers file a.raised
  pub slots : SlotsHold s laid (blocks_by_serial v young) v.memory (slice_index v.registers sp)
      (length a.tries) file
  pub back : ReturnStands laid.saves v c
  pub waits : Waits s (blocks_by_serial v young) v.memory c
  pub traps : TrapsStand s v.memory (slice_index v.registers s1)
      (traps_at (slice_index v.registers sp) (map laid.handler a.tries)) c
  pub heap : HeapStands s (blocks_by_serial v young) v.memory a

-- between two lines, where so many are left
pub record During (s : Fixed) (laid : Laid) (v : View) (young : List Placed) (left : ℕ)
    (file : Loc → Option Value) (a : Around) (c : Below) : Type 0 where
  pub place : v.place ≡ laid.part left
  pub within : Within s laid v young 0 file a c

-- ---- what a descriptor says of a frame point, where so many traps are pushed

pub record IsDescribed (laid : Laid) (traps : ℕ) (named : List Loc) (d : Desc) : Type 0 where
  pub size : d.size ≡ laid.frame + 16 * traps
  pub slot : (k : ℕ) → is_named_location (loc.Slot k) named ≡ true → AmongNumbers (8 * k + 16 * traps) d.entries
  pub from_slot : (e : ℕ) → AmongNumbers e d.entries → e % 2 ≡ 0 →
      (k : ℕ) × (e ≡ 8 * k + 16 * traps) × (k < laid.slots)
      × (is_named_location (loc.Slot k) named ≡ true)
  pub register : (r : ℕ) → is_named_location (loc.Machine r) named ≡ true →
      AmongNumbers r (registers_named d.entries)
  pub from_register : (r : ℕ) → AmongNumbers r (registers_named d.entries) →
      is_named_location (loc.Machine r) named ≡ true

-- the activation of a function that waits at a frame point: the return address is in its frame
abbrev pub waiting_of : Laid → (Loc → Option Value) → List ℕ → Below → WaitingActivation
waiting_of laid held tries c = record {
  back = c.back;
  count = laid.slots;
  slot = λ k. held (loc.Slot k);
  tries = map laid.handler tries;
}

-- what lies below its callee, which is to come back to an address
abbrev pub pushed : Laid → (Loc → Option Value) → List ℕ → Below → (at : ℕ) → Desc → (back : ℕ) →
    Below
pushed laid held tries c at d back = record {
  waiting = waiting_of laid held tries c ∷ c.waiting;
  frames = record { at = at; desc = d } ∷ c.frames;
  top = at;
  back = back;
}
