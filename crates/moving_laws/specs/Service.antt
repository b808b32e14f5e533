-- What is known of the machine where a service moves the blocks, and what of that is restored.
use Rattle.std.specs.Prelude.{◌≡◌, ℕ, suc, ◌+◌, ◌-◌, ◌%◌, ◌<◌, ◌≤◌, ◌≢◌, ◌⊎◌, true, List, ◌∷◌, ◌++◌, length, reverse, Option, None, slice_index}
use Rattle.std.specs.List.{AllByRecursion}
use Rattle.bs_words.specs.declared.values.Value.{Value}
use Rattle.rv_isa.specs.Registers.{s1, s10, s11, sp}
use Rattle.rv_machine.specs.Allocation.{allocation_served, bytes_asked}
use Rattle.rv_machine.specs.FrameCalls.{collected}
use Rattle.rv_machine.specs.Frames.{Frame, registers_named}
use Rattle.rv_machine.specs.Hart.{Hart, Placed, register}
use Rattle.rv_machine.specs.Memory.{memory_word}
use Rattle.rv_machine.specs.Observation.{young_start, young_top}
use Rattle.rv_machine.specs.Placement.{block_end}
use Rattle.rv_machine.specs.Places.{domain_start, limit_at_rest, stack_end}
use Rattle.rv_machine.specs.Relocation.{Goes, root_addresses}
use Rattle.rv_machine.specs.Sound.{IsSound}
use Rattle.moving_laws.specs.Heap.{AreBlocks}
use Rattle.moving_laws.specs.Stands.{Blocks, BlocksStand, AreSettled, StaticsStand, AreReadable, AmongNumbers}
use Rattle.moving_laws.specs.Values.{HasFunctions}
use Rattle.moving_laws.specs.Waiting.{WaitingActivation, Chain, AllWait, TrapsFrom, AreRegisterValues, AreNamed}
use Rattle.moving_laws.specs.Words.{IsReadable}
use Rattle.moving_laws.specs.Young.{Rises, HaveHeads}

-- What the machine stands for where a function waits at a frame point: what registers hold, the
-- activations from its own on, the trap frames from s1 to the last trap pointer, the blocks, and
-- the static cells by address.
pub record Contents : Type 0 where
  pub registers : ℕ → Option Value
  pub waiting : List WaitingActivation
  pub traps : List (ℕ × ℕ)
  pub last : ℕ
  pub blocks : Blocks
  pub static : ℕ → Option Value

-- The machine is before a service, or after it, which returns to an address. The blocks lie
-- so, those of the young area among them. The running function's own frame is the first of the
-- frames, and it is the first activation: what may not be read after the service is none in it
-- already.
pub record Knows (placed : List Placed) (h : Hart) (frames : List Frame) (c : Contents)
    (back : ℕ) : Type 0 where
  pub sound : IsSound h
  pub old : AreBlocks placed
  pub sp_low : h.stack_base ≤ register h sp
  pub sp_high : register h sp ≤ stack_end
  pub chain : Chain h.image.descs h.stack_base h.memory true back (register h sp) frames
  pub in_registers : AreRegisterValues h.image placed h.registers c.registers
  pub waits : AllWait h.image placed h.memory c.waiting frames
  pub traps : TrapsFrom h.stack_base h.memory (register h s1) c.traps c.last
  pub stand : BlocksStand h.image placed h.memory c.blocks
  pub settled : AreSettled h.image (length placed) c.blocks
  pub statics : StaticsStand h.image placed h.memory (root_addresses h.image) c.static

-- What a service asks for that moves the blocks: the young ones lie from an address on, and the
-- first descriptor names just the registers that hold vals.
pub record IsServiceReady (h : Hart) (from : ℕ) (young : List Placed) (f : Frame)
    (registers : ℕ → Option Value) : Type 0 where
  pub functions : HasFunctions h.image
  pub from_even : from % 8 ≡ 0
  pub from_low : young_start ≤ from
  pub rises : Rises from young
  pub heads : HaveHeads h.memory young
  pub named : AreNamed h.image (length (h.blocks ++ reverse young)) registers f.desc
  pub plain : (r : ℕ) → AmongNumbers r (registers_named f.desc.entries) → (3 ≤ r) × (r < 32) × (r ≢ s1)
      × (r ≢ s10) × (r ≢ s11)
  pub no_s10 : registers s10 ≡ None

-- What is restored after it, where so many bytes of the young area are taken.
pub record IsRestored (bytes : ℕ) (h : Hart) (f : Frame) (frames : List Frame) (c : Contents)
    (new : Hart) : Type 0 where
  pub knows : Knows new.blocks new (f ∷ frames) c (h.pc + 4)
  pub image : new.image ≡ h.image
  pub stack_base : new.stack_base ≡ h.stack_base
  pub heap : new.heap ≡ h.heap
  pub s10_is : slice_index new.registers s10 ≡ young_top - bytes
  pub others : (r : ℕ) → r ≢ s10 → (AmongNumbers r (registers_named f.desc.entries) → ⊥) →
      slice_index new.registers r ≡ slice_index h.registers r
  pub readable : (x : ℕ) → IsReadable h.memory x → IsReadable new.memory x
  pub table_low : AllByRecursion (λ (b : Placed). block_end b ≤ young_start) new.blocks
  pub blocks_readable : AreReadable new.memory new.blocks
  -- the mover asks no more
  pub limit : memory_word new.memory domain_start ≡ limit_at_rest
  -- a word of the stack that lies in no heap stays
  pub stays : (x : ℕ) → h.stack_base ≤ x → x + 8 ≤ stack_end → x % 8 ≡ 0 →
      (memory_word h.memory x < 0x30000008) ⊎ (0x38010000 < memory_word h.memory x) →
      memory_word new.memory x ≡ memory_word h.memory x

-- The allocation service, where the bytes have been taken off s10 before.
pub record IsAllocationServed (plan : List Placed → List ℕ) (h : Hart) (f : Frame) (frames : List Frame)
    (c : Contents) : Type 0 where
  pub new : Hart
  pub is : allocation_served plan h ≡ Goes new
  pub restored : IsRestored (bytes_asked h) h f frames c new
  pub pc : new.pc ≡ h.pc + 4
  pub retired : new.retired ≡ suc h.retired

-- The move of a frame call, before its answers are taken and the ECALL retires.
pub record IsCollected (plan : List Placed → List ℕ) (h : Hart) (f : Frame) (frames : List Frame)
    (c : Contents) : Type 0 where
  pub new : Hart
  pub is : collected plan h ≡ Goes new
  pub restored : IsRestored 0 h f frames c new
  pub pc : new.pc ≡ h.pc
  pub retired : new.retired ≡ h.retired
