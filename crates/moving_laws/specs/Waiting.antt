-- The frames of the functions that have not returned, and what a service finds in them.
use Rattle.std.specs.Prelude.{◌≡◌, ℕ, ◌+◌, ◌-◌, ◌*◌, ◌%◌, ◌<◌, ◌≤◌, ◌≢◌, ◌⊎◌, Bool, true, false, List, [], ◌∷◌, length, Option, Some, slice_index}
use Rattle.bs_words.specs.Fits.{data_start}
use Rattle.bs_words.specs.declared.values.Value.{Value}
use Rattle.image_form.specs.Tables.{Tables, Desc}
use Rattle.rv_machine.specs.Frames.{Frame, descriptor_at, names_register, registers_named}
use Rattle.rv_machine.specs.Hart.{Placed}
use Rattle.rv_machine.specs.Memory.{Region, memory_word, code_start}
use Rattle.rv_machine.specs.Places.{stack_end}
use Rattle.moving_laws.specs.Values.{value_word, IsVal, IsStill, IsKnown}
use Rattle.moving_laws.specs.Stands.{AmongNumbers}

-- An activation that waits at a frame point: what its slots hold, and the handlers of its tries
-- that are pushed, the innermost first.
pub record WaitingActivation : Type 0 where
  -- where it goes back to
  pub back : ℕ
  -- the number of its slots, and what each holds: nothing where it may not be read
  pub count : ℕ
  pub slot : ℕ → Option Value
  pub tries : List ℕ

-- where slot k lies in its frame
abbrev pub waiting_slot_offset : WaitingActivation → ℕ → ℕ
waiting_slot_offset x k = 16 * length x.tries + 8 * k

-- a frame with this descriptor lies at an address
pub record IsFrameAt (first : Bool) (base p : ℕ) (d : Desc) : Type 0 where
  pub low : base ≤ p
  pub even : p % 8 ≡ 0
  pub size_even : d.size % 8 ≡ 0
  pub size_least : 16 ≤ d.size
  pub high : p + d.size ≤ stack_end
  pub registers : (first ≡ true) ⊎ (names_register d.entries ≡ false)
  pub entries : (e : ℕ) → AmongNumbers e d.entries → e % 2 ≡ 0 → (e % 8 ≡ 0) × (e + 8 ≤ d.size)

-- the frames from a return address and a stack pointer up to the stub's address
abbrev pub Chain : List Desc → ℕ → List Region → Bool → ℕ → ℕ → List Frame → Type 0
Chain ds base m first a p [] = a ≡ code_start
Chain ds base m first a p (f ∷ fs) =
    (a ≢ code_start) × (descriptor_at ds a ≡ Some f.desc) × (f.at ≡ p)
    × IsFrameAt first base p f.desc
    × (memory_word m (p + (f.desc.size - 8)) ≤ data_start)
    × Chain ds base m false (memory_word m (p + (f.desc.size - 8))) (p + f.desc.size) fs

-- Its frame has what the activation has: a slot holds its value, a pointer is only where the
-- descriptor names it, and what is named fits val.
pub record IsWaiting (image : Tables) (placed : List Placed) (m : List Region) (x : WaitingActivation)
    (f : Frame) : Type 0 where
  pub room : waiting_slot_offset x (x.count) + 8 ≤ f.desc.size
  pub back : memory_word m (f.at + (f.desc.size - 8)) ≡ x.back
  pub slot : (k : ℕ) (v : Value) → k < x.count → x.slot k ≡ Some v →
      memory_word m (f.at + waiting_slot_offset x k) ≡ value_word image placed v
  pub known : (k : ℕ) (v : Value) → k < x.count → x.slot k ≡ Some v →
      IsKnown image (length placed) v
  pub value : (k : ℕ) (v : Value) → k < x.count → x.slot k ≡ Some v → IsStill v
      ⊎ AmongNumbers (waiting_slot_offset x k) f.desc.entries
  pub named : (e : ℕ) → AmongNumbers e f.desc.entries → e % 2 ≡ 0 → (k : ℕ) × (v : Value)
      × (e ≡ waiting_slot_offset x k) × (k < x.count) × (x.slot k ≡ Some v)
      × IsVal image (length placed) v

abbrev pub AllWait : Tables → List Placed → List Region → List WaitingActivation → List Frame → Type 0
AllWait image placed m [] [] = Unit {0}
AllWait image placed m [] (f ∷ fs) = ⊥
AllWait image placed m (x ∷ xs) [] = ⊥
AllWait image placed m (x ∷ xs) (f ∷ fs) = IsWaiting image placed m x f
    × AllWait image placed m xs fs

-- an address of code to which one may go
pub record IsBack (a : ℕ) : Type 0 where
  pub low : code_start ≤ a
  pub high : a ≤ data_start
  pub even : a % 4 ≡ 0

-- The trap frames of the activations, from a trap pointer on: each has its handler's address and
-- the trap pointer before it, and the last one is the bottom's.
abbrev pub TrapsFrom : ℕ → List Region → ℕ → List (ℕ × ℕ) → ℕ → Type 0
TrapsFrom base m s [] last = s ≡ last
TrapsFrom base m s (t ∷ ts) last =
    (s ≡ t.0) × (base ≤ s) × (s + 16 ≤ stack_end) × (s % 8 ≡ 0) × (memory_word m s ≡ t.1) × IsBack t.1
    × (base ≤ memory_word m (s + 8))
    × TrapsFrom base m (memory_word m (s + 8)) ts last

-- the places and handlers of a frame's tries
abbrev pub traps_at : ℕ → List ℕ → List (ℕ × ℕ)
traps_at p [] = []
traps_at p (t ∷ ts) = (p, t) ∷ traps_at (p + 16) ts

-- Registers: each location holds its value.
pub record AreRegisterValues (image : Tables) (placed : List Placed) (registers : List ℕ)
    (regs : ℕ → Option Value) : Type 0 where
  pub register : (r : ℕ) (v : Value) → regs r ≡ Some v →
      slice_index registers r ≡ value_word image placed v
  pub known : (r : ℕ) (v : Value) → regs r ≡ Some v → IsKnown image (length placed) v

-- and what the first descriptor says of them
pub record AreNamed (image : Tables) (count : ℕ) (regs : ℕ → Option Value) (d : Desc)
    : Type 0 where
  pub value : (r : ℕ) (v : Value) → regs r ≡ Some v → IsStill v
      ⊎ AmongNumbers r (registers_named d.entries)
  pub named : (r : ℕ) → AmongNumbers r (registers_named d.entries) → (v : Value) × (regs r ≡ Some v)
      × IsVal image count v
