-- What a proof sees of the machine between two instructions, and how the machine goes on, under
-- every schedule of asks. It is the machine that refuses an allocation service where it is not in need.
use Rattle.std.specs.Prelude.{◌≡◌, ◌≢◌, ℕ, ◌+◌, ◌*◌, ◌%◌, ◌⊎◌, Bool, true, false, List, [], ◌∷◌, map, slice_get, Some}
use Rattle.std.specs.List.{AllByRecursion}
use Rattle.bs_words.specs.Observed.{Made}
use Rattle.bs_words.specs.declared.types.Ret.{Ret}
use Rattle.guarded_machine.specs.Guarded.{guarded_after}
use Rattle.image_form.specs.Tables.{Tables}
use Rattle.rv_isa.specs.Encoding.{InstrFits, encoded}
use Rattle.rv_isa.specs.declared.instr.Instr.{Instr}
use Rattle.rv_machine.specs.Hart.{Placed}
use Rattle.rv_machine.specs.Loading.{IsRoom}
use Rattle.rv_machine.specs.Memory.{Region, memory_word, code_start}
use Rattle.rv_machine.specs.Places.{domain_start, limit_asked, limit_at_rest}
use Rattle.rv_machine.specs.Run.{Schedule}
use Rattle.rv_machine.specs.Services.{End, Machine, Going, Over}
use Rattle.rv_machine.specs.Sound.{HasRegions, IsRegion, IsStackBase, extent, extents}
use Rattle.moving_laws.specs.Values.{HasFunctions}
use Rattle.moving_laws.specs.Words.{held_word}

-- What stays as it is during a run.
pub record Fixed : Type 0 where
  pub image : Tables
  pub schedule : Schedule
  pub result : Ret
  -- the lowest address of the stack, and the bytes of a half of the heap
  pub base : ℕ
  pub heap : ℕ
  pub functions : HasFunctions image
  pub stack : IsStackBase base
  pub room : IsRoom heap

-- The limit word is left out of what is seen: asks set it at any time. It may be known that one has.
pub record View : Type 0 where
  -- how many instruction words are before the next one
  pub place : ℕ
  pub registers : List ℕ
  pub memory : List Region
  pub blocks : List Placed
  pub answers : List ℕ
  pub calls : List Made
  pub asked : Bool

-- two memories that differ in the limit word alone
pub record IsLike (m m' : List Region) : Type 0 where
  pub words : (x : ℕ) → x ≢ domain_start → memory_word m' x ≡ memory_word m x
  -- also the word in which a region ends
  pub held : (x : ℕ) → x % 8 ≡ 0 → x ≢ domain_start → held_word m' x ≡ held_word m x
  pub lie : map extent m' ≡ map extent m
  pub each : AllByRecursion IsRegion m'

-- the mover asks, or asks for nothing
abbrev pub IsLimit : List Region → Type 0
IsLimit m = (memory_word m domain_start ≡ limit_at_rest) ⊎ (memory_word m domain_start ≡ limit_asked)

-- It asks, where that is known.
abbrev pub KnownLimit : Bool → List Region → Type 0
KnownLimit true m = memory_word m domain_start ≡ limit_asked
KnownLimit false m = IsLimit m

-- The machine is in this state.
pub record HasView (s : Fixed) (machine : Machine) (v : View) : Type 0 where
  pub image : machine.hart.image ≡ s.image
  pub pc : machine.hart.pc ≡ code_start + 4 * v.place
  pub registers : machine.hart.registers ≡ v.registers
  pub memory : IsLike v.memory machine.hart.memory
  pub regions : HasRegions (extents s.image s.heap s.base) machine.hart.memory
  pub limit : KnownLimit v.asked machine.hart.memory
  pub stack_base : machine.hart.stack_base ≡ s.base
  pub heap : machine.hart.heap ≡ s.heap
  pub blocks : machine.hart.blocks ≡ v.blocks
  pub result : machine.result ≡ s.result
  pub answers : machine.answers ≡ v.answers
  pub calls : machine.calls ≡ v.calls

-- So many instructions lead from one view to another.
pub record ReachesView (s : Fixed) (n : ℕ) (v w : View) : Type 0 where
  pub answers : w.answers ≡ v.answers
  pub calls : w.calls ≡ v.calls
  pub asked : w.asked ≡ v.asked
  pub by : (a : Machine) → HasView s a v → (b : Machine) × HasView s b w
      × ((j k : ℕ) → j ≡ n + k →
      guarded_after s.schedule j (Going a) ≡ guarded_after s.schedule k (Going b))

-- So many instructions end the run.
pub record EndsRunAfter (s : Fixed) (n : ℕ) (v : View) (end : End) : Type 0 where
  pub by : (a : Machine) → HasView s a v → (j k : ℕ) → j ≡ n + k →
      guarded_after s.schedule j (Going a) ≡ guarded_after s.schedule k (Over v.calls end)

-- the instruction is at this place of the code
pub record IsInstructionAt (s : Fixed) (place : ℕ) (i : Instr) : Type 0 where
  pub there : slice_get s.image.code place ≡ Some (encoded i)
  pub fits : InstrFits i

-- so do these, one after the other
abbrev pub HasCode : Fixed → ℕ → List Instr → Type 0
HasCode s place [] = Unit {0}
HasCode s place (i ∷ is) = IsInstructionAt s place i × HasCode s (place + 1) is
