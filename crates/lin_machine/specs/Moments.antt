-- A function that is about to begin, one that has just come back, and a raise on its way.
use Rattle.std.specs.Prelude.{◌≡◌, ℕ, ◌+◌, ◌*◌, ◌<◌, List, [], ◌∷◌, Option, Some, slice_get, slice_index}
use Rattle.bs_words.specs.Memory.{Memory}
use Rattle.bs_words.specs.declared.values.Value.{Value}
use Rattle.mach_ir.specs.Runs.{entry_around}
use Rattle.rv_isa.specs.Registers.{a0, ra, s1, sp}
use Rattle.rv_machine.specs.Hart.{Placed}
use Rattle.rv_machine.specs.Memory.{Region, code_start}
use Rattle.rv_machine.specs.Places.{stack_bottom}
use Rattle.moving_laws.specs.Waiting.{TrapsFrom}
use Rattle.lin_machine.specs.Relation.{Below, HeapStands, IsUsable, OwnRegisters, StandsFor, TrapsStand, Waits, blocks_by_serial, waiting_trap_frames}
use Rattle.lin_machine.specs.View.{Fixed, View}

-- Its arguments are in a0 to a7 and s2 to s9, which are x10 to x25, and ra says where it is to
-- come back to.
pub record AtEntry (s : Fixed) (v : View) (young : List Placed) (entry : ℕ) (arguments : List Value)
    (memory : Memory) (c : Below) : Type 0 where
  pub place : v.place ≡ entry
  pub own : OwnRegisters v.registers young 0
  pub usable : IsUsable s v
  pub top : slice_index v.registers sp ≡ c.top
  pub back : slice_index v.registers ra ≡ c.back
  pub arguments_in : (k : ℕ) (x : Value) → slice_get arguments k ≡ Some x →
      (k < 16) × StandsFor s (blocks_by_serial v young) (slice_index v.registers (a0 + k)) x
  pub waits : Waits s (blocks_by_serial v young) v.memory c
  pub traps : TrapsStand s v.memory (slice_index v.registers s1) [] c
  pub heap : HeapStands s (blocks_by_serial v young) v.memory (entry_around memory)

-- Its value, if there is one, is in a0.
pub record AtReturn (s : Fixed) (v : View) (young : List Placed) (value : Option Value)
    (memory : Memory) (c : Below) : Type 0 where
  pub place : code_start + 4 * v.place ≡ c.back
  pub own : OwnRegisters v.registers young 0
  pub usable : IsUsable s v
  pub top : slice_index v.registers sp ≡ c.top
  pub value_in : (x : Value) → value ≡ Some x →
      StandsFor s (blocks_by_serial v young) (slice_index v.registers a0) x
  pub waits : Waits s (blocks_by_serial v young) v.memory c
  pub traps : TrapsStand s v.memory (slice_index v.registers s1) [] c
  pub heap : HeapStands s (blocks_by_serial v young) v.memory (entry_around memory)

-- at the handler of the innermost trap frame, which is popped; at the stub where there is none
abbrev pub IsThrown : List Region → (base place at trap : ℕ) → List (ℕ × ℕ) → Type 0
IsThrown m base place at trap [] = code_start + 4 * place ≡ code_start + 8
IsThrown m base place at trap (t ∷ ts) =
    (code_start + 4 * place ≡ t.1) × (at ≡ t.0 + 16) × TrapsFrom base m trap ts stack_bottom

-- The function does not catch what was raised: it has come to the innermost handler of those that
-- wait, and is in a0.
pub record AtThrow (s : Fixed) (v : View) (young : List Placed) (x : Value) (memory : Memory)
    (c : Below) : Type 0 where
  pub own : OwnRegisters v.registers young 0
  pub usable : IsUsable s v
  pub value_in : StandsFor s (blocks_by_serial v young) (slice_index v.registers a0) x
  pub waits : Waits s (blocks_by_serial v young) v.memory c
  pub thrown : IsThrown v.memory s.base v.place (slice_index v.registers sp)
      (slice_index v.registers s1) (waiting_trap_frames c.waiting c.frames)
  pub heap : HeapStands s (blocks_by_serial v young) v.memory (entry_around memory)
