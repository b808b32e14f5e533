-- Mach functions in which constants that are made once are made at the entry, so that no loop makes
-- them anew in each turn.
use Rattle.std.specs.Prelude.{◌≡◌, ℕ, ◌%◌, Bool, true, cond, List, [], ◌∷◌, ◌++◌, length}
use Rattle.bs_words.specs.declared.types.Comp.{Comp}
use Rattle.bs_words.specs.declared.types.Comp.TheVariants as comp
use Rattle.bs_words.specs.declared.types.Loc.TheVariants as loc
use Rattle.deadcode_rules.specs.Dropped.{unless_dropped}
use Rattle.mach_ir.specs.Placed.{AllocatesFresh}
use Rattle.mach_ir.specs.Walks.{AmongRegisters, Writes, StandsAsInstr, IsRegister}
use Rattle.mach_ir.specs.declared.op.Op.TheVariants as op
use Rattle.mach_ir.specs.declared.op.Pure.TheVariants as pure
use Rattle.mach_ir.specs.declared.reg.Reg.{Reg}
use Rattle.mach_ir.specs.declared.mach.MachOp.TheVariants as mach
use Rattle.mach_ir.specs.declared.mach.Instr.{Instr}
use Rattle.mach_ir.specs.declared.mach.Mach.{Mach}
use Rattle.mach_laws.specs.Expand.{expand}
use Rattle.pass_rules.specs.Carried.{IsCarried}
use Rattle.mach_laws.specs.Passes.{IsPassKept, IsNoLarger}

-- the instruction that makes a constant in a register
abbrev pub makes : Reg → ℕ → Instr
makes r w = record { op = mach.Op (op.Pure (pure.Constant w)); args = []; results = r ∷ [] }

-- The word is a value of this component wherever data ends: an int, or an odd val. It is no addr,
-- which calls would lose.
pub data FitsAlways : Comp → ℕ → Type 0 where
  an_int : {w : ℕ} → FitsAlways comp.Int w
  an_odd_val : {w : ℕ} → w % 2 ≡ 1 → FitsAlways comp.Val w

-- An instruction, before this code, may move to the entry: it makes what fits anyway, in an open
-- register that nothing else writes and that shares its origin with no other.
pub record MayMove (m : Mach) (i : Instr) (next : List Instr) : Type 0 where
  pub register : Reg
  pub word : ℕ
  pub is : i ≡ makes register word
  pub fits : FitsAlways register.comp word
  pub open_place : register.loc ≡ loc.Unset
  pub once : (j : Instr) (others : List Instr) → StandsAsInstr j others m.code →
      Writes m j register.number → others ≡ next
  pub no_param : AmongRegisters register.number m.params → ⊥
  pub own : (r : Reg) → IsRegister m r → r.origin ≡ register.origin → r ≡ register

-- an instruction that moves, which so many come after, or none
abbrev pub hoisted_instruction : (ℕ → Bool) → ℕ → Instr → List Instr
hoisted_instruction moves k i = cond (moves k) (i ∷ []) []

-- The function with the instructions of which this is said, by how many come after them, first, in
-- their order. All else is as it was.
abbrev pub hoisted : (ℕ → Bool) → Mach → Mach
hoisted moves m =
    record m { code = expand (hoisted_instruction moves) m.code ++ expand (unless_dropped moves) m.code }

-- each of which it is said may move
abbrev pub MayAllMove : Mach → (ℕ → Bool) → Type 0
MayAllMove m moves =
    (i : Instr) (next : List Instr) → StandsAsInstr i next m.code → moves (length next) ≡ true →
    MayMove m i next

-- The second is the first with some constants made at the entry.
pub record IsHoisted (m q : Mach) : Type 0 where
  pub moves : ℕ → Bool
  pub may : MayAllMove m moves
  pub is : q ≡ hoisted moves m

-- What a function keeps whose constants are made at the entry.
pub record IsHoistKept (p q : Mach) : Type 0 where
  pub pass : IsPassKept p q
  pub no_larger : IsNoLarger p q
  pub fresh : AllocatesFresh p → AllocatesFresh q
  pub carried : IsCarried 0 p q
