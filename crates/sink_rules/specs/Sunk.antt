-- Mach functions in which registers are moved to themselves before calls.
use Rattle.std.specs.Prelude.{◌≡◌, ◌≢◌, ℕ, ◌+◌, ◌*◌, ◌≤◌, Bool, true, cond, List, [], ◌∷◌, ◌++◌, length, Contains}
use Rattle.bs_words.specs.declared.types.Comp.TheVariants as comp
use Rattle.bs_words.specs.declared.types.Loc.TheVariants as loc
use Rattle.mach_ir.specs.Formed.{AreDistinct}
use Rattle.mach_ir.specs.Sizes.{Size, HasSize, OpenAtMost}
use Rattle.mach_ir.specs.Walks.{Live, Reached, StandsAsInstr, IsRegister}
use Rattle.mach_ir.specs.declared.op.CopyKind.TheVariants as copy
use Rattle.mach_ir.specs.declared.op.Op.{Op}
use Rattle.mach_ir.specs.declared.op.Op.TheVariants as op
use Rattle.mach_ir.specs.declared.op.Pure.TheVariants as pure
use Rattle.mach_ir.specs.declared.reg.Reg.{Reg}
use Rattle.mach_ir.specs.declared.mach.MachOp.TheVariants as mach
use Rattle.mach_ir.specs.declared.mach.Instr.{Instr}
use Rattle.mach_ir.specs.declared.mach.Mach.{Mach}
use Rattle.mach_laws.specs.Expand.{expand}
use Rattle.pass_rules.specs.Carried.{IsCarried}
use Rattle.pass_rules.specs.Measures.{copy_words}
use Rattle.sink_rules.specs.Walks.{Stale}
use Rattle.mach_laws.specs.Passes.{IsPassKept}

-- Which registers are moved to themselves, and before which instructions: by how many instructions
-- come after, and by the register's number.
pub record SinkPlan : Type 0 where
  pub registers : List Reg
  pub moves : ℕ → ℕ → Bool

-- the instruction that moves a register to itself
abbrev pub to_itself : Reg → Instr
to_itself r =
    record { op = mach.Op (op.Pure (pure.Copy copy.Move)); args = r ∷ []; results = r ∷ [] }

-- those of these registers that are moved before an instruction, in their order
abbrev pub planned_moves : SinkPlan → ℕ → List Reg → List Instr
planned_moves plan k [] = []
planned_moves plan k (r ∷ rs) =
    cond (plan.moves k r.number) (to_itself r ∷ planned_moves plan k rs) (planned_moves plan k rs)

-- an instruction, which so many come after, and the moves before it
abbrev pub sunk_instr : SinkPlan → ℕ → Instr → List Instr
sunk_instr plan k i = planned_moves plan k plan.registers ++ i ∷ []

-- The function with these moves. All else is as it was.
abbrev pub sunk : SinkPlan → Mach → Mach
sunk plan m = record m { code = expand (sunk_instr plan) m.code }

-- What a plan owes for a function to do what it did.
pub record IsSinkPlan (m : Mach) (plan : SinkPlan) : Type 0 where
  -- open registers of the function, each once
  pub registers : (r : Reg) → Contains plan.registers r → IsRegister m r
  pub open_places : (r : Reg) → Contains plan.registers r → r.loc ≡ loc.Unset
  pub distinct : AreDistinct plan.registers
  -- A register is live where it is moved, and is not stale there. So each walk to there writes it that
  -- begins at the entry, where it may be a parameter instead, or at a call that is not external or the
  -- entry of a handler, reached or not. What that call itself writes counts.
  pub live : (i : Instr) (next : List Instr) (r : Reg) → StandsAsInstr i next m.code →
      Contains plan.registers r → plan.moves (length next) r.number ≡ true →
      Live m r.number (i ∷ next)
  pub written : (i : Instr) (next : List Instr) (r : Reg) → StandsAsInstr i next m.code →
      Contains plan.registers r → plan.moves (length next) r.number ≡ true →
      Stale m r.number (i ∷ next) → ⊥
  -- moves are before operations, and before no marks
  pub operations : (i : Instr) (next : List Instr) (r : Reg) → StandsAsInstr i next m.code →
      Contains plan.registers r → plan.moves (length next) r.number ≡ true →
      (f : Op) × (i.op ≡ mach.Op f)
  -- No addr is moved where a walk comes: a frame point that is no call loses it, too.
  pub no_addr : (i : Instr) (next : List Instr) (r : Reg) → Reached m (i ∷ next) →
      Contains plan.registers r → plan.moves (length next) r.number ≡ true → r.comp ≢ comp.Addr
  -- each is moved before one instruction at the most
  pub once : (i j : Instr) (next others : List Instr) (r : Reg) → StandsAsInstr i next m.code →
      StandsAsInstr j others m.code → Contains plan.registers r →
      plan.moves (length next) r.number ≡ true → plan.moves (length others) r.number ≡ true →
      others ≡ next

-- What a function keeps with these moves.
pub record IsSinkKept (m q : Mach) (plan : SinkPlan) : Type 0 where
  pub pass : IsPassKept m q
  pub params : q.params ≡ m.params
  -- no register is new
  pub registers : (r : Reg) → IsRegister q r → IsRegister m r
  -- a move for each of these registers at the most
  pub size : (s : Size) → HasSize m s →
      HasSize q
      (record s {
        instrs = s.instrs + length plan.registers;
        operands = s.operands + 2 * length plan.registers;
      })
  pub carried : IsCarried (copy_words * length plan.registers) m q
  -- their numbers differ, so there are no more of them than numbers
  pub few : (s : Size) → HasSize m s → length plan.registers ≤ s.registers
  -- nor than of open registers
  pub few_open : (k : ℕ) → OpenAtMost m k → length plan.registers ≤ k
