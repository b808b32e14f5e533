-- Which registers are moved to themselves before a call, so that spilling stores them there and at
-- none of the assignments before.
--
-- The move is a write, so spilling, whose definition stays as it was, stores this write and none before it.
-- A register is moved only where it is written since the last call on every walk, and no other call and no
-- read may find it both so and not. Without that a call in one branch would be stored for twice.
use Rattle.std.specs.Prelude.{◌≡◌, ◌↔◌, ◌<◌, ℕ, true, false, List, ◌∷◌, ◌++◌, length, All, AllPairs, Contains}
use Rattle.bs_words.specs.declared.types.Loc.TheVariants as loc
use Rattle.mach_ir.specs.Placed.{is_straight, AreStraight}
use Rattle.mach_ir.specs.Walks.{AmongRegisters, Writes, StandsAsInstr, IsRegister}
use Rattle.mach_ir.specs.declared.op.Op.{Op}
use Rattle.mach_ir.specs.declared.reg.Reg.{Reg}
use Rattle.mach_ir.specs.declared.mach.Instr.{Instr}
use Rattle.mach_ir.specs.declared.mach.Mach.{Mach}
use Rattle.mach_ir.specs.declared.mach.MachOp.TheVariants as mach
use Rattle.spill_rules.specs.Chosen.{LivesOver}
use Rattle.sink_rules.specs.Sunk.{SinkPlan, sunk}
use Rattle.sink_rules.specs.Walks.{Fresh, Stale}

-- A straight run starts with this code, does not write the register, and comes to an operation, no
-- mark (`IsSunkAt` asks that it be a call). What is right before the run is not straight.
pub record IsRunTo (m : Mach) (n : ℕ) (from : List Instr) (call : Instr) (after : List Instr) :
    Type 0 where
  pub run : List Instr
  pub is : from ≡ run ++ call ∷ after
  pub straight : AreStraight run
  pub unwritten : All (λ (j : Instr). Writes m j n → ⊥) run
  pub begins : (j : Instr) → StandsAsInstr j from m.code → is_straight j.op ≡ false
  -- an operation, and so no entry of a handler
  pub operation : Op
  pub is_call : call.op ≡ mach.Op operation

-- An open register is moved to itself at the start of the straight run to a call that it lives
-- over, where it surely was written since the last call or entry of a handler, if no other of these
-- that it lives over may find it so, and no read may find it so on one walk and not so on another.
-- Then spilling stores it there alone, each time in place of the last write before, and on no run
-- more often, where parameters are at fixed places.
pub record IsSunkAt (m : Mach) (i : Instr) (next : List Instr) (r : Reg) : Type 0 where
  pub register : IsRegister m r
  pub open_place : r.loc ≡ loc.Unset
  pub stands : StandsAsInstr i next m.code
  pub call : Instr
  pub after : List Instr
  pub run : IsRunTo m r.number (i ∷ next) call after
  pub to : List Instr
  pub over : LivesOver m r.number call after to
  pub unsaved : Fresh m r.number (call ∷ after)
  pub surely : Stale m r.number (call ∷ after) → ⊥
  pub only : (j : Instr) (others onward : List Instr) → LivesOver m r.number j others onward →
      Fresh m r.number (j ∷ others) → others ≡ after
  pub late : (j : Instr) (others : List Instr) → StandsAsInstr j others m.code →
      AmongRegisters r.number j.args → Fresh m r.number (j ∷ others) →
      Stale m r.number (j ∷ others) → ⊥

-- some instruction of the function has this register moved before it
pub record IsSunkSomewhere (m : Mach) (r : Reg) : Type 0 where
  pub instr : Instr
  pub next : List Instr
  pub sunk_at : IsSunkAt m instr next r

-- The plan that is chosen: these registers, by rising numbers, each before its run.
pub record IsSinkChoice (m : Mach) (plan : SinkPlan) : Type 0 where
  pub registers : (r : Reg) → Contains plan.registers r ↔ IsSunkSomewhere m r
  pub rising : AllPairs (λ (r q : Reg). r.number < q.number) plan.registers
  pub moves : (i : Instr) (next : List Instr) (r : Reg) → StandsAsInstr i next m.code →
      Contains plan.registers r →
      (plan.moves (length next) r.number ≡ true) ↔ IsSunkAt m i next r

-- The second is the first with these moves.
-- The move is at the start of the straight run to the call. Right before the call the operands of the call
-- have taken the colours of the convention, so a register that lives on could not have one of them.
pub record IsSunk (m q : Mach) : Type 0 where
  pub plan : SinkPlan
  pub chosen : IsSinkChoice m plan
  pub is : q ≡ sunk plan m
