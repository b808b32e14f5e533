-- What the tables of a function say.
use Rattle.std.specs.Prelude.{◌≡◌, ◌↔◌, ℕ, ◌<◌, ◌≤◌, Bool, true, List, ◌∷◌, length, drop}
use Rattle.bs_bits.specs.Set.{has}
use Rattle.dataflow.specs.Rows.{set_in_row}
use Rattle.mach_ir.specs.Walks.{WalkStep, Raises, Writes, IsRegister}
use Rattle.mach_ir.specs.declared.reg.Reg.{Reg}
use Rattle.mach_ir.specs.declared.mach.Instr.{Instr}
use Rattle.mach_ir.specs.declared.mach.Mach.{Mach}
use Rattle.spill_rules.specs.Chosen.{Lost, IsReloaded}
use Rattle.spill.specs.declared.tables.Tables.{Tables}

-- Some walk from this code on comes to a place where the register is reloaded, with no write of it
-- before. A raise edge passes no write.
pub data Wanted (m : Mach) (n : ℕ) : List Instr → Type 0 where
  here : {i : Instr} {next : List Instr} → IsReloaded m i next n → Wanted m n (i ∷ next)
  on : {i : Instr} {next to : List Instr} → (Writes m i n → ⊥) → WalkStep m i next to →
      Wanted m n to → Wanted m n (i ∷ next)
  aside : {i : Instr} {next to : List Instr} → Raises m i next to → Wanted m n to →
      Wanted m n (i ∷ next)

-- the sets say exactly what is lost before each place
pub record AreLost (m : Mach) (rows : List (List Bool)) : Type 0 where
  pub exact : (p n : ℕ) → p ≤ length m.code →
      (has (set_in_row rows p) n ≡ true) ↔ Lost m n (drop p m.code)

-- and what is wanted
pub record AreWanted (m : Mach) (rows : List (List Bool)) : Type 0 where
  pub exact : (p n : ℕ) → p ≤ length m.code →
      (has (set_in_row rows p) n ≡ true) ↔ Wanted m n (drop p m.code)

-- the tables of a function
pub record AreSpillTables (m : Mach) (t : Tables) : Type 0 where
  pub above : (r : Reg) → IsRegister m r → r.number < t.free
  pub least : (b : ℕ) → ((r : Reg) → IsRegister m r → r.number < b) → t.free ≤ b
  pub lost : AreLost m t.lost.rows.items
  pub wanted : AreWanted m t.wanted.rows.items
