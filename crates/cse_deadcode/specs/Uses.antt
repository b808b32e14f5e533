-- Which registers are used in a function, as a table, and which instructions go by it.
use Rattle.std.specs.Prelude.{◌≡◌, ◌↔◌, ℕ, suc, ◌-◌, Bool, true, false, not, ◌&&◌, List, [], ◌∷◌, Option, Some, None, drop, length, slice_get}
use Rattle.std.specs.List.{list_any}
use Rattle.bs_bits.specs.Set.{has}
use Rattle.dataflow.specs.Rows.{set_in_row}
use Rattle.mach_ir.specs.declared.reg.Reg.{Reg}
use Rattle.mach_ir.specs.declared.mach.Instr.{Instr}
use Rattle.mach_ir.specs.declared.mach.Mach.{Mach}
use Rattle.deadcode_rules.specs.Dropped.{may_go, IsUsed}

abbrev pub goes_of : Option Instr → Bool
goes_of None = false
goes_of (Some i) = may_go i.op

-- whether the instruction at a place may go
abbrev pub goes_at : List Instr → ℕ → Bool
goes_at code p = goes_of (slice_get code p)

-- before each instruction, and after the last, exactly the registers that are used from there on
pub record AreUses (m : Mach) (rows : List (List Bool)) : Type 0 where
  pub exact : (p n : ℕ) → (has (set_in_row rows p) n ≡ true) ↔ IsUsed m n (drop p m.code)

-- whether one of these registers is used at a place
abbrev pub is_one_used : List (List Bool) → ℕ → List Reg → Bool
is_one_used rows p regs = list_any (λ r. has (set_in_row rows p) r.number) regs

-- whether an instruction goes, where the place after it is this
abbrev pub is_dead_instruction : List (List Bool) → ℕ → Instr → Bool
is_dead_instruction rows after i = may_go i.op && not (is_one_used rows after i.results)

abbrev pub is_first_dead : List (List Bool) → ℕ → List Instr → Bool
is_first_dead rows after [] = false
is_first_dead rows after (i ∷ next) = is_dead_instruction rows after i

-- whether the instruction goes that so many come after
abbrev pub drops_by : List (List Bool) → List Instr → ℕ → Bool
drops_by rows code k =
    is_first_dead rows (length code - k) (drop (length code - suc k) code)
