-- The code with its stores and reloads, by the tables.
use Rattle.std.specs.Prelude.{ℕ, suc, ◌+◌, ◌-◌, ◌<◌, All, Bool, cond, ◌&&◌, List, [], ◌∷◌, ◌++◌}
use Rattle.bs_bits.specs.Set.{has}
use Rattle.bs_words.specs.declared.types.Loc.TheVariants as loc
use Rattle.dataflow.specs.Rows.{set_in_row}
use Rattle.mach_ir.specs.Sizes.{number_limit}
use Rattle.mach_ir.specs.Walks.{InCode}
use Rattle.mach_ir.specs.declared.op.CopyKind.TheVariants as copy
use Rattle.mach_ir.specs.declared.reg.Reg.{Reg}
use Rattle.mach_ir.specs.declared.mach.Instr.{Instr}
use Rattle.mach_laws.specs.Expand.{expand}
use Rattle.spill_rules.specs.Spilled.{copy_instruction}
use Rattle.spill.specs.declared.tables.Tables.{Tables}
use Rattle.mach_ir.specs.Places.{is_unset_location}

-- the slot's register
abbrev pub slot_register : ℕ → Reg → Reg
slot_register free r = record r { number = free + r.number; loc = loc.Slot r.origin }

-- there are numbers for the slots of these registers
abbrev pub HaveSlots : ℕ → List Reg → Type 0
HaveSlots free rs = All (λ (r : Reg). free + r.number < number_limit) rs

-- and of those of a code
abbrev pub CodeHasSlots : ℕ → List Instr → Type 0
CodeHasSlots free code = (r : Reg) → InCode r code → free + r.number < number_limit

abbrev pub is_reloaded : Tables → ℕ → Reg → Bool
is_reloaded t p r = is_unset_location r.loc && has (set_in_row t.lost.rows.items p) r.number

-- the reloads of these operands at a place
abbrev pub reloads_at : Tables → ℕ → List Reg → List Instr
reloads_at t p [] = []
reloads_at t p (r ∷ rs) =
    cond (is_reloaded t p r) (copy_instruction copy.Reload (slot_register t.free r) r ∷ reloads_at t p rs)
    (reloads_at t p rs)

-- the stores of these results before a place
abbrev pub spills_at : Tables → ℕ → List Reg → List Instr
spills_at t p [] = []
spills_at t p (r ∷ rs) =
    cond (has (set_in_row t.wanted.rows.items p) r.number)
    (copy_instruction copy.Spill r (slot_register t.free r) ∷ spills_at t p rs) (spills_at t p rs)

-- the instruction at a place
abbrev pub instr_with_copies : Tables → ℕ → Instr → List Instr
instr_with_copies t p i = reloads_at t p i.args ++ i ∷ spills_at t (suc p) i.results

-- the code of so many instructions
abbrev pub spilled_code : Tables → ℕ → List Instr → List Instr
spilled_code t end code = expand (λ k i. instr_with_copies t (end - 1 - k) i) code
