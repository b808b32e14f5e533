-- What is read in place of operands, by when events happened last.
use Rattle.std.specs.Prelude.{ℕ, zero, suc, Bool, cond, ◌&&◌, nat_le, List, Option, Some, None, slice_get, map}
use Rattle.mach_ir.specs.Graph.{is_move}
use Rattle.mach_ir.specs.declared.reg.Reg.{Reg}
use Rattle.mach_ir.specs.declared.mach.Instr.{Instr}
use Rattle.cse_deadcode.specs.declared.events.Event.TheVariants as event
use Rattle.cse_deadcode.specs.Made.{Making}
use Rattle.cse_deadcode.specs.Repeats.{result_stands}
use Rattle.cse_deadcode.specs.Times.{Clock}
use Rattle.mach_ir.specs.Places.{is_unset_location, same_comp}

-- whether a register is still a copy of the source of the move of the time, which wrote it last
abbrev pub is_still_copy : Clock → ℕ → Reg → Reg → Bool
is_still_copy at time source r =
    same_comp source.comp r.comp
    && (is_unset_location source.loc && (is_unset_location r.loc
    && (nat_le (at event.EndsRun) time && result_stands at time source)))

abbrev pub source_first : Clock → ℕ → Option Reg → Reg → Reg
source_first at time None r = r
source_first at time (Some source) r = cond (is_still_copy at time source r) source r

-- what is read in place of a register that the instruction of the time wrote last
abbrev pub source_by : Clock → ℕ → Instr → Reg → Reg
source_by at time j r = cond (is_move j.op) (source_first at time (slice_get j.args 0) r) r

abbrev pub source_found : Clock → ℕ → Option Instr → Reg → Reg
source_found at time None r = r
source_found at time (Some j) r = source_by at time j r

abbrev pub source_at : Clock → List Instr → ℕ → Reg → Reg
source_at at made zero r = r
source_at at made (suc n) r = source_found at (suc n) (slice_get made n) r

-- what is read in place of a register after this code
abbrev pub source_of : Clock → List Instr → Reg → Reg
source_of at made r = source_at at made (at (event.Writes r.number)) r

-- an instruction that reads other registers in place of its operands
abbrev pub read_by : (Reg → Reg) → Instr → Instr
read_by read i = record i { args = map read i.args }

-- an instruction, its operands read from what they are copies of
abbrev pub read_from_sources : Making
read_from_sources at made i = read_by (source_of at made) i
