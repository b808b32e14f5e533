-- The registers that code reads, by their numbers.
use Rattle.std.specs.Prelude.{cond, nat_lt, List, [], ◌∷◌, Option, Some, length, slice_set}
use Rattle.mach_ir.specs.declared.reg.Reg.{Reg}
use Rattle.mach_ir.specs.declared.mach.Instr.{Instr}

-- each at its number, if the table has it
abbrev pub registers_entered : List Reg → List (Option Reg) → List (Option Reg)
registers_entered [] t = t
registers_entered (r ∷ rs) t =
    registers_entered rs (cond (nat_lt r.number (length t)) (slice_set t r.number (Some r)) t)

abbrev pub entered_code : List Instr → List (Option Reg) → List (Option Reg)
entered_code [] t = t
entered_code (i ∷ is) t = entered_code is (registers_entered i.args t)
