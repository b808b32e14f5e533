-- Straight runs: where one begins, and whether it writes a register.
use Rattle.std.specs.Prelude.{ℕ, zero, suc, Bool, true, false, cond, not, ◌||◌, nat_eq, List, [], ◌∷◌, Option, Some, None, slice_get}
use Rattle.mach_ir.specs.Placed.{is_straight}
use Rattle.mach_ir.specs.declared.reg.Reg.{Reg}
use Rattle.mach_ir.specs.declared.mach.Instr.{Instr}

abbrev pub some_straight : Option Instr → Bool
some_straight None = false
some_straight (Some i) = is_straight i.op

-- no straight instruction is right before the place
abbrev pub straight_run_begins : List Instr → ℕ → Bool
straight_run_begins code zero = true
straight_run_begins code (suc p) = not (some_straight (slice_get code p))

abbrev pub is_among_registers : ℕ → List Reg → Bool
is_among_registers n [] = false
is_among_registers n (r ∷ rs) = nat_eq r.number n || is_among_registers n rs

abbrev pub some_result : ℕ → Option Instr → Bool
some_result n None = false
some_result n (Some i) = is_among_registers n i.results

-- where the straight run to a place begins, if it does not write the number
abbrev pub run_start : List Instr → ℕ → ℕ → Option ℕ
run_start code n zero = Some zero
run_start code n (suc p) =
    cond (straight_run_begins code (suc p)) (Some (suc p))
    (cond (some_result n (slice_get code p)) None (run_start code n p))
