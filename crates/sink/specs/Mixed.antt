-- The numbers that code reads where they are both fresh and stale.
use Rattle.std.specs.Prelude.{ℕ, suc, Bool, true, cond, ◌&&◌, nat_lt, List, [], ◌∷◌, length, slice_set}
use Rattle.bs_bits.specs.Set.{has}
use Rattle.dataflow.specs.Rows.{set_in_row}
use Rattle.mach_ir.specs.declared.reg.Reg.{Reg}
use Rattle.mach_ir.specs.declared.mach.Instr.{Instr}

abbrev pub is_mixed : List Bool → List Bool → ℕ → Bool
is_mixed fresh stale n = has fresh n && has stale n

-- those of these registers that are both, if the set has room for them
abbrev pub noted_reads : List Bool → List Bool → List Reg → List Bool → List Bool
noted_reads fresh stale [] set = set
noted_reads fresh stale (r ∷ rs) set =
    noted_reads fresh stale rs
    (cond (nat_lt r.number (length set) && is_mixed fresh stale r.number)
    (slice_set set r.number true) set)

-- those that code reads, from this place on
abbrev pub noted_code : List (List Bool) → List (List Bool) → ℕ → List Instr → List Bool →
    List Bool
noted_code fresh stale p [] set = set
noted_code fresh stale p (i ∷ is) set =
    noted_code fresh stale (suc p) is (noted_reads (set_in_row fresh p) (set_in_row stale p) i.args set)
