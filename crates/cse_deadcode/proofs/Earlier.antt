-- What is taken from the earlier instruction of a time, which is counted from 1.
use Rattle.std.proofs.Common.{◌≡◌, ◌∙◌, ℕ, zero, suc, ◌-◌, List, Some, slice_get, refl, sym, ap, arith}
use Rattle.mach_ir.specs.declared.reg.Reg.{Reg}
use Rattle.mach_ir.specs.declared.mach.Instr.{Instr}
use Rattle.cse_deadcode.specs.Times.{Clock}
use Rattle.cse_deadcode.specs.Repeats.{standing_result, standing_found, standing_at}
use Rattle.cse_deadcode.specs.Copies.{source_by, source_found, source_at}

there : (made : List Instr) (n : ℕ) (i : Instr) → slice_get made (suc n - 1) ≡ Some i → Some i ≡ slice_get made n
there made n i e =
    let place : n ≡ suc n - 1 = omega arith in
    sym (ap (slice_get made) place ∙ e)

pub source_earlier : (at : Clock) (made : List Instr) (time : ℕ) (r : Reg) (i : Instr) → (time ≡ 0 → ⊥) →
    slice_get made (time - 1) ≡ Some i → source_by at time i r ≡ source_at at made time r
source_earlier at made zero r i some e = absurd (some refl)
source_earlier at made (suc n) r i some e = ap (λ o. source_found at (suc n) o r) (there made n i e)

pub standing_earlier : (at : Clock) (made : List Instr) (time : ℕ) (i : Instr) → (time ≡ 0 → ⊥) →
    slice_get made (time - 1) ≡ Some i → standing_result at time i ≡ standing_at at made time
standing_earlier at made zero i some e = absurd (some refl)
standing_earlier at made (suc n) i some e = ap (standing_found at (suc n)) (there made n i e)
