use Rattle.std.proofs.Common.{◌≡◌, ℕ, ◌<◌, Some}
use Rattle.std.specs.Prelude.{slice_get}
use Rattle.mach_ir.specs.Meaning.{Everything, destroyed_by}
use Rattle.mach_ir.specs.declared.mach.Instr.{Instr}
use Rattle.hoist.proofs.calls.first_call.Given as goal

abbrev pub invariant-loop-place : goal.invariant-loop-place
invariant-loop-place l =
    (q : ℕ) (j : Instr) → q < l.place → slice_get l.code q ≡ Some j → destroyed_by j.op ≡ Everything → ⊥
