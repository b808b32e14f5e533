use Rattle.std.proofs.Common.{◌≡◌, ◌≤◌, ℕ, length, drop}
use Rattle.mach_ir.specs.Meaning.{after_label, from_handler}
use Rattle.mach_laws.specs.Graph.{code_index}
use Rattle.liveness.specs.Labels.{instruction_of_label, handler_in}
use Rattle.liveness.proofs.labels.InstructionLabels.of_function.Given as goal

abbrev pub invariant-loop-place : goal.invariant-loop-place
invariant-loop-place l =
    (l.place ≤ length l.mach.code)
    × ((x : ℕ) → instruction_of_label l.labels x ≡ code_index l.mach (after_label x (drop l.place l.mach.code)))
    × ((x : ℕ) → handler_in l.labels x ≡ code_index l.mach (from_handler x (drop l.place l.mach.code)))

abbrev pub decreases-loop-place : goal.decreases-loop-place
decreases-loop-place l = l.place
