use Rattle.std.proofs.Common.{◌≡◌, ◌≤◌, ℕ, length, drop}
use Rattle.lin_ir.specs.Meaning.{after_label}
use Rattle.lin_laws.specs.Graph.{line_index}
use Rattle.lin_flow.specs.Labels.{line_of_label}
use Rattle.lin_flow.proofs.labels.LineLabels.of_function.Given as goal

abbrev pub invariant-loop-place : goal.invariant-loop-place
invariant-loop-place l =
    (l.place ≤ length l.lin.code)
    × ((x : ℕ) → line_of_label l.labels x ≡ line_index l.lin (after_label x (drop l.place l.lin.code)))

abbrev pub decreases-loop-place : goal.decreases-loop-place
decreases-loop-place l = l.place
