use Rattle.std.proofs.Common.{ℕ, ◌≤◌, drop}
use Rattle.rv_layout.specs.Tables.{LabelsBelow}
use Rattle.rv_layout.proofs.labels.label_bound.Given as goal

abbrev pub invariant-loop-piece : goal.invariant-loop-piece
invariant-loop-piece l = (c : ℕ) → l.bound ≤ c → LabelsBelow c (drop l.piece-index l.code) → LabelsBelow c l.code
