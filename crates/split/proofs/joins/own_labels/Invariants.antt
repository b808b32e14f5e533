use Rattle.std.proofs.Common.{◌≡◌, ◌<◌, ℕ, length}
use Rattle.std.specs.Prelude.{slice_index}
use Rattle.split.proofs.joins.own_labels.Given as goal

abbrev pub invariant-loop-label : goal.invariant-loop-label
invariant-loop-label l =
    record { len : length l.labels.items ≡ l.label; own : (w : ℕ) → w < l.label → slice_index l.labels.items w ≡ w }
