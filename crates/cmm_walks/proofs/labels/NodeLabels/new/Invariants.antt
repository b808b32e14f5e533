use Rattle.std.proofs.Common.{◌≡◌, ℕ, length}
use Rattle.cmm_walks.specs.Labels.{unlabelled, label_at}
use Rattle.cmm_walks.proofs.labels.NodeLabels.new.Given as goal

abbrev pub invariant-loop-node : goal.invariant-loop-node
invariant-loop-node l = record { len : length l.of.items ≡ l._node; none : (p : ℕ) → label_at l.of.items p ≡ unlabelled }
