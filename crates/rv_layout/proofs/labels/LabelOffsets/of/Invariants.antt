use Rattle.std.proofs.Common.{◌≡◌, ℕ, ◌*◌, ◌≤◌, length, drop}
use Rattle.rv_layout_rules.specs.Forms.{label_from}
use Rattle.rv_layout.specs.Tables.{word_of_label, first_of_two, LabelsBelow}
use Rattle.rv_layout.proofs.labels.LabelOffsets.of.Given as goal

abbrev pub invariant-loop-index : goal.invariant-loop-index
invariant-loop-index l = record {
  bound : length l.places.items ≡ l.bound;
  most : l.at ≤ 3 * l.index;
  below : LabelsBelow l.bound (drop l.index l.code);
  each : (label : ℕ) → first_of_two (word_of_label l.places.items label) (label_from label l.at (drop l.index l.code) (drop l.index l.forms)) ≡ label_from label 0 l.code l.forms;
}
