-- What the table of labels has.
use Rattle.std.specs.Prelude.{◌≡◌, ℕ}
use Rattle.lin_ir.specs.Meaning.{after_label}
use Rattle.lin_ir.specs.declared.lin.Lin.{Lin}
use Rattle.lin_laws.specs.Graph.{line_index}
use Rattle.mach_ir.specs.Labels as table
use Rattle.lin_flow.specs.declared.labels.LineLabels.{LineLabels}

-- the place of a label
abbrev pub line_of_label : LineLabels → ℕ → ℕ
line_of_label labels l = table.place_of_label labels.places l

-- it has the place after each label of the function
pub record AreLabelsOf (m : Lin) (labels : LineLabels) : Type 0 where
  pub each : (l : ℕ) → line_of_label labels l ≡ line_index m (after_label l m.code)
