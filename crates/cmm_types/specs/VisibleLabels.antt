-- The visible labels that the entries of a stack stand for.
use Rattle.cmm_tree.specs.View.{label_view}
use Rattle.cmm_types.specs.Standing.{Visible}
use Rattle.cmm_types.specs.declared.labels.VisibleLabel.{VisibleLabel}

abbrev pub visible_view : VisibleLabel → Visible
visible_view v = record { label = label_view v.label; parameters = v.parameters }
