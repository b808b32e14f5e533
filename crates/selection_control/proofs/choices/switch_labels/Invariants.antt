use Rattle.std.proofs.Common.{◌≡◌, ◌-◌, ◌++◌}
use Rattle.cmm_tree.specs.Rows.{cases_of}
use Rattle.selection_rules.specs.Select.{switch_labels}
use Rattle.selection_control.proofs.choices.switch_labels.Given as goal

abbrev pub invariant-loop-number : goal.invariant-loop-number
invariant-loop-number l =
    l.labels.items ++ switch_labels l.first (cases_of l.cases) l.number (l.size - l.number) ≡ switch_labels l.first (cases_of l.cases) 0 l.size
