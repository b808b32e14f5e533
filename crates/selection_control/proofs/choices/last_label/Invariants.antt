use Rattle.std.proofs.Common.{◌≡◌, ◌+◌, length}
use Rattle.cmm_tree.specs.Rows.{cases_of}
use Rattle.selection_rules.specs.Select.{label_of_last_case}
use Rattle.selection_control.proofs.choices.last_label.Given as goal

abbrev pub invariant-loop-rest : goal.invariant-loop-rest
invariant-loop-rest l =
    record {
      label : label_of_last_case l.label (cases_of l.rest) l.number l.found ≡ label_of_last_case l.fn.first (cases_of l.fn.cases) l.number l.fn.so_far;
      room : l.label + length l.rest ≡ l.fn.first + length l.fn.cases;
    }

abbrev pub decreases-loop-rest : goal.decreases-loop-rest
decreases-loop-rest l = length l.rest
