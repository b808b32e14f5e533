use Rattle.std.proofs.Common.{◌≡◌, ◌+◌, ◌<◌, length}
use Rattle.cmm_tree.specs.Rows.{expressions_of}
use Rattle.cmm_types.specs.Lists.{AreAnnotated}
use Rattle.selection_scope.specs.Room.{indexes_in_row, most_numbers}
use Rattle.selection_scope.specs.Scoping.{scoped_names}
use Rattle.selection_rules.specs.Select.{width_row}
use Rattle.selection_control.specs.Rows.{select_dropped}
use Rattle.selection_control.proofs.choices.dropped.Given as goal

abbrev pub invariant-loop-last : goal.invariant-loop-last
invariant-loop-last g l =
    record {
      code : select_dropped l.initial.scope.names l.initial.scope.labels l.fn.number (expressions_of l.rest) l.code ≡ select_dropped l.initial.scope.names l.initial.scope.labels l.fn.number (expressions_of l.fn.exprs) l.initial.code;
      scope : l.scope ≡ l.initial.scope;
      typed : AreAnnotated (scoped_names l.scope) l.rest;
      room : l.fn.number + (width_row (expressions_of l.rest) + indexes_in_row (expressions_of l.rest)) < most_numbers;
      end : l.end ≡ l.fn.number + width_row (expressions_of l.rest);
    }

abbrev pub decreases-loop-last : goal.decreases-loop-last
decreases-loop-last g l = length l.rest
