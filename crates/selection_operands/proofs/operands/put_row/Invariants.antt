use Rattle.std.proofs.Common.{◌≡◌, ◌+◌, ◌<◌, ◌≤◌, length}
use Rattle.cmm_tree.specs.Rows.{expressions_of}
use Rattle.cmm_types.specs.Lists.{AreAnnotated}
use Rattle.selection_scope.specs.Room.{indexes_in_row, most_numbers}
use Rattle.selection_scope.specs.Scoping.{scoped_names}
use Rattle.selection_rules.specs.Select.{width_row}
use Rattle.selection_operands.specs.Operands.{row_code}
use Rattle.selection_operands.proofs.operands.put_row.Given as goal

abbrev pub invariant-loop-rest : goal.invariant-loop-rest
invariant-loop-rest g l =
    record {
      code : row_code l.fn.timing l.initial.scope l.reg l.base (expressions_of l.rest) l.code ≡ row_code l.fn.timing l.initial.scope l.fn.number l.fn.first (expressions_of l.fn.exprs) l.initial.code;
      scope : l.scope ≡ l.initial.scope;
      reg : l.reg + length l.rest ≡ l.fn.number + length l.fn.exprs;
      begins : l.fn.first ≤ l.base;
      room : l.base + (width_row (expressions_of l.rest) + indexes_in_row (expressions_of l.rest)) < most_numbers + length l.rest;
      typed : AreAnnotated (scoped_names l.scope) l.rest;
    }

abbrev pub decreases-loop-rest : goal.decreases-loop-rest
decreases-loop-rest g l = length l.rest
