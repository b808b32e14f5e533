use Rattle.std.proofs.Common.{◌≡◌, ◌+◌, ◌++◌, length}
use Rattle.cmm_tree.specs.View.{params_view}
use Rattle.selection_rules.specs.Select.{params_from}
use Rattle.selection_scope.proofs.scope.params_from.Given as goal

abbrev pub invariant-loop-rest : goal.invariant-loop-rest
invariant-loop-rest l =
    record {
      regs : l.regs ++ params_from l.next (params_view l.rest) ≡ params_from l.fn.number (params_view l.fn.params);
      room : l.next + length l.rest ≡ l.fn.number + length l.fn.params;
    }

abbrev pub decreases-loop-rest : goal.decreases-loop-rest
decreases-loop-rest l = length l.rest
