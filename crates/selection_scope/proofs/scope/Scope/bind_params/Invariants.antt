use Rattle.std.proofs.Common.{◌≡◌, ◌+◌, length}
use Rattle.cmm_tree.specs.View.{params_view}
use Rattle.selection_rules.specs.Select.{with_params, params_from}
use Rattle.selection_scope.proofs.scope.Scope.bind_params.Given as goal

abbrev pub invariant-loop-rest : goal.invariant-loop-rest
invariant-loop-rest l =
    record {
      names : with_params (params_view l.rest) (params_from l.next (params_view l.rest)) l.self.names
          ≡ with_params (params_view l.fn.params) (params_from l.fn.number (params_view l.fn.params)) l.initial.self.names;
      labels : l.self.labels ≡ l.initial.self.labels;
      room : l.next + length l.rest ≡ l.fn.number + length l.fn.params;
    }

abbrev pub decreases-loop-rest : goal.decreases-loop-rest
decreases-loop-rest l = length l.rest
