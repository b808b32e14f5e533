use Rattle.std.proofs.Common.{◌≡◌, drop}
use Rattle.cmm_tree.specs.View.{params_view}
use Rattle.cmm_types.specs.Types.{with_parameters}
use Rattle.cmm_types.proofs.checker.Checker.bind_params.Given as goal

abbrev pub invariant-loop-param : goal.invariant-loop-param
invariant-loop-param l =
    record {
      names : with_parameters (params_view (drop l.param-index l.params)) l.self.names ≡ with_parameters (params_view l.params) l.initial.self.names;
      labels : l.self.labels ≡ l.initial.self.labels;
      found : l.self.found ≡ l.initial.self.found;
    }
