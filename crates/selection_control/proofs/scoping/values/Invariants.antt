use Rattle.std.proofs.Common.{◌≡◌, ◌+◌, ◌<◌, List, length, drop}
use Rattle.cmm_tree.specs.Rows.{bindings_of}
use Rattle.cmm_types.specs.Lists.{AreBindingsAnnotated}
use Rattle.selection_rules.specs.Select.{NamedRegister, scopes, select_bound, env_after, width_bound}
use Rattle.selection_scope.specs.Room.{indexes_in_bound, most_numbers}
use Rattle.selection_control.proofs.scoping.values.Given as goal

abbrev pub invariant-loop-last : goal.invariant-loop-last
invariant-loop-last g l =
    let outer : List NamedRegister = drop (length l.fn.bindings) l.initial.scope.names in
    record {
      code : select_bound outer l.initial.scope.labels l.fn.number (bindings_of l.rest) l.code ≡ select_bound outer l.initial.scope.labels l.fn.number (bindings_of l.fn.bindings) l.initial.code;
      names : l.scope.names ≡ env_after outer l.fn.number (bindings_of l.rest);
      labels : l.scope.labels ≡ l.initial.scope.labels;
      room : l.fn.number + (width_bound (bindings_of l.rest) + indexes_in_bound (bindings_of l.rest)) < most_numbers;
      typed : AreBindingsAnnotated (scopes outer) l.rest;
    }

abbrev pub decreases-loop-last : goal.decreases-loop-last
decreases-loop-last g l = length l.rest
