use Rattle.std.proofs.Common.{◌≡◌, ◌+◌, length}
use Rattle.cmm_tree.specs.Rows.{bindings_of}
use Rattle.cmm_types.specs.Lists.{AreBindingsAnnotated}
use Rattle.selection_scope.specs.Scoping.{scoped_names}
use Rattle.selection_rules.specs.Select.{env_after, width_bound}
use Rattle.selection_control.proofs.scoping.bind_all.Given as goal

abbrev pub invariant-loop-rest : goal.invariant-loop-rest
invariant-loop-rest l =
    record {
      names : env_after l.scope.names l.next (bindings_of l.rest) ≡ env_after l.initial.scope.names l.fn.number (bindings_of l.fn.bindings);
      labels : l.scope.labels ≡ l.initial.scope.labels;
      room : l.next + width_bound (bindings_of l.rest) ≡ l.fn.number + width_bound (bindings_of l.fn.bindings);
      typed : AreBindingsAnnotated (scoped_names l.scope) l.rest;
    }

abbrev pub decreases-loop-rest : goal.decreases-loop-rest
decreases-loop-rest l = length l.rest
