use Rattle.std.proofs.Common.{◌≡◌, ◌+◌, ◌<◌, length}
use Rattle.cmm_tree.specs.Rows.{handlers_of}
use Rattle.cmm_types.specs.Lists.{AreHandlersAnnotated}
use Rattle.selection_scope.specs.Room.{indexes_in_handlers, most_numbers}
use Rattle.selection_scope.specs.Scoping.{scoped_names}
use Rattle.selection_rules.specs.Select.{select_handlers, width_handlers, width_labels}
use Rattle.selection_control.proofs.scoping.handler_bodies.Given as goal

abbrev pub invariant-loop-last : goal.invariant-loop-last
invariant-loop-last g l =
    record {
      code : select_handlers l.initial.scope.names l.initial.scope.labels l.place.valued l.place.tail l.place.dest l.end l.fn.first l.place.base (handlers_of l.rest) l.code
          ≡ select_handlers l.initial.scope.names l.initial.scope.labels l.place.valued l.place.tail l.place.dest l.end l.fn.first l.place.base (handlers_of l.fn.handlers) l.initial.code;
      scope : l.scope ≡ l.initial.scope;
      typed : AreHandlersAnnotated (scoped_names l.scope) l.rest;
      label : l.label ≡ l.fn.first + width_labels (handlers_of l.rest);
      room : l.place.base + (width_handlers (handlers_of l.rest) + indexes_in_handlers (handlers_of l.rest)) < most_numbers;
      few : l.label < most_numbers;
      base : l.base ≡ l.place.base + width_handlers (handlers_of l.rest);
    }

abbrev pub decreases-loop-last : goal.decreases-loop-last
decreases-loop-last g l = length l.rest
