use Rattle.std.proofs.Common.{◌≡◌, ◌+◌, ◌<◌, length}
use Rattle.cmm_tree.specs.Rows.{cases_of}
use Rattle.cmm_types.specs.Lists.{AreCasesAnnotated}
use Rattle.selection_scope.specs.Room.{indexes_in_cases, most_numbers}
use Rattle.selection_scope.specs.Scoping.{scoped_names}
use Rattle.selection_rules.specs.Select.{select_cases, width_cases}
use Rattle.selection_control.proofs.choices.case_bodies.Given as goal

abbrev pub invariant-loop-last : goal.invariant-loop-last
invariant-loop-last g l =
    record {
      code : select_cases l.initial.scope.names l.initial.scope.labels l.place.valued l.place.tail l.place.dest l.choices.all.now l.choices.end l.choices.first l.place.base (cases_of l.rest) l.code
          ≡ select_cases l.initial.scope.names l.initial.scope.labels l.place.valued l.place.tail l.place.dest l.choices.all.now l.choices.end l.choices.first l.place.base (cases_of l.fn.choices.cases.now) l.initial.code;
      scope : l.scope ≡ l.initial.scope;
      typed : AreCasesAnnotated (scoped_names l.scope) l.rest;
      label : l.label ≡ l.choices.first + length l.rest;
      room : l.place.base + (width_cases (cases_of l.rest) + indexes_in_cases (cases_of l.rest)) < most_numbers;
      base : l.base ≡ l.place.base + width_cases (cases_of l.rest);
    }

abbrev pub decreases-loop-last : goal.decreases-loop-last
decreases-loop-last g l = length l.rest
