use Rattle.cmm_tree.specs.View.{function_view}
use Rattle.file_compile.proofs.Passing.{can_be_selected, preparable, room, of_selected, prepared_has_room, prepared_formed, prepared_placed, prepared_low}
use Rattle.file_compile.proofs.passes.allocated.Goals as goal

pub select_function-requires-clause-room : goal.select_function-requires-clause-room
select_function-requires-clause-room c = can_be_selected (function_view c.args.function.now) c.requires.accepted

pub passed_to-requires-clause-preparable : goal.passed_to-requires-clause-preparable
passed_to-requires-clause-preparable c = preparable (function_view c.args.function.now) c.requires.accepted c.in_ok-mach.mach c.in_ok-mach.ensures

pub passed_to-requires-clause-room : goal.passed_to-requires-clause-room
passed_to-requires-clause-room c = room (function_view c.args.function.now) c.requires.accepted c.in_ok-mach.mach c.in_ok-mach.ensures

pub allocate_by-requires-clause-room : goal.allocate_by-requires-clause-room
allocate_by-requires-clause-room c =
    prepared_has_room (function_view c.args.function.now) c.requires.accepted c.in_ok-mach.mach c.in_ok-mach.ensures
    c.in_ok-prepared.prepared c.in_ok-prepared.ensures

pub allocate_by-requires-clause-formed : goal.allocate_by-requires-clause-formed
allocate_by-requires-clause-formed c =
    prepared_formed (function_view c.args.function.now) c.requires.accepted c.in_ok-mach.mach c.in_ok-mach.ensures
    c.in_ok-prepared.prepared c.in_ok-prepared.ensures

pub allocate_by-requires-clause-placed : goal.allocate_by-requires-clause-placed
allocate_by-requires-clause-placed c =
    prepared_placed (function_view c.args.function.now) c.requires.accepted c.in_ok-mach.mach c.in_ok-mach.ensures
    c.in_ok-prepared.prepared c.in_ok-prepared.ensures

pub allocate_by-requires-clause-low : goal.allocate_by-requires-clause-low
allocate_by-requires-clause-low c =
    prepared_low (function_view c.args.function.now) c.requires.accepted c.in_ok-mach.mach c.in_ok-mach.ensures
    c.in_ok-prepared.prepared c.in_ok-prepared.ensures

pub returns : goal.returns
returns c = record {
  prepared = c.in_ok-prepared.prepared;
  is_prepared =
      of_selected (function_view c.args.function.now) c.requires.accepted c.in_ok-mach.mach c.in_ok-mach.ensures c.in_ok-prepared.prepared
      c.in_ok-prepared.ensures;
  allocated = record {
    rounds = c.in_ok-placed.field-0.rounds;
    rest = c.in_ok-placed.field-0.rest;
    allocated = c.in_ok-placed.ensures;
  };
}
