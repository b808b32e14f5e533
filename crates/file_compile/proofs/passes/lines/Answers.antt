use Rattle.std.proofs.lemmas.Result.{IfOk-weaker}
use Rattle.cmm_tree.specs.View.{function_view}
use Rattle.file_compile.proofs.Passing.{allocated_placed, allocated_line_room}
use Rattle.file_compile.proofs.passes.lines.Goals as goal

pub linear-requires-clause-well_formed : goal.linear-requires-clause-well_formed
linear-requires-clause-well_formed c =
    (allocated_placed (function_view c.args.function.now) c.requires.accepted c.in_ok-placed.placed c.in_ok-placed.ensures).formed

pub linear-requires-clause-placed : goal.linear-requires-clause-placed
linear-requires-clause-placed c =
    (allocated_placed (function_view c.args.function.now) c.requires.accepted c.in_ok-placed.placed c.in_ok-placed.ensures).placed

pub linear-requires-clause-seated : goal.linear-requires-clause-seated
linear-requires-clause-seated c =
    (allocated_placed (function_view c.args.function.now) c.requires.accepted c.in_ok-placed.placed c.in_ok-placed.ensures).seated

pub linear-requires-clause-room : goal.linear-requires-clause-room
linear-requires-clause-room c = allocated_line_room (function_view c.args.function.now) c.requires.accepted c.in_ok-placed.placed c.in_ok-placed.ensures

pub returns : goal.returns
returns c =
    IfOk-weaker c.ordered.result _ _
    (λ m same.
    record {
      mach = c.in_ok-placed.placed;
      is_allocated = c.in_ok-placed.ensures;
      lines = c.in_ok-lines.lines;
      linear = c.in_ok-lines.ensures;
      ordered = same;
    })
    c.ordered.ensures
