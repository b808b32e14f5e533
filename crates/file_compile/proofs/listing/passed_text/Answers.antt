use Rattle.std.proofs.lemmas.Result.{IfOk-weaker}
use Rattle.cmm_tree.specs.View.{function_view}
use Rattle.file_compile.proofs.Passing.{can_be_selected, preparable, room, of_selected_text}
use Rattle.file_compile.proofs.listing.passed_text.Goals as goal

pub select_function-requires-clause-room : goal.select_function-requires-clause-room
select_function-requires-clause-room c = can_be_selected (function_view c.args.function.now) c.requires.accepted

pub passed_to-requires-clause-preparable : goal.passed_to-requires-clause-preparable
passed_to-requires-clause-preparable c = preparable (function_view c.args.function.now) c.requires.accepted c.in_ok-mach.mach c.in_ok-mach.ensures

pub passed_to-requires-clause-room : goal.passed_to-requires-clause-room
passed_to-requires-clause-room c = room (function_view c.args.function.now) c.requires.accepted c.in_ok-mach.mach c.in_ok-mach.ensures

pub returns : goal.returns
returns c =
    IfOk-weaker c.text.result _ _
    (λ text spelled. of_selected_text c.args.stage (function_view c.args.function.now) _ _ _ c.in_ok-mach.ensures c.in_ok-passed.ensures spelled)
    c.text.ensures
