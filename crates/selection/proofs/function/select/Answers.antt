use Rattle.std.proofs.Common.{◌≡◌, Some, rules}
use Rattle.std.specs.Prelude.{slice_get}
use Rattle.std.proofs.lemmas.List.Elements.{All-contains}
use Rattle.std.proofs.lemmas.Option.{slice_get_within, get_or_from_slice_get}
use Rattle.cmm_tree.specs.Tree.{functions}
use Rattle.cmm_tree.specs.View.{file_view, function_view}
use Rattle.selection_scope.specs.Room.{IsSelectable}
use Rattle.selection.proofs.function.select.Goals as goal

pub select_function-requires-clause-room : goal.select_function-requires-clause-room
select_function-requires-clause-room c =
    let fs = functions (file_view c.args.checked.now) in
    let k = c.args.function in
    let f = function_view c.in-Some.function.now in
    let e : slice_get fs k ≡ Some f = search rules in
    All-contains IsSelectable fs f c.requires.room (k, slice_get_within fs k f e, get_or_from_slice_get fs k f f e)
