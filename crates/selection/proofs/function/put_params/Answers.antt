use Rattle.std.proofs.Common.{length, ap, ◌∙◌, arith}
use Rattle.std.proofs.lemmas.List.{length-map}
use Rattle.cmm_tree.specs.View.{param_view, params_view}
use Rattle.selection_control.proofs.Rooms.{length-params}
use Rattle.selection.proofs.function.put_params.Goals as goal

pub seats-requires : goal.seats-requires
seats-requires c =
    let params = c.args.params.now in
    let count = ap length c.in_ok-own.ensures ∙ length-params c.args.moved (params_view params) ∙ length-map params param_view in
    omega (arith, count, c.requires.after, c.requires.room)
