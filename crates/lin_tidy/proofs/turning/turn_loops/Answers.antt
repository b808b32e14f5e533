use Rattle.std.proofs.Common.{List, ap, ◌∙◌}
use Rattle.lin_ir.specs.Formed.{labels_in}
use Rattle.lin_ir.specs.declared.lin.Line.{Line}
use Rattle.linearise_rules.specs.Lowered.{limit_above}
use Rattle.lin_tidy.proofs.Loops.{all_changed, change_room}
use Rattle.lin_tidy.proofs.turning.turn_loops.Goals as goal

pub change-requires : goal.change-requires
change-requires c =
    change_room c.args.lin c.first_free-free.result c.in_ok-changes.changes
    (c.first_free-free.ensures ∙ ap (λ (xs : List Line). limit_above (labels_in xs)) c.as_slice.ensures) c.in_ok-changes.ensures c.requires

pub returns : goal.returns
returns c =
    all_changed c.args.lin c.first_free-free.result c.in_ok-changes.changes c.in_ok-code.code
    (c.first_free-free.ensures ∙ ap (λ (xs : List Line). limit_above (labels_in xs)) c.as_slice.ensures) c.in_ok-changes.ensures c.in_ok-code.ensures
