use Rattle.std.proofs.Common.{List, ap, ◌∙◌, arith}
use Rattle.std.proofs.lemmas.Bool.{leb-true}
use Rattle.lin_ir.specs.Formed.{labels_in}
use Rattle.lin_ir.specs.declared.lin.Line.{Line}
use Rattle.linearise_rules.specs.Lowered.{limit_above}
use Rattle.lin_tidy.proofs.Sizes.{room_by}
use Rattle.lin_tidy.proofs.room.has_room.Goals as goal

pub returns : goal.returns
returns c = λ yes.
    let m = c.args.lin.now in
    let slots = leb-true m.slots 4294967263 yes in
    room_by m c.first_free-free.result c.len-lines.result
    (c.first_free-free.ensures ∙ ap (λ (xs : List Line). limit_above (labels_in xs)) c.as_slice.ensures) c.len-lines.ensures
    (omega (arith, c.if-lines-ge-LINES.false)) (omega (arith, c.if-free-lines.false)) (omega (arith, slots))
