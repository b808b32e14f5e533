use Rattle.std.proofs.Common.{◌≤◌, sym, ◌∙◌, subst}
use Rattle.mach_ir.specs.Sizes.{operand_count}
use Rattle.mach_tests.specs.Room.{most}
use Rattle.mach_tests.proofs.Tested.{has_wide_room}
use Rattle.mach_tests.proofs.room.has_room.Goals as goal
use Rattle.mach_tests.proofs.room.has_room.Goals.{then-is_short, else-is_short}

pub returns-then-has_low : goal.returns-then-has_low
returns-then-has_low c = λ e.
    let few = subst (λ code. operand_count code ≤ most) c.as_slice.ensures (c.has_few_operands.ensures e) in
    let yes = c.if-has_low.true in
    elim c.if-is_short.branch [
      | then-is_short w ↦ has_wide_room c.args.mach.now (c.is_short.ensures w.if-is_short.true) (w.has_low.ensures (sym w.value-is ∙ yes)) few
      | else-is_short w ↦ let no = w.value-is in absurd (cc)
    ]
