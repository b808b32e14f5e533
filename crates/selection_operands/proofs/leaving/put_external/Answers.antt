use Rattle.std.proofs.Common.{length, ap, ◌∙◌, arith}
use Rattle.selection_operands.proofs.Rooms.{length-regs}
use Rattle.selection_operands.proofs.leaving.put_external.Goals as goal

pub seats-requires : goal.seats-requires
seats-requires c =
    let count = ap length c.in_ok-regs.ensures ∙ length-regs c.args.scope.now.names c.args.numbers.row c.args.arguments.now in
    omega (arith, count, c.requires.seats)
