use Rattle.std.proofs.Common.{◌≡◌, ◌+◌, drop}
use Rattle.mach_ir.specs.Sizes.{operand_count}
use Rattle.mach_tests.specs.Room.{most}
use Rattle.mach_tests.proofs.room.has_few_operands.Given as goal

abbrev pub invariant-loop-instr : goal.invariant-loop-instr
invariant-loop-instr l = operand_count l.code + l.left ≡ most + operand_count (drop l.instr-index l.code)
