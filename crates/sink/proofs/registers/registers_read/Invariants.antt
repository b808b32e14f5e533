use Rattle.std.proofs.Common.{◌≡◌, drop}
use Rattle.sink.specs.Registers.{entered_code}
use Rattle.sink.proofs.registers.registers_read.Given as goal

abbrev pub invariant-loop-instr : goal.invariant-loop-instr
invariant-loop-instr l = entered_code (drop l.instr-index l.code) l.table.items ≡ entered_code l.code l.initial.table.items
