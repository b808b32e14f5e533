use Rattle.std.proofs.Common.{◌≡◌, ◌++◌, ◌+◌, drop, length}
use Rattle.split_rules.specs.Order.{code_writes, writes_of}
use Rattle.split.proofs.writes.all_writes.Given as goal

abbrev pub invariant-loop-instr : goal.invariant-loop-instr
invariant-loop-instr l =
    record {
      left : l.left + l.instr-index ≡ length l.mach.code;
      writes : l.writes.items ++ code_writes (drop l.instr-index l.mach.code) ≡ writes_of l.mach;
    }
