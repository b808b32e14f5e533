use Rattle.std.proofs.Common.{◌≡◌, ◌++◌, drop}
use Rattle.linearise_rules.specs.Lowered.{slots_of_code, slots_of_function}
use Rattle.linearise.proofs.slots.gather.Given as goal

abbrev pub invariant-loop-instr : goal.invariant-loop-instr
invariant-loop-instr l = l.slots.items ++ slots_of_code (drop l.instr-index l.mach.code) ≡ slots_of_function l.mach
