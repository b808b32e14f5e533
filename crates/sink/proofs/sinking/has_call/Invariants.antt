use Rattle.std.proofs.Common.{◌≡◌, drop}
use Rattle.sink.specs.Chosen.{has_call}
use Rattle.sink.proofs.sinking.has_call.Given as goal

abbrev pub invariant-loop-instr : goal.invariant-loop-instr
invariant-loop-instr l = has_call (drop l.instr-index l.code) ≡ has_call l.code
