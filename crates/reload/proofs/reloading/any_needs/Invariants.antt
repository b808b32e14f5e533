use Rattle.std.proofs.Common.{◌≡◌, drop}
use Rattle.reload_rules.specs.Reloaded.{any_needs}
use Rattle.reload.proofs.reloading.any_needs.Given as goal

abbrev pub invariant-loop-instr : goal.invariant-loop-instr
invariant-loop-instr l = any_needs (drop l.instr-index l.code) ≡ any_needs l.code
