use Rattle.std.proofs.Common.{◌≡◌, drop, max}
use Rattle.linearise_rules.specs.Lowered.{limit_above}
use Rattle.linearise.proofs.slots.limit.Given as goal

abbrev pub invariant-loop-slot : goal.invariant-loop-slot
invariant-loop-slot l = max l.limit (limit_above (drop l.slot-index l.slots)) ≡ limit_above l.slots
