use Rattle.std.proofs.Common.{◌≡◌, max, drop}
use Rattle.schedule.specs.Heights.{greatest_at}
use Rattle.schedule.proofs.heights.Heights.greatest.Given as goal

abbrev pub invariant-loop-spot : goal.invariant-loop-spot
invariant-loop-spot l = max l.greatest (greatest_at l.self (drop l.spot-index l.spots)) ≡ greatest_at l.self l.spots
