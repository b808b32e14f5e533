use Rattle.schedule.proofs.Highest.{IsRaised}
use Rattle.schedule.proofs.heights.Heights.raise_all.Given as goal

abbrev pub invariant-loop-spot : goal.invariant-loop-spot
invariant-loop-spot l = IsRaised l.spots l.spot-index l.height l.initial.self l.self
