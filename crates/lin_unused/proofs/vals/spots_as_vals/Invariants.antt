use Rattle.std.proofs.Common.{◌≡◌, ◌++◌, map, drop}
use Rattle.lin_tidy_rules.specs.Vals.{as_val}
use Rattle.lin_unused.proofs.vals.spots_as_vals.Given as goal

abbrev pub invariant-loop-spot : goal.invariant-loop-spot
invariant-loop-spot l = l.made.items ++ map as_val (drop l.spot-index l.spots) ≡ map as_val l.spots
