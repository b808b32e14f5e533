use Rattle.std.proofs.Common.{◌≡◌, ◌++◌, map, take}
use Rattle.lin_ir.specs.declared.lin.Spot.{Spot}
use Rattle.lin_laws.specs.Numbers.{number_of_location}
use Rattle.lin_flow.proofs.lines.push_all.Given as goal

abbrev pub invariant-loop-spot : goal.invariant-loop-spot
invariant-loop-spot l =
    l.numbers.items ≡ l.initial.numbers.items ++ map (λ (s : Spot). number_of_location s.loc) (take l.spot-index l.spots)
