use Rattle.std.proofs.Common.{◌≡◌, ℕ, map, take}
use Rattle.mach_ir.specs.Acts.{At}
use Rattle.mach_ir.specs.Labels.{place_of_label, place_to}
use Rattle.mach_ir.proofs.places.LabelPlaces.places_of.Given as goal

abbrev pub invariant-loop-label : goal.invariant-loop-label
invariant-loop-label l = (p : ℕ) → l.places.items ≡ map (place_to (place_of_label l.self) p) (map At (take l.label-index l.among))
