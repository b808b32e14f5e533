use Rattle.std.proofs.Common.{◌≡◌, ◌++◌, take}
use Rattle.std.specs.List.{flat_map}
use Rattle.cmm_walks.specs.Seeds.{binding_seeds}
use Rattle.cmm_walks.proofs.seeds.add_bindings.Given as goal

abbrev pub invariant-loop-place : goal.invariant-loop-place
invariant-loop-place l =
    l.seeds.items ≡ l.initial.seeds.items ++ flat_map (binding_seeds l.goal l.labels.of.items l.nodes l.slot) (take l.place-index l.places)
