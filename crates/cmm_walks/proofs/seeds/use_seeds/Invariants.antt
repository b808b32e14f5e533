use Rattle.std.proofs.Common.{◌≡◌, ℕ, take}
use Rattle.std.specs.List.{filter_map}
use Rattle.walk_tables.specs.Table.{step_at}
use Rattle.cmm_walks.specs.Seeds.{use_seed}
use Rattle.cmm_walks.proofs.seeds.use_seeds.Given as goal

abbrev pub invariant-loop-place : goal.invariant-loop-place
invariant-loop-place l =
    l.seeds.items ≡ filter_map (λ (p : ℕ). use_seed l.goal l.slot p (step_at l.nodes p)) (take l.place-index l.places)
