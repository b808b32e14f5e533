use Rattle.std.proofs.Common.{◌≡◌, ℕ, take}
use Rattle.std.specs.List.{filter_map}
use Rattle.walk_tables.specs.Table.{step_at}
use Rattle.cmm_walks.specs.Seeds.{point_seed}
use Rattle.cmm_walks.proofs.seeds.point_seeds.Given as goal

abbrev pub invariant-loop-place : goal.invariant-loop-place
invariant-loop-place l =
    l.seeds.items
    ≡ filter_map (λ (p : ℕ). point_seed l.goal l.labels.of.items p (step_at l.nodes p)) (take l.place-index l.labels.queue.items)
