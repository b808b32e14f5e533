use Rattle.std.proofs.Common.{◌≡◌, ◌++◌, ℕ, take}
use Rattle.std.specs.List.{filter_map}
use Rattle.walk_tables.specs.Table.{step_at, next_at}
use Rattle.cmm_walks.specs.Seeds.{binding_seed}
use Rattle.cmm_walks.proofs.seeds.add_binding.Given as goal

abbrev pub invariant-loop-next : goal.invariant-loop-next
invariant-loop-next l =
    l.seeds.items
    ≡ l.initial.seeds.items
    ++ filter_map (λ (n : ℕ). binding_seed l.goal l.labels.of.items l.slot l.place (step_at l.nodes l.place) n) (take l.next-index (next_at l.nodes l.place))
