-- The heights and the order of the run of four lines, by computing.
use Rattle.std.proofs.Common.{◌≡◌, [], ◌∷◌, map, refl}
use Rattle.schedule_rules.specs.Example.{example_load, example_add, example_run}
use Rattle.schedule_rules.specs.Orders.{scheduled_run}
use Rattle.schedule_rules.specs.Straight.{Ranked, ranked}

pub heights : map (λ (r : Ranked). r.height) (ranked example_run) ≡ 3 ∷ 1 ∷ 3 ∷ 1 ∷ []
heights = refl

pub order : scheduled_run example_run ≡ example_load 10 0 ∷ example_load 13 8 ∷ example_add 12 10 1 ∷ example_add 14 13 2 ∷ []
order = refl
