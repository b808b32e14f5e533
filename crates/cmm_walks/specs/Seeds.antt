-- The seeds of a search for an address.
use Rattle.std.specs.Prelude.{ℕ, ◌==◌, ◌&&◌, cond, nat_le, nat_lt, List, filter_map, Option, Some, None}
use Rattle.cmm_walks.specs.Labels.{known_label}
use Rattle.walk_tables.specs.Table.{step_at, next_at}
use Rattle.cmm_walks.specs.declared.labels.Seed.{Seed}
use Rattle.cmm_walks.specs.declared.limits.Part.TheVariants as part
use Rattle.cmm_walks.specs.declared.limits.Part.{Part}
use Rattle.cmm_walks.specs.declared.seeds.Goal.{Goal}
use Rattle.walk_tables.specs.declared.node.Step.{Step}
use Rattle.walk_tables.specs.declared.node.Step.TheVariants as step
use Rattle.walk_tables.specs.declared.node.Node as node

-- the label, if the place is within the limit
abbrev pub within : ℕ → ℕ → ℕ → Option ℕ
within limit at label = cond (nat_le at limit) (Some label) None

-- the labels of a use, a frame point and a binding at this place: the place itself of the part that is searched
-- for, 0 of the others
abbrev pub used_by : Part → ℕ → ℕ → Option ℕ
used_by part.Used limit at = within limit at at
used_by part.Point limit at = within limit at 0
used_by part.Bound limit at = within limit at 0

abbrev pub point_by : Part → ℕ → ℕ → Option ℕ
point_by part.Used limit at = within limit at 0
point_by part.Point limit at = within limit at at
point_by part.Bound limit at = within limit at 0

abbrev pub bound_by : Part → ℕ → ℕ → Option ℕ
bound_by part.Used limit at = within limit at 0
bound_by part.Point limit at = within limit at 0
bound_by part.Bound limit at = within limit at at

abbrev pub used_label : Goal → ℕ → Option ℕ
used_label goal at = used_by goal.part goal.limits.used at

abbrev pub point_label : Goal → ℕ → Option ℕ
point_label goal at = point_by goal.part goal.limits.point at

abbrev pub bound_label : Goal → ℕ → Option ℕ
bound_label goal at = bound_by goal.part goal.limits.bound at

-- the greater of two labels, if there are two
abbrev pub later : Option ℕ → Option ℕ → Option ℕ
later None other = None
later (Some one) None = None
later (Some one) (Some other) = Some (cond (nat_lt one other) other one)

abbrev pub seed_with : ℕ → Option ℕ → Option Seed
seed_with place None = None
seed_with place (Some label) = Some (record { label = label; place = place })

abbrev pub use_seed : Goal → ℕ → ℕ → Step → Option Seed
use_seed goal slot place step.Quiet = None
use_seed goal slot place (step.Binds own address at) = None
use_seed goal slot place (step.Uses own at) =
    cond (own == slot) (seed_with place (used_label goal at)) None
use_seed goal slot place (step.Passes at) = None

-- from the label of the frame point itself
abbrev pub point_seed : Goal → List ℕ → ℕ → Step → Option Seed
point_seed goal labels place step.Quiet = None
point_seed goal labels place (step.Binds own address at) = None
point_seed goal labels place (step.Uses own at) = None
point_seed goal labels place (step.Passes at) =
    seed_with place (later (known_label labels place) (point_label goal at))

-- from the label of a node after it
abbrev pub binding_seed : Goal → List ℕ → ℕ → ℕ → Step → ℕ → Option Seed
binding_seed goal labels slot place step.Quiet next = None
binding_seed goal labels slot place (step.Binds own address at) next =
    cond (address && own == slot)
    (seed_with place (later (known_label labels next) (bound_label goal at))) None
binding_seed goal labels slot place (step.Uses own at) next = None
binding_seed goal labels slot place (step.Passes at) next = None

abbrev pub binding_seeds : Goal → List ℕ → List node.Node → ℕ → ℕ → List Seed
binding_seeds goal labels nodes slot place =
    filter_map (λ (n : ℕ). binding_seed goal labels slot place (step_at nodes place) n)
    (next_at nodes place)
