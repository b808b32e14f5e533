-- The first of the addresses that are live at frame points.
use Rattle.std.specs.Prelude.{◌≡◌, ℕ, ◌<◌, ◌≤◌, ◌⊎◌, ◌==◌, ◌&&◌, Bool, true, false, List, Option, Some, None, Contains}
use Rattle.cmm_walks.specs.Groups.{AreBefore, AreMentions}
use Rattle.walk_tables.specs.AddrLive.{Before}
use Rattle.walk_tables.specs.Table.{step_at, next_at, AreNodes, LeadsToPoint, LeadsToBinding}
use Rattle.walk_tables.specs.declared.node.Step.{Step}
use Rattle.walk_tables.specs.declared.node.Step.TheVariants as step
use Rattle.walk_tables.specs.declared.node.Node as node
use Rattle.cmm_walks.specs.declared.labels.Seed.{Seed}
use Rattle.cmm_walks.specs.declared.seeds.Goal.{Goal}
use Rattle.cmm_walks.specs.declared.first.Search.{Search}
use Rattle.cmm_walks.specs.declared.limits.Limits as limits
use Rattle.cmm_walks.specs.declared.limits.Part.{Part}
use Rattle.cmm_walks.specs.declared.limits.Part.TheVariants as part

-- such a binding, frame point and use, each at a place up to its limit
pub record IsWithin (nodes : List node.Node) (limits : limits.Limits) (p : ℕ) : Type 0 where
  pub bound : ℕ
  pub point : ℕ
  pub used : ℕ
  pub bound_within : bound ≤ limits.bound
  pub point_within : point ≤ limits.point
  pub used_within : used ≤ limits.used
  pub leads : LeadsToBinding nodes bound point used p

abbrev pub with_part : limits.Limits → Part → ℕ → limits.Limits
with_part l part.Used limit = record { bound = l.bound; point = l.point; used = limit }
with_part l part.Point limit = record { bound = l.bound; point = limit; used = l.used }
with_part l part.Bound limit = record { bound = limit; point = l.point; used = l.used }

-- within this limit an address is live, and within no lower one
pub record IsLeast (nodes : List node.Node) (entry : ℕ) (l : limits.Limits) (part : Part)
    (limit : ℕ) : Type 0 where
  pub within : IsWithin nodes (with_part l part limit) entry
  pub none_below : (x : ℕ) → x < limit → IsWithin nodes (with_part l part x) entry → ⊥

abbrev pub place_within : ℕ → Step → Type 0
place_within limit step.Quiet = Unit {0}
place_within limit (step.Binds slot address at) = at ≤ limit
place_within limit (step.Uses slot at) = at ≤ limit
place_within limit (step.Passes at) = at ≤ limit

abbrev pub binds_address : Step → Bool
binds_address step.Quiet = false
binds_address (step.Binds slot address at) = address
binds_address (step.Uses slot at) = false
binds_address (step.Passes at) = false

abbrev pub binds_address_to : ℕ → Step → Bool
binds_address_to slot step.Quiet = false
binds_address_to slot (step.Binds own address at) = address && own == slot
binds_address_to slot (step.Uses own at) = false
binds_address_to slot (step.Passes at) = false

-- an address is live with these three places, and each other comes after it
pub record IsFirstLive (nodes : List node.Node) (entry : ℕ) (l : limits.Limits) : Type 0 where
  pub leads : LeadsToBinding nodes l.bound l.point l.used entry
  pub least : (b p u : ℕ) → LeadsToBinding nodes b p u entry → Before l.bound l.point l.used b p u

-- the nodes have their groups
pub record IsSearch (s : Search) : Type 0 where
  pub nodes : AreNodes s.bound s.nodes.now
  pub before : AreBefore s.nodes.now s.before.items
  pub mentions : AreMentions s.nodes.now s.mentions.items

-- the limits of a goal with this one for its part
abbrev pub up_to : Goal → ℕ → limits.Limits
up_to goal limit = with_part goal.limits goal.part limit

abbrev pub part_of : limits.Limits → Part → ℕ
part_of l part.Used = l.used
part_of l part.Point = l.point
part_of l part.Bound = l.bound

abbrev pub own_limit : Goal → ℕ
own_limit goal = part_of goal.limits goal.part

-- the node binds an address to the slot, and leads on to a frame point and a use, each at a place up to its limit
pub record BindsWithin (nodes : List node.Node) (slot : ℕ) (l : limits.Limits)
    (p : ℕ) : Type 0 where
  pub bound : ℕ
  pub point : ℕ
  pub used : ℕ
  pub next_node : ℕ
  pub bound_within : bound ≤ l.bound
  pub point_within : point ≤ l.point
  pub used_within : used ≤ l.used
  pub binds : step_at nodes p ≡ step.Binds slot true bound
  pub next : Contains (next_at nodes p) next_node
  pub on : LeadsToPoint nodes slot point used next_node

-- a seed of this node with a label up to this one
pub record Seeded (seeds : List Seed) (p label : ℕ) : Type 0 where
  pub seed : Seed
  pub among : Contains seeds seed
  pub place : seed.place ≡ p
  pub below : seed.label ≤ label

-- further seeds, which are those of the bindings of addresses to the slot
pub record AreSlotSeeds (nodes : List node.Node) (goal : Goal) (slot : ℕ)
    (old new : List Seed) : Type 0 where
  pub kept : (s : Seed) → Contains old s → Contains new s
  pub sound : (s : Seed) → Contains new s
      → Contains old s ⊎ ((s.label ≤ own_limit goal) × BindsWithin nodes slot
      (up_to goal s.label) s.place)
  pub complete : (p x : ℕ)
      → x ≤ own_limit goal
      → BindsWithin nodes slot (up_to goal x) p
      → Seeded new p x

-- the least limit for the part of the goal, or that there is none
abbrev pub IsLeastTold : List node.Node → ℕ → Goal → Option ℕ → Type 0
IsLeastTold nodes entry goal None = IsWithin nodes goal.limits entry → ⊥
IsLeastTold nodes entry goal (Some limit) = IsLeast nodes entry goal.limits goal.part limit

-- the first address that is live, or that there is none
abbrev pub IsFirstTold : List node.Node → ℕ → Option limits.Limits → Type 0
IsFirstTold nodes entry None = (b p u : ℕ) → LeadsToBinding nodes b p u entry → ⊥
IsFirstTold nodes entry (Some l) = IsFirstLive nodes entry l
