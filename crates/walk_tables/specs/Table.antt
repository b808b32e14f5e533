-- What a walk does over a table of nodes.
use Rattle.std.specs.Prelude.{◌≡◌, ℕ, ◌<◌, true, List, [], ◌∷◌, ◌++◌, map, slice_index_or, length, Contains}
use Rattle.std.specs.List.{All}
use Rattle.walk_tables.specs.Walks.{Event}
use Rattle.walk_tables.specs.Walks as event
use Rattle.walk_tables.specs.AddrLive.{Unbound}
use Rattle.walk_tables.specs.declared.node.Step.{Step}
use Rattle.walk_tables.specs.declared.node.Step.TheVariants as step
use Rattle.walk_tables.specs.declared.node.Next.{Next}
use Rattle.walk_tables.specs.declared.node.Next.TheVariants as next
use Rattle.walk_tables.specs.declared.node.Node as node

-- the event of a node, if it has one
abbrev pub shown : Step → List Event
shown step.Quiet = []
shown (step.Binds slot address at) = event.Binds slot address at ∷ []
shown (step.Uses slot at) = event.Uses slot at ∷ []
shown (step.Passes at) = event.Passes at ∷ []

-- the nodes that may come next, in order
abbrev pub next_cells : Next → List ℕ
next_cells next.Nowhere = []
next_cells (next.One cell) = cell ∷ []
next_cells (next.Two cells) = cells
next_cells (next.Any cells) = cells.items

-- what a walk does at a node; past the last one nothing
abbrev pub step_at : List node.Node → ℕ → Step
step_at nodes p = slice_index_or (map (λ (n : node.Node). n.step) nodes) p step.Quiet

-- the nodes that may come after it
abbrev pub next_at : List node.Node → ℕ → List ℕ
next_at nodes p = slice_index_or (map (λ (n : node.Node). next_cells n.next) nodes) p []

-- A way from one node to another, with the events of all nodes before the last.
pub data Trail (nodes : List node.Node) : ℕ → List Event → ℕ → Type 0 where
  here : (p : ℕ) → Trail nodes p [] p
  goes : (p m q : ℕ) (events : List Event)
      → Contains (next_at nodes p) m
      → Trail nodes m events q
      → Trail nodes p (shown (step_at nodes p) ++ events) q

-- from this node some way leads to a use of the slot at this place, and does not bind the slot
pub record LeadsToUse (nodes : List node.Node) (slot used p : ℕ) : Type 0 where
  pub use_node : ℕ
  pub events : List Event
  pub way : Trail nodes p events use_node
  pub unbound : Unbound slot events
  pub uses : step_at nodes use_node ≡ step.Uses slot used

-- from this node some way leads to a frame point, and on to such a use
pub record LeadsToPoint (nodes : List node.Node) (slot point used p : ℕ) : Type 0 where
  pub point_node : ℕ
  pub next_node : ℕ
  pub events : List Event
  pub way : Trail nodes p events point_node
  pub unbound : Unbound slot events
  pub passes : step_at nodes point_node ≡ step.Passes point
  pub next : Contains (next_at nodes point_node) next_node
  pub on : LeadsToUse nodes slot used next_node

-- from this node some way leads to a binding of an address, and on to such a frame point
pub record LeadsToBinding (nodes : List node.Node) (bound point used p : ℕ) : Type 0 where
  pub slot : ℕ
  pub bound_node : ℕ
  pub next_node : ℕ
  pub events : List Event
  pub way : Trail nodes p events bound_node
  pub binds : step_at nodes bound_node ≡ step.Binds slot true bound
  pub next : Contains (next_at nodes bound_node) next_node
  pub on : LeadsToPoint nodes slot point used next_node

abbrev pub slot_below : ℕ → Step → Type 0
slot_below bound (step.Binds slot address at) = slot < bound
slot_below bound (step.Uses slot at) = slot < bound
slot_below bound _ = Unit {0}

-- every node that is named exists, and every slot is below the bound
pub record IsNode (count bound : ℕ) (n : node.Node) : Type 0 where
  pub next : All (λ q. q < count) (next_cells n.next)
  pub slot : slot_below bound n.step

abbrev pub AreNodes : ℕ → List node.Node → Type 0
AreNodes bound nodes = All (IsNode (length nodes) bound) nodes

-- every node that is named exists
pub record IsLinked (count : ℕ) (n : node.Node) : Type 0 where
  pub next : All (λ q. q < count) (next_cells n.next)

abbrev pub AreLinked : List node.Node → Type 0
AreLinked nodes = All (IsLinked (length nodes)) nodes
