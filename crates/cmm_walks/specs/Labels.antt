-- Labels of nodes: each node has the least label of the seeds that it leads to.
use Rattle.std.specs.Prelude.{◌≡◌, ℕ, ◌<◌, ◌≤◌, ◌⊎◌, ◌+◌, ◌==◌, Bool, false, cond, nat_lt, List, [], ◌∷◌, ◌++◌, length, drop, set, sum, slice_index_or, Option, Some, None, Contains}
use Rattle.std.specs.List.{All}
use Rattle.walk_tables.specs.Walks.{Event}
use Rattle.walk_tables.specs.AddrLive.{Unbound}
use Rattle.walk_tables.specs.Table.{shown, step_at, next_at, Trail}
use Rattle.walk_tables.specs.declared.node.Step.{Step}
use Rattle.walk_tables.specs.declared.node.Step.TheVariants as step
use Rattle.walk_tables.specs.declared.node.Node as node
use Rattle.cmm_walks.specs.declared.labels.Seed.{Seed}
use Rattle.cmm_walks.specs.declared.labels.NodeLabels.{NodeLabels}

-- what stands for no label
abbrev pub unlabelled : ℕ
unlabelled = 4294967296

abbrev pub label_at : List ℕ → ℕ → ℕ
label_at labels p = slice_index_or labels p unlabelled

abbrev pub known_label : List ℕ → ℕ → Option ℕ
known_label labels p = cond (nat_lt (label_at labels p) unlabelled) (Some (label_at labels p)) None

abbrev pub binds_slot : ℕ → Step → Bool
binds_slot slot step.Quiet = false
binds_slot slot (step.Binds own address at) = own == slot
binds_slot slot (step.Uses own at) = false
binds_slot slot (step.Passes at) = false

-- a way from one node to another on which nothing is bound to the slot
pub record Leads (nodes : List node.Node) (slot p q : ℕ) : Type 0 where
  pub events : List Event
  pub way : Trail nodes p events q
  pub unbound : Unbound slot events

-- a seed with this label that the node leads to
pub record LeadsToSeed (nodes : List node.Node) (slot : ℕ) (seeds : List Seed)
    (p label : ℕ) : Type 0 where
  pub seed : Seed
  pub among : Contains seeds seed
  pub leads : Leads nodes slot p seed.place
  pub is : seed.label ≡ label

-- so many nodes without labels
pub record IsUnlabelled (count : ℕ) (l : NodeLabels) : Type 0 where
  pub len : length l.of.items ≡ count
  pub none : (p : ℕ) → label_at l.of.items p ≡ unlabelled
  pub queue : l.queue.items ≡ []
  pub done : l.done ≡ 0

-- the queue has each node that is labelled, and no number past the nodes
pub record HasLabelledQueue (l : NodeLabels) : Type 0 where
  pub most : (p : ℕ) → label_at l.of.items p ≤ unlabelled
  pub within : All (λ p. p < length l.of.items) l.queue.items
  pub kept : (p : ℕ) → label_at l.of.items p < unlabelled → Contains l.queue.items p

-- the node has this label now, if it had a greater one
abbrev pub Lowered : NodeLabels → NodeLabels → ℕ → ℕ → Type 0
Lowered old new place label =
    ((label < label_at old.of.items place)
    × (new.of.items ≡ set old.of.items place label)
    × (new.queue.items ≡ old.queue.items ++ place ∷ [])
    × (new.done ≡ old.done))
    ⊎ ((label_at old.of.items place ≤ label) × (new ≡ old))

-- No node's label is above that of one that may come next, unless it binds the slot, or the next one's label is
-- still to be passed on.
pub record IsSpreading (nodes : List node.Node) (slot : ℕ) (l : NodeLabels) : Type 0 where
  pub len : length l.of.items ≡ length nodes
  pub kept : HasLabelledQueue l
  pub done : l.done ≤ length l.queue.items
  pub passed : (q p : ℕ) → Contains (next_at nodes q) p → Unbound slot (shown (step_at nodes q))
      → Contains (drop l.done l.queue.items) p ⊎ (label_at l.of.items q ≤ label_at l.of.items p)

-- labels only fell, and those that are new come from seeds if the old ones do
pub record LabelsFall (nodes : List node.Node) (slot : ℕ) (old new : NodeLabels) : Type 0 where
  pub falls : (p : ℕ) → label_at new.of.items p ≤ label_at old.of.items p
  pub from : (seeds : List Seed)
      → ((p : ℕ) → label_at old.of.items p < unlabelled → LeadsToSeed nodes slot seeds p
      (label_at old.of.items p))
      → (p : ℕ) → label_at new.of.items p < unlabelled → LeadsToSeed nodes slot seeds p
      (label_at new.of.items p)

-- what a worklist has still to do
abbrev pub weight : NodeLabels → ℕ
weight l = sum l.of.items + length l.queue.items

-- the label of a node was passed on
pub record LowersBefore (nodes : List node.Node) (slot place : ℕ) (old new : NodeLabels) : Type 0 where
  pub spreading : IsSpreading nodes slot new
  pub fell : LabelsFall nodes slot old new
  pub done : new.done ≡ old.done
  pub more : List ℕ
  pub queue : new.queue.items ≡ old.queue.items ++ more
  pub passed : (q : ℕ) → Contains (next_at nodes q) place → Unbound slot (shown (step_at nodes q))
      → label_at new.of.items q ≤ label_at new.of.items place
  pub weight : weight new ≤ weight old

-- all labels were passed on
pub record Settles (nodes : List node.Node) (slot : ℕ) (old new : NodeLabels) : Type 0 where
  pub spreading : IsSpreading nodes slot new
  pub fell : LabelsFall nodes slot old new
  pub done : length new.queue.items ≤ new.done

-- each node has the least label of the seeds that it leads to
pub record FirstLabels (nodes : List node.Node) (slot : ℕ) (seeds : List Seed)
    (l : NodeLabels) : Type 0 where
  pub len : length l.of.items ≡ length nodes
  pub kept : HasLabelledQueue l
  pub from : (p : ℕ)
      → label_at l.of.items p < unlabelled
      → LeadsToSeed nodes slot seeds p (label_at l.of.items p)
  pub least : (s : Seed)
      → Contains seeds s
      → (p : ℕ)
      → Leads nodes slot p s.place
      → label_at l.of.items p ≤ s.label
