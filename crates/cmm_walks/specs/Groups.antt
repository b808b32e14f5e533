-- Numbers of nodes in groups.
use Rattle.std.specs.Prelude.{◌≡◌, ℕ, ◌⊎◌, ◌↔◌, List, [], map, slice_index_or, length, Contains}
use Rattle.walk_tables.specs.Table.{step_at, next_at}
use Rattle.cmm_walks.specs.declared.groups.NodeGroup as group
use Rattle.walk_tables.specs.declared.node.Step.{Step}
use Rattle.walk_tables.specs.declared.node.Step.TheVariants as step
use Rattle.walk_tables.specs.declared.node.Node as node

-- the members of a group; past the last group there are none
abbrev pub members : List group.NodeGroup → ℕ → List ℕ
members groups k = slice_index_or (map (λ (g : group.NodeGroup). g.members.items) groups) k []

-- a member was added to a group, and nothing else
pub record Added (old new : List group.NodeGroup) (k member : ℕ) : Type 0 where
  pub len : length new ≡ length old
  pub exact : (j x : ℕ)
      → Contains (members new j) x ↔ (Contains (members old j) x ⊎ ((j ≡ k) × (member ≡ x)))

-- the step binds the slot, or uses it
abbrev pub NamesSlot : ℕ → Step → Type 0
NamesSlot slot step.Quiet = ⊥
NamesSlot slot (step.Binds own address at) = own ≡ slot
NamesSlot slot (step.Uses own at) = own ≡ slot
NamesSlot slot (step.Passes at) = ⊥

-- a node was added to the group of its slot, and none was taken out
pub record HasSlotAdded (old new : List group.NodeGroup) (st : Step) (number : ℕ) : Type 0 where
  pub len : length new ≡ length old
  pub kept : (j x : ℕ) → Contains (members old j) x → Contains (members new j) x
  pub here : (slot : ℕ) → NamesSlot slot st → Contains (members new slot) number

-- each group has exactly the nodes that the node of its number may come after
pub record AreBefore (nodes : List node.Node) (groups : List group.NodeGroup) : Type 0 where
  pub len : length groups ≡ length nodes
  pub exact : (p q : ℕ) → Contains (members groups p) q ↔ Contains (next_at nodes q) p

-- each node is in the group of the slot that it names
pub record AreMentions (nodes : List node.Node) (groups : List group.NodeGroup) : Type 0 where
  pub named : (slot p : ℕ) → NamesSlot slot (step_at nodes p) → Contains (members groups slot) p
