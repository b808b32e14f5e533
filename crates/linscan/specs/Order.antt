-- The registers whose places are open, with their intervals, and the tables by which these are found.
use Rattle.std.specs.Prelude.{◌≡◌, ℕ, ◌<◌, Bool, List, map, Some, AllPairs, Contains}
use Rattle.std.specs.Ordering.{is_lt, nat_cmp}
use Rattle.bs_words.specs.declared.types.Loc.TheVariants as loc
use Rattle.mach_ir.specs.declared.graph.Graph.{Graph}
use Rattle.mach_ir.specs.declared.graph.Node.{Node}
use Rattle.linscan_rules.specs.Scan.{OpenInterval}
use Rattle.linscan_rules.specs.declared.interval.Interval.{Interval}
use Rattle.linscan.specs.Seen.{RangeTable, range_at}
use Rattle.linscan.specs.declared.order.OpenNode.{OpenNode}
use Rattle.linscan.specs.declared.order.OpenRegister.{OpenRegister}
use Rattle.linscan.specs.declared.ranges.Range.{Range}

-- ---- intervals by number

-- the table has the intervals of a list
pub record HasIntervals (list : List Interval) (t : RangeTable) : Type 0 where
  pub sound : (n : ℕ) (r : Range) → range_at t n ≡ Some r →
      Contains list (record { register = n; from = r.from; to = r.to })
  pub whole : (x : Interval) → Contains list x →
      range_at t x.register ≡ Some (record { from = x.from; to = x.to })

-- ---- nodes

abbrev pub row_of : OpenRegister → OpenInterval
row_of r = record { number = r.number; origin = r.origin; from = r.from; to = r.to }

abbrev pub open_rows : List OpenNode → List OpenInterval
open_rows opens = map (λ (o : OpenNode). row_of o.register) opens

-- a node whose place is open, with its interval
pub record IsOpenNode (t : RangeTable) (x : Node) (o : OpenNode) : Type 0 where
  pub is_open : x.reg.loc ≡ loc.Unset
  pub number : o.register.number ≡ x.reg.number
  pub origin : o.register.origin ≡ x.reg.origin
  pub range : range_at t x.reg.number ≡ Some (record { from = o.register.from; to = o.register.to })
  pub node : o.node.now ≡ x

-- that of one of these nodes
pub record IsOneOpen (t : RangeTable) (nodes : List Node) (o : OpenNode) : Type 0 where
  pub item : Node
  pub among : Contains nodes item
  pub is : IsOpenNode t item o

-- one of these is that of a node
pub record HasOpen (t : RangeTable) (opens : List OpenNode) (x : Node) : Type 0 where
  pub item : OpenNode
  pub among : Contains opens item
  pub is : IsOpenNode t x item

-- those of these nodes that are open and have intervals, by rising number
pub record AreOpenNodes (t : RangeTable) (nodes : List Node) (opens : List OpenNode) : Type 0 where
  pub order : AllPairs (λ (x y : OpenNode). x.register.number < y.register.number) opens
  pub sound : (o : OpenNode) → Contains opens o → IsOneOpen t nodes o
  pub whole : (x : Node) → Contains nodes x → x.reg.loc ≡ loc.Unset → (r : Range) →
      range_at t x.reg.number ≡ Some r → HasOpen t opens x

-- its number is above theirs
abbrev pub ComesAfter : List Node → Node → Type 0
ComesAfter nodes x = (y : Node) → Contains nodes y → y.reg.number < x.reg.number

-- the sort's own test
abbrev pub begins_before : OpenNode → OpenNode → Bool
begins_before x y = is_lt (nat_cmp x.register.from y.register.from)

-- each with the node of its register
pub record IsNodeOf (g : Graph) (o : OpenNode) : Type 0 where
  pub among : Contains g.nodes o.node.now
  pub number : o.node.now.reg.number ≡ o.register.number

abbrev pub AreNodesOf : Graph → List OpenNode → Type 0
AreNodesOf g opens = (o : OpenNode) → Contains opens o → IsNodeOf g o
