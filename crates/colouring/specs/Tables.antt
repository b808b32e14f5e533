-- What the tables hold from which places are chosen.
use Rattle.std.specs.Prelude.{◌≡◌, ℕ, ◌<◌, Bool, List, map, length, Option, Some, None, slice_index_or, slice_get, All, nat_eq}
use Rattle.std.specs.Borrow.{Bor}
use Rattle.std.specs.Ordering.{is_lt, nat_cmp}
use Rattle.bs_words.specs.declared.types.Loc.{Loc}
use Rattle.bs_words.specs.declared.types.Loc.TheVariants as loc
use Rattle.mach_ir.specs.Placed.{Colouring}
use Rattle.mach_ir.specs.Places as locations
use Rattle.mach_ir.specs.declared.graph.Node.{Node}
use Rattle.colouring.specs.Chosen.{urgency, node_at}
use Rattle.colouring.specs.declared.merit.Merit.{Merit}
use Rattle.colouring.specs.declared.counts.Counts.{Counts}
use Rattle.colouring.specs.declared.order.Ranked.{Ranked}
use Rattle.colouring.specs.declared.tallies.Tallies.{Tallies}

-- ---- the order

-- whether the place of its register is not chosen yet
abbrev pub is_uncoloured : Node → Bool
is_uncoloured x = locations.is_unset_location x.reg.loc

-- the nodes that are referred to
abbrev pub referred : List (Bor Node) → List Node
referred nodes = map (λ x. x.now) nodes

-- the nodes that are ranked
abbrev pub ranked_nodes : List Ranked → List Node
ranked_nodes ranked = map (λ (r : Ranked). r.node.now) ranked

-- each is as urgent as it says
abbrev pub AreRanked : Colouring → ℕ → List Ranked → Type 0
AreRanked place fresh ranked =
    All (λ (r : Ranked). r.urgency ≡ urgency place fresh r.node.now) ranked

-- the sort's own test
abbrev pub is_more_urgent : Ranked → Ranked → Bool
is_more_urgent x y = is_lt (nat_cmp y.urgency x.urgency)

-- ---- nodes by number

abbrev pub node_by : List Node → Option ℕ → Option Node
node_by nodes None = None
node_by nodes (Some index) = slice_get nodes index

pub record IsNodeIndex (nodes : List Node) (indices : List (Option ℕ)) : Type 0 where
  pub each : (n : ℕ) → node_by nodes (slice_index_or indices n None) ≡ node_at nodes n
  pub has : All (λ (x : Node). x.reg.number < length indices) nodes

-- ---- places by number

abbrev pub places_by : List Loc → Colouring
places_by places n = slice_index_or places n loc.Unset

-- ---- counts

abbrev pub count_at : Counts → ℕ → ℕ
count_at counts register = slice_index_or counts.items register 0

abbrev pub merit_by : Tallies → ℕ → Merit
merit_by tallies colour = record { own = count_at tallies.own colour; wanted = count_at tallies.wanted colour }

abbrev pub free_by : Tallies → ℕ → Bool
free_by tallies colour = nat_eq (count_at tallies.near colour) 0
