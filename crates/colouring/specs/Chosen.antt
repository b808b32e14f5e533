-- Which place colouring chooses for each register of a graph: for one after the other, in a fixed order,
-- the best colour that no neighbour has, or else the slot of its origin.
--
-- Unlike in OCaml's `coloring.ml` only direct moves count, a register's own before its neighbours', and
-- ties go by number. That it is a good choice is not proved.
use Rattle.std.specs.Prelude.{◌≡◌, ◌↔◌, ◌⊎◌, ℕ, ◌+◌, ◌*◌, ◌/◌, ◌<◌, Bool, true, false, cond, not, nat_eq, nat_lt, nat_le, List, [], ◌∷◌, Option, Some, None, AllPairs, Contains, length, count_by, sum_by, filter, find}
use Rattle.bs_words.specs.declared.types.Loc.{Loc}
use Rattle.bs_words.specs.declared.types.Loc.TheVariants as loc
use Rattle.mach_ir.specs.Graph.{InGraph, coloured_location}
use Rattle.mach_ir.specs.Placed.{Colouring, colour_numbers}
use Rattle.mach_ir.specs.declared.reg.Reg.{Reg}
use Rattle.mach_ir.specs.declared.graph.Node.{Node}
use Rattle.mach_ir.specs.declared.graph.Graph.{Graph}
use Rattle.mach_ir.specs.declared.graph.Colours.{Colours}
use Rattle.colouring.specs.declared.merit.Merit.{Merit}

-- ---- fixed places

-- the node of a number
abbrev pub node_at : List Node → ℕ → Option Node
node_at nodes n = find (λ (x : Node). nat_eq x.reg.number n) nodes

abbrev pub location_of_node : Option Node → Loc
location_of_node None = loc.Unset
location_of_node (Some x) = x.reg.loc

-- the places that are fixed
abbrev pub fixed : Graph → Colouring
fixed g n = location_of_node (node_at g.nodes n)

-- ---- the order

abbrev pub is_slot : Loc → Bool
is_slot loc.Unset = false
is_slot (loc.Machine n) = false
is_slot (loc.Slot n) = true

-- how many neighbours have or may take a colour: those that are in slots take none
abbrev pub degree : Colouring → Node → ℕ
degree place x = count_by (λ n. not (is_slot (place n))) x.neighbours

-- more than any other is
abbrev pub most_urgent : ℕ
most_urgent = 18446744073709551615

-- How urgent a register is, where those from a number on were made by reloading. Such a one comes first,
-- since a slot for it would only ask for another. One that has fewer neighbours that take a colour than
-- there are colours is not urgent, as some colour is left to it whatever they take. Of any other, what
-- its slot would cost for each of these neighbours, in 1024ths of a use.
abbrev pub urgency : Colouring → ℕ → Node → ℕ
urgency place fresh x =
    cond (nat_le fresh x.reg.number) most_urgent
    (cond (nat_lt (degree place x) (length colour_numbers)) 0 (1 + x.uses * 1024 / degree place x))

-- of two nodes, which comes first: the more urgent one, and of two as urgent that of the lower number
abbrev pub IsColouredBefore : Colouring → ℕ → Node → Node → Type 0
IsColouredBefore place fresh x y =
    (urgency place fresh y < urgency place fresh x)
    ⊎ ((urgency place fresh x ≡ urgency place fresh y) × (x.reg.number < y.reg.number))

-- the nodes whose places are open, each of them once, in their order
pub record IsOrder (fresh : ℕ) (g : Graph) (order : List Node) : Type 0 where
  pub exact : (x : Node) → Contains order x ↔ (Contains g.nodes x × (x.reg.loc ≡ loc.Unset))
  pub sorted : AllPairs (IsColouredBefore (fixed g) fresh) order

-- ---- what speaks for a colour, where some registers have places

abbrev pub has_colour : ℕ → Loc → Bool
has_colour colour loc.Unset = false
has_colour colour (loc.Machine n) = nat_eq n colour
has_colour colour (loc.Slot n) = false

-- how many of these registers, by number, are in a colour
abbrev pub count_in_colour : Colouring → ℕ → List ℕ → ℕ
count_in_colour place colour ns = count_by (λ n. has_colour colour (place n)) ns

abbrev pub node_moves : Option Node → List ℕ
node_moves None = []
node_moves (Some x) = x.moves

-- how many moves of these registers have their other end in a colour
abbrev pub wanted_by : Graph → Colouring → ℕ → List ℕ → ℕ
wanted_by g place colour ns = sum_by (λ n. count_in_colour place colour (node_moves (node_at g.nodes n))) ns

-- what speaks for a colour: the register's own moves from or to there, and those of its neighbours
abbrev pub merit : Graph → Colouring → Node → ℕ → Merit
merit g place x colour = record {
  own = count_in_colour place colour x.moves;
  wanted = wanted_by g place colour x.neighbours;
}

-- whether a register had better be where the first merit is: the more of its own moves, the better,
-- and then the fewer of its neighbours'
abbrev pub is_better : Merit → Merit → Bool
is_better a b = cond (nat_eq a.own b.own) (nat_lt a.wanted b.wanted) (nat_lt b.own a.own)

-- ---- the place of one register

abbrev pub is_free_colour : Colouring → Node → ℕ → Bool
is_free_colour place x colour = nat_eq (count_in_colour place colour x.neighbours) 0

-- the colour itself, if no later one is better
abbrev pub better_colour : (ℕ → Merit) → ℕ → Option ℕ → ℕ
better_colour merit colour None = colour
better_colour merit colour (Some later) = cond (is_better (merit later) (merit colour)) later colour

-- the first of the best of these colours
abbrev pub first_best : (ℕ → Merit) → List ℕ → Option ℕ
first_best merit [] = None
first_best merit (c ∷ cs) = Some (better_colour merit c (first_best merit cs))

-- a colour, or else the slot of the origin
abbrev pub place_for : Reg → Option ℕ → Loc
place_for r None = loc.Slot r.origin
place_for r (Some colour) = loc.Machine colour

-- the best free colour, or else a slot
unfoldable pub chosen_location : Graph → Colouring → Node → Loc
chosen_location g place x = place_for x.reg (first_best (merit g place x) (filter (is_free_colour place x) colour_numbers))

-- ---- all places

-- the places with one more register at its place
abbrev pub colouring_with : Colouring → ℕ → Loc → Colouring
colouring_with place n here k = cond (nat_eq k n) here (place k)

-- The places after those of these nodes were chosen, the first one first.
abbrev pub greedily_coloured : Graph → Colouring → List Node → Colouring
greedily_coloured g place [] = place
greedily_coloured g place (x ∷ xs) = greedily_coloured g (colouring_with place x.reg.number (chosen_location g place x)) xs

-- Each register has its fixed place or the one chosen, and a number that is no register's is `Unset`.
pub record IsGreedyColouring (fresh : ℕ) (g : Graph) (c : Colours) : Type 0 where
  pub order : List Node
  pub ordered : IsOrder fresh g order
  pub places : (n : ℕ) → coloured_location c n ≡ greedily_coloured g (fixed g) order n

-- ---- laws

-- the order of a graph is one

abbrev pub OrderIsOne : ℕ → Graph → Type 0
OrderIsOne fresh g =
    (first second : List Node) → IsOrder fresh g first → IsOrder fresh g second → first ≡ second

-- and so are the places of all numbers
abbrev pub ColoursAreOne : ℕ → Graph → Type 0
ColoursAreOne fresh g = (c d : Colours) → IsGreedyColouring fresh g c → IsGreedyColouring fresh g d →
    (n : ℕ) → coloured_location c n ≡ coloured_location d n

-- a number that no register has is `Unset`
abbrev pub OthersAreUnset : ℕ → Graph → Type 0
OthersAreUnset fresh g = (c : Colours) → IsGreedyColouring fresh g c → (n : ℕ) →
    ((r : Reg) → InGraph g r → r.number ≡ n → ⊥) → coloured_location c n ≡ loc.Unset
