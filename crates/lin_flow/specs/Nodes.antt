-- The places of the flow graph that are positions.
use Rattle.std.specs.Prelude.{◌≡◌, ℕ, suc, ◌+◌, ◌≤◌, Bool, true, false, List, [], ◌∷◌, ◌++◌, Some, map, length, drop, slice_get}
use Rattle.bs_words.specs.Contents.{contents}
use Rattle.dataflow.specs.declared.flow.Place as place
use Rattle.lin_ir.specs.Walks.{targets, may_raise, tries_after, Reached}
use Rattle.lin_ir.specs.declared.lin.Line.{Line}
use Rattle.lin_ir.specs.declared.lin.Lin.{Lin}
use Rattle.lin_laws.specs.Graph.{position, steps, raise_steps, AreNumbered, AreNumbersOf, IsPositionNode, ArePositionNodes}
use Rattle.lin_laws.specs.declared.position.Position.{Position}
use Rattle.lin_flow.specs.Labels.{AreLabelsOf, line_of_label}
use Rattle.mach_ir.specs.Labels.{place_to}
use Rattle.lin_laws.specs.Numbers.{val_numbers, written_numbers}
use Rattle.lin_flow.specs.Search.{all_positions, groups_of, Grown, AreGrouped, AreCountable}
use Rattle.lin_flow.specs.Sizes.{IsCountable}
use Rattle.lin_flow.specs.declared.labels.LineLabels.{LineLabels}
use Rattle.lin_flow.specs.declared.search.Search.{Search}

-- where a raise leads, by the table of labels
abbrev pub landing_to : LineLabels → Bool → List ℕ → List Position
landing_to labels false tries = []
landing_to labels true [] = []
landing_to labels true (h ∷ tries) = position (line_of_label labels h) tries ∷ []

-- where a line goes on, by the table of labels
abbrev pub steps_to : LineLabels → Line → ℕ → List ℕ → List Position
steps_to labels i p tries =
    map (λ q. position q (tries_after i.op tries)) (map (place_to (line_of_label labels) p) (targets i.op))

-- these positions have come in, and these are their numbers
pub record Landed (old new : Search) (ys : List Position) (ns : List ℕ) : Type 0 where
  pub grown : Grown old new ys
  pub numbers : AreNumbersOf (all_positions new) ns ys

-- a function whose locations and lines have numbers, and the table of its labels
pub record IsText (m : Lin) (labels : LineLabels) : Type 0 where
  pub numbered : AreNumbered m
  pub table : AreLabelsOf m labels
  pub countable : IsCountable m

-- the place of the graph for a line, and the positions after it
pub record IsNodeOfLine (labels : LineLabels) (old new : Search) (i : Line) (p : ℕ) (tries : List ℕ)
    (node : place.Place) : Type 0 where
  pub grown : Grown old new (steps_to labels i p tries ++ landing_to labels (may_raise i.op) tries)
  pub next : AreNumbersOf (all_positions new) (contents node.next) (steps_to labels i p tries)
  pub aside : AreNumbersOf (all_positions new) (contents node.aside)
      (landing_to labels (may_raise i.op) tries)
  pub reads : contents node.reads ≡ val_numbers i.args
  pub writes : contents node.writes ≡ written_numbers i

-- a position was visited
pub record VisitedPosition (m : Lin) (old new : Search) (number : ℕ) (node : place.Place) : Type 0 where
  pub at : Position
  pub is : slice_get (all_positions old) number ≡ Some at
  pub grown : Grown old new (steps m at ++ raise_steps m at)
  pub is_node : IsPositionNode m (m.slots + 32) (all_positions new) at node

-- the first positions were visited
pub record IsSearchReady (m : Lin) (s : Search) (nodes : List place.Place) : Type 0 where
  pub groups : length (groups_of s) ≡ suc (length m.code)
  pub countable : AreCountable s
  pub fewer : length nodes ≤ length (all_positions s)
  pub are : ArePositionNodes m (m.slots + 32) (all_positions s) nodes

-- some walk comes to each position
pub record AreWalkedTo (m : Lin) (all : List Position) : Type 0 where
  pub each : (q : ℕ) (x : Position) → slice_get all q ≡ Some x →
      Reached m (drop x.place m.code) x.tries

-- positions were visited, some of them new
pub record Spreads (m : Lin) (old new : Search) (nodes : List place.Place) : Type 0 where
  pub kept : (q : ℕ) (x : Position) → slice_get (all_positions old) q ≡ Some x →
      slice_get (all_positions new) q ≡ Some x
  pub walked : AreWalkedTo m (all_positions old) → AreWalkedTo m (all_positions new)
  pub grouped : AreGrouped old → AreGrouped new
  pub ready : IsSearchReady m new nodes

-- all positions were visited
pub record SpreadToAll (m : Lin) (old new : Search) (nodes : List place.Place) : Type 0 where
  pub spreads : Spreads m old new nodes
  pub all : length nodes ≡ length (all_positions new)
