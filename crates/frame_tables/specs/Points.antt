-- Frame points, and the places of the flow graph before which is live what is live after them.
use Rattle.std.specs.Prelude.{◌≡◌, ◌⊎◌, ℕ, ◌+◌, ◌<◌, Bool, true, false, cond, List, [], ◌∷◌, Some, length, drop, slice_get, All, AllPairs, Contains}
use Rattle.bs_words.specs.Contents.{contents}
use Rattle.dataflow.specs.declared.flow.Place as place
use Rattle.lin_ir.specs.Descriptors.{frame_point_count}
use Rattle.lin_ir.specs.Meaning.{passes_frame}
use Rattle.lin_ir.specs.Walks.{Reached, Traps}
use Rattle.lin_ir.specs.declared.lin.Line.{Line}
use Rattle.lin_ir.specs.declared.lin.LinOp.{LinOp}
use Rattle.lin_ir.specs.declared.lin.Lin.{Lin}
use Rattle.lin_laws.specs.Graph.{line_index, position, AreNumbered, ArePositionNodes, IsNodeAfterPoint}
use Rattle.lin_laws.specs.declared.position.Position.{Position}
use Rattle.lin_laws.specs.Numbers.{written_numbers}
use Rattle.lin_flow.specs.Search.{all_positions, groups_of, search_members, AreGrouped, AreCountable, HasFirst}
use Rattle.lin_flow.specs.declared.search.Search.{Search}
use Rattle.frame_tables.specs.declared.after.Choice.{Choice}
use Rattle.frame_tables.specs.declared.after.Point.{Point}

-- ---- which positions are those of a frame point

-- one of the first, or one with no trap pushed
abbrev pub IsOneOf : Bool → ℕ → ℕ → List ℕ → Type 0
IsOneOf true reached q tries = q < reached
IsOneOf false reached q tries = tries ≡ []

abbrev pub IsAsked : Choice → ℕ → Position → Type 0
IsAsked c q found = (found.place ≡ c.place) × IsOneOf c.seen c.reached q found.tries

pub record IsChosenPosition (s : Search) (c : Choice) (q : ℕ) : Type 0 where
  pub found : Position
  pub is : slice_get (all_positions s) q ≡ Some found
  pub asked : IsAsked c q found

-- the choice at a place, which depends on whether one of the first positions is there
pub record IsChoice (s : Search) (p reached : ℕ) (c : Choice) : Type 0 where
  pub place : c.place ≡ p
  pub first : c.reached ≡ reached
  pub yes : c.seen ≡ true → HasFirst s p reached
  pub no : c.seen ≡ false → AreGrouped s → HasFirst s p reached → ⊥

-- so many traps are pushed at one that is chosen
pub record HasTraps (s : Search) (c : Choice) (traps : ℕ) : Type 0 where
  pub number : ℕ
  pub chosen : IsChosenPosition s c number
  pub is : traps ≡ length chosen.found.tries

-- ---- where control goes from them

abbrev pub edges_of : Bool → place.Place → List ℕ
edges_of aside node = cond aside (contents node.aside) (contents node.next)

-- control goes there from the position with number n, which is chosen
pub record ComesFrom (s : Search) (nodes : List place.Place) (c : Choice) (aside : Bool) (n q : ℕ) :
    Type 0 where
  pub node : place.Place
  pub is : slice_get nodes n ≡ Some node
  pub chosen : IsChosenPosition s c n
  pub edge : Contains (edges_of aside node) q

-- where control goes from a position was added
pub record Gathers (s : Search) (nodes : List place.Place) (c : Choice) (aside : Bool) (n : ℕ)
    (old new : List ℕ) : Type 0 where
  pub kept : (q : ℕ) → Contains old q → Contains new q
  pub is : (q : ℕ) → Contains new q → Contains old q ⊎ ComesFrom s nodes c aside n q
  pub all : (q : ℕ) → ComesFrom s nodes c aside n q → Contains new q

-- exactly where control goes from those among these that are chosen
pub record IsGathered (s : Search) (nodes : List place.Place) (c : Choice) (aside : Bool)
    (among ns : List ℕ) : Type 0 where
  pub is : (q : ℕ) → Contains ns q → (n : ℕ) × ComesFrom s nodes c aside n q
  pub all : (n : ℕ) → Contains among n → (q : ℕ) → ComesFrom s nodes c aside n q → Contains ns q

pub record IsAfterNode (s : Search) (nodes : List place.Place) (c : Choice) (i : Line)
    (node : place.Place) : Type 0 where
  pub next : IsGathered s nodes c false (search_members (groups_of s) c.place) (contents node.next)
  pub aside : IsGathered s nodes c true (search_members (groups_of s) c.place) (contents node.aside)
  pub reads : contents node.reads ≡ []
  pub writes : contents node.writes ≡ written_numbers i

-- ---- searches

-- a frame point, and the line that is
pub record IsFramePoint (m : Lin) (p : ℕ) : Type 0 where
  pub line : Line
  pub next : List Line
  pub at : drop p m.code ≡ line ∷ next
  pub passes : passes_frame line.op ≡ true

-- a frame point at this place has one of the first positions, or one with no trap pushed
pub record IsRooted (old new : Search) (op : LinOp) (p reached : ℕ) : Type 0 where
  pub kept : (q : ℕ) (x : Position) → slice_get (all_positions old) q ≡ Some x →
      slice_get (all_positions new) q ≡ Some x
  pub grouped : AreGrouped old → AreGrouped new
  pub countable : AreCountable old → AreCountable new
  pub groups : length (groups_of new) ≡ length (groups_of old)
  pub root : passes_frame op ≡ true →
      ((q : ℕ) × (slice_get (all_positions new) q ≡ Some (position p []))) ⊎ HasFirst new p reached

-- each frame point before place k has one of the first positions, or one with no trap pushed
pub record HasRoots (m : Lin) (old new : Search) (reached k : ℕ) : Type 0 where
  pub kept : (q : ℕ) (x : Position) → slice_get (all_positions old) q ≡ Some x →
      slice_get (all_positions new) q ≡ Some x
  pub grouped : AreGrouped old → AreGrouped new
  pub countable : AreCountable old → AreCountable new
  pub groups : length (groups_of new) ≡ length (groups_of old)
  pub roots : (p : ℕ) → p < k → IsFramePoint m p →
      ((q : ℕ) × (slice_get (all_positions new) q ≡ Some (position p []))) ⊎ HasFirst new p reached

-- The first positions are those that walks come to. Each frame point has one of them, or one with
-- no trap pushed; and where control goes from a place that has a position, there is one too.
pub record IsSearchedForPoints (m : Lin) (s : Search) (reached : ℕ) (nodes : List place.Place) : Type 0 where
  pub numbered : AreNumbered m
  pub grouped : AreGrouped s
  pub walked : (q : ℕ) (x : Position) → q < reached → slice_get (all_positions s) q ≡ Some x →
      Reached m (drop x.place m.code) x.tries
  pub complete : (rest : List Line) (tries : List ℕ) → Reached m rest tries →
      (q : ℕ) × (q < reached) × (slice_get (all_positions s) q ≡ Some (position (line_index m rest) tries))
  pub roots : (p : ℕ) → IsFramePoint m p →
      ((q : ℕ) × (slice_get (all_positions s) q ≡ Some (position p []))) ⊎ HasFirst s p reached
  pub len : length nodes ≡ length (all_positions s)
  pub are : ArePositionNodes m (m.slots + 32) (all_positions s) nodes

-- ---- frame points

-- a frame point with its number of traps, and its place of the graph
pub record IsPoint (m : Lin) (all : List Position) (point : Point) (node : place.Place) :
    Type 0 where
  pub frame : IsFramePoint m point.place
  pub tries : List ℕ
  pub pushed : Traps m (drop point.place m.code) tries
  pub traps : point.traps ≡ length tries
  pub after : IsNodeAfterPoint m (m.slots + 32) all point.place node

-- the frame points before place k, and the places of the graph
pub record ArePoints (m : Lin) (all : List Position) (nodes : List place.Place)
    (points : List Point) (k : ℕ) : Type 0 where
  pub len : length nodes ≡ length all + length points
  pub are : ArePositionNodes m (m.slots + 32) all nodes
  pub each : (j : ℕ) (point : Point) (node : place.Place) → slice_get points j ≡ Some point →
      slice_get nodes (length all + j) ≡ Some node → IsPoint m all point node
  pub every : (p : ℕ) → p < k → IsFramePoint m p →
      (j : ℕ) × (point : Point) × (slice_get points j ≡ Some point) × (point.place ≡ p)
  pub order : AllPairs (λ (a b : Point). a.place < b.place) points
  pub below : All (λ (a : Point). a.place < k) points
  pub count : length points + frame_point_count (drop k m.code) ≡ frame_point_count m.code
