-- The flow graph of a Linear function, in the shape in which liveness is solved.
--
-- Which traps are pushed at a place depends on the walk that comes there, and a raise goes to the
-- innermost of them. So the places of the graph are positions: places of the text together with
-- the pushed traps. Its numbers are those of locations, read as val; any write of one counts.
use Rattle.std.specs.Prelude.{◌≡◌, ◌↔◌, ℕ, suc, ◌-◌, ◌<◌, ◌≤◌, Bool, true, false, cond, nat_lt, List, [], ◌∷◌, Some, drop, length, map, slice_get, slice_index, slice_index_or, All, Contains}
use Rattle.bs_words.specs.Contents.{contents}
use Rattle.bs_words.specs.declared.types.Comp.{Comp}
use Rattle.bs_words.specs.declared.types.Comp.TheVariants as comp
use Rattle.bs_words.specs.declared.types.Loc.{Loc}
use Rattle.bs_words.specs.declared.types.Loc.TheVariants as loc
use Rattle.dataflow.specs.declared.flow.Flow as flow
use Rattle.dataflow.specs.declared.flow.Place as place
use Rattle.lin_ir.specs.Known.{Target, On, At}
use Rattle.lin_ir.specs.Meaning.{after_label}
use Rattle.lin_ir.specs.Walks.{targets, may_raise, tries_after, ReadsLocationAs, Writes, Reached, Traps}
use Rattle.lin_ir.specs.declared.lin.Spot.{Spot}
use Rattle.lin_ir.specs.declared.lin.Line.{Line}
use Rattle.lin_ir.specs.declared.lin.Lin.{Lin}
use Rattle.lin_laws.specs.declared.position.Position.{Position}

-- ---- numbers of locations

-- the location of a number: first the registers of the machine, and then the slots
abbrev pub location_of_number : ℕ → Loc
location_of_number n = cond (nat_lt n 32) (loc.Machine n) (loc.Slot (n - 32))

-- the location has a number, where there are so many slots
abbrev pub HasNumber : ℕ → Loc → Type 0
HasNumber slots loc.Unset = ⊥
HasNumber slots (loc.Machine r) = r < 32
HasNumber slots (loc.Slot k) = k < slots

abbrev pub HaveNumbers : ℕ → List Spot → Type 0
HaveNumbers slots spots = All (λ (s : Spot). HasNumber slots s.loc) spots

-- each location that the code names has a number
pub record AreNumbered (m : Lin) : Type 0 where
  pub args : All (λ (i : Line). HaveNumbers m.slots i.args) m.code
  pub results : All (λ (i : Line). HaveNumbers m.slots i.results) m.code

-- ---- positions

-- the number of the place from which this code is left
abbrev pub line_index : Lin → List Line → ℕ
line_index m rest = length m.code - length rest

-- where a line at this place goes on
abbrev pub place_at : Lin → ℕ → Target → ℕ
place_at m p On = suc p
place_at m p (At l) = line_index m (after_label l m.code)

abbrev pub position : ℕ → List ℕ → Position
position p tries = record { place = p; tries = tries }

abbrev pub steps_at : Lin → ℕ → List Line → List ℕ → List Position
steps_at m p [] tries = []
steps_at m p (i ∷ next) tries =
    map (λ t. position (place_at m p t) (tries_after i.op tries)) (targets i.op)

-- where a walk may go on from a position
abbrev pub steps : Lin → Position → List Position
steps m x = steps_at m x.place (drop x.place m.code) x.tries

abbrev pub landing : Lin → Bool → List ℕ → List Position
landing m false tries = []
landing m true [] = []
landing m true (h ∷ tries) = position (line_index m (after_label h m.code)) tries ∷ []

abbrev pub raises_at : Lin → List Line → List ℕ → List Position
raises_at m [] tries = []
raises_at m (i ∷ next) tries = landing m (may_raise i.op) tries

-- where a raise leads from a position
abbrev pub raise_steps : Lin → Position → List Position
raise_steps m x = raises_at m (drop x.place m.code) x.tries

-- ---- what lines read and write

abbrev pub ReadsAt : Loc → Comp → List Line → Type 0
ReadsAt l t [] = ⊥
ReadsAt l t (i ∷ next) = ReadsLocationAs l t i

abbrev pub WritesAt : Loc → List Line → Type 0
WritesAt l [] = ⊥
WritesAt l (i ∷ next) = Writes i l

-- ---- tables

-- these are the numbers of these positions among all, one for one
pub record AreNumbersOf (all : List Position) (ns : List ℕ) (ys : List Position) : Type 0 where
  pub len : length ns ≡ length ys
  pub each : (k : ℕ) (d : Position) → k < length ys →
      slice_get all (slice_index ns k) ≡ Some (slice_index_or ys k d)

-- exactly what is written at this code, and nothing from the bound on
pub record AreWritesAt (bound : ℕ) (rest : List Line) (ns : List ℕ) : Type 0 where
  pub within : All (λ n. n < bound) ns
  pub exact : (n : ℕ) → Contains ns n ↔ WritesAt (location_of_number n) rest

-- exactly what is read at this code as val
pub record AreReads (bound : ℕ) (rest : List Line) (ns : List ℕ) : Type 0 where
  pub within : All (λ n. n < bound) ns
  pub exact : (n : ℕ) → Contains ns n ↔ ReadsAt (location_of_number n) comp.Val rest

-- the place of the graph that is a position
pub record IsPositionNode (m : Lin) (bound : ℕ) (all : List Position) (x : Position)
    (node : place.Place) : Type 0 where
  pub next : AreNumbersOf all (contents node.next) (steps m x)
  pub aside : AreNumbersOf all (contents node.aside) (raise_steps m x)
  pub reads : AreReads bound (drop x.place m.code) (contents node.reads)
  pub writes : AreWritesAt bound (drop x.place m.code) (contents node.writes)

-- each place of the graph that has the number of a position is that position
abbrev pub ArePositionNodes : Lin → ℕ → List Position → List place.Place → Type 0
ArePositionNodes m bound all nodes =
    (q : ℕ) (x : Position) (node : place.Place) → slice_get all q ≡ Some x →
    slice_get nodes q ≡ Some node → IsPositionNode m bound all x node

-- The place of the graph before which is live what is live at this frame point: one that reads
-- nothing, and from which control goes where it goes from any position of the frame point.
pub record IsNodeAfterPoint (m : Lin) (bound : ℕ) (all : List Position) (p : ℕ) (node : place.Place) :
    Type 0 where
  pub reads : contents node.reads ≡ []
  pub writes : AreWritesAt bound (drop p m.code) (contents node.writes)
  pub next_is : (q : ℕ) → Contains (contents node.next) q →
      (tries : List ℕ) × Traps m (drop p m.code) tries × ((y : Position) ×
      Contains (steps m (position p tries)) y × (slice_get all q ≡ Some y))
  pub next_all : (tries : List ℕ) → Traps m (drop p m.code) tries → (y : Position) →
      Contains (steps m (position p tries)) y →
      (q : ℕ) × Contains (contents node.next) q × (slice_get all q ≡ Some y)
  pub aside_is : (q : ℕ) → Contains (contents node.aside) q →
      (tries : List ℕ) × Traps m (drop p m.code) tries × ((y : Position) ×
      Contains (raise_steps m (position p tries)) y × (slice_get all q ≡ Some y))
  pub aside_all : (tries : List ℕ) → Traps m (drop p m.code) tries → (y : Position) →
      Contains (raise_steps m (position p tries)) y →
      (q : ℕ) × Contains (contents node.aside) q × (slice_get all q ≡ Some y)

-- The positions have numbers, and each is a place of the graph of the same number.
pub record IsGraphOf (m : Lin) (all : List Position) (f : flow.Flow) : Type 0 where
  pub len : length all ≤ length (contents f.places)
  pub nodes : ArePositionNodes m f.bound all (contents f.places)

-- ---- which positions there are

-- exactly those that some walk from the entry comes to
pub record AreReached (m : Lin) (all : List Position) : Type 0 where
  pub sound : (q : ℕ) (x : Position) → slice_get all q ≡ Some x →
      Reached m (drop x.place m.code) x.tries
  pub complete : (rest : List Line) (tries : List ℕ) → Reached m rest tries →
      (q : ℕ) × (slice_get all q ≡ Some (position (line_index m rest) tries))
