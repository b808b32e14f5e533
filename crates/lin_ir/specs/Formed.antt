-- What holds of every Linear function that the back end takes, whatever it does.
--
-- The handler of a trap is a label with the entering of the trap right after it.
use Rattle.std.specs.Prelude.{◌≡◌, ◌≢◌, ◌⊎◌, ℕ, suc, ◌<◌, ◌≤◌, Bool, true, false, List, [], ◌∷◌, ◌++◌, length, map, All, AllPairs, Contains}
use Rattle.bs_words.specs.declared.types.Comp.{Comp}
use Rattle.bs_words.specs.declared.types.Comp.TheVariants as comp
use Rattle.bs_words.specs.declared.types.Loc.{Loc}
use Rattle.bs_words.specs.declared.types.Loc.TheVariants as loc
use Rattle.rv_isa.specs.Registers.{t0}
use Rattle.mach_ir.specs.Acts.{At}
use Rattle.mach_ir.specs.Forms.{HasForm, IsTested, results_of_type}
use Rattle.mach_ir.specs.Placed.{colour_numbers}
use Rattle.mach_ir.specs.Seats.{Seats, Anywhere, InOrder, AreSeated, argument_locations, result_locations, operand_seats, result_seats}
use Rattle.mach_ir.specs.Walks.{OneOf}
use Rattle.mach_ir.specs.declared.op.CopyKind.{CopyKind}
use Rattle.mach_ir.specs.declared.op.Pure.TheVariants as pure
use Rattle.mach_ir.specs.declared.op.Access.TheVariants as access
use Rattle.mach_ir.specs.declared.op.Leaving.TheVariants as leaving
use Rattle.mach_ir.specs.declared.op.Op.{Op}
use Rattle.mach_ir.specs.declared.op.Op.TheVariants as op
use Rattle.mach_ir.specs.declared.mach.Test.{Test}
use Rattle.lin_ir.specs.Walks.{targets, LineWalkStep, Raises, Live, LiveAfter, StandsAsLine, Reached, Traps, TrapsBalance}
use Rattle.lin_ir.specs.declared.lin.Spot.{Spot}
use Rattle.lin_ir.specs.declared.lin.Flow.{Flow}
use Rattle.lin_ir.specs.declared.lin.Flow.TheVariants as flow
use Rattle.lin_ir.specs.declared.lin.LinOp.{LinOp}
use Rattle.lin_ir.specs.declared.lin.LinOp.TheVariants as lin
use Rattle.lin_ir.specs.declared.lin.Line.{Line}
use Rattle.lin_ir.specs.declared.lin.Lin.{Lin}

-- ---- forms of lines

abbrev pub comps : List Spot → List Comp
comps spots = map (λ (s : Spot). s.comp) spots

-- a line of control with no operands
abbrev pub bare_flow : Flow → Line
bare_flow f = record { op = lin.Flow f; args = []; results = [] }

-- the components of the operands and of the results that go with a line that is Linear's own
pub data FlowHasForm : Flow → List Comp → List Comp → Type 0 where
  label_form : {l : ℕ} → FlowHasForm (flow.Label l) [] []
  jump_form : {l : ℕ} → FlowHasForm (flow.Jump l) [] []
  exit_form : {l : ℕ} → FlowHasForm (flow.Exit l) [] []
  branch_form : {t : Test} {l : ℕ} {args : List Comp} → IsTested t args →
      FlowHasForm (flow.Branch t l) args []
  switch_form : {labels : List ℕ} {index : Comp} →
      FlowHasForm (flow.Switch labels) (index ∷ []) []
  push_form : {l : ℕ} → FlowHasForm (flow.PushTrap l) [] []
  pop_form : FlowHasForm flow.PopTrap [] []
  enter_form : FlowHasForm flow.EnterTrap [] (comp.Val ∷ [])

pub data IsFormedLine : Line → Type 0 where
  formed_op : {f : Op} {args results : List Spot} → HasForm f (comps args) (comps results) →
      IsFormedLine (record { op = lin.Op f; args = args; results = results })
  formed_flow : {f : Flow} {args results : List Spot} →
      FlowHasForm f (comps args) (comps results) →
      IsFormedLine (record { op = lin.Flow f; args = args; results = results })

-- ---- moves from a location to itself

-- they emit nothing
pub data IsSelfMove : Line → Spot → Spot → Type 0 where
  is_self_move : {kind : CopyKind} {from to : Spot} → from.loc ≡ to.loc →
      IsSelfMove
      (record { op = lin.Op (op.Pure (pure.Copy kind)); args = from ∷ []; results = to ∷ [] })
      from to

-- what such a move must be for: it changes the type, and its target is read later before it is
-- written
pub record IsForType (m : Lin) (i : Line) (next : List Line) (from to : Spot) : Type 0 where
  pub changes : from.comp ≢ to.comp
  pub type : Comp
  pub tries : List ℕ
  pub traps : Traps m (i ∷ next) tries
  pub read : LiveAfter m to.loc type i next tries

-- A function is tight where each move from a location to itself is for a type.
pub record IsTight (m : Lin) : Type 0 where
  pub tight : (i : Line) (next : List Line) → StandsAsLine i next m.code → (from to : Spot) →
      IsSelfMove i from to → IsForType m i next from to

-- ---- locations

-- t0, the one scratch register that code may name
abbrev pub spare : Loc
spare = loc.Machine t0

-- a colour, or one of the function's slots
pub data IsHome (m : Lin) : Loc → Type 0 where
  is_colour : {n : ℕ} → Contains colour_numbers n → IsHome m (loc.Machine n)
  is_slot : {k : ℕ} → k < m.slots → IsHome m (loc.Slot k)

-- or t0
pub data IsLocation (m : Lin) (l : Loc) : Type 0 where
  is_home : IsHome m l → IsLocation m l
  is_spare : l ≡ spare → IsLocation m l

abbrev pub Locates : Lin → List Spot → Type 0
Locates m spots = All (λ (s : Spot). IsLocation m s.loc) spots

-- each location that the code names
abbrev pub AreLocated : Lin → Type 0
AreLocated m = All (λ (i : Line). Locates m i.args × Locates m i.results) m.code

-- what may be between a write of t0 and its read: what reads registers alone, loads and stores
pub data IsQuiet : LinOp → Type 0 where
  quiet_pure : {f : _} → IsQuiet (lin.Op (op.Pure f))
  quiet_load : {k : _} {offset : ℕ} → IsQuiet (lin.Op (op.Access (access.Load k offset)))
  quiet_store : {k : _} {offset : ℕ} → IsQuiet (lin.Op (op.Access (access.Store k offset)))

pub data IsCopy : LinOp → Type 0 where
  is_copy : {kind : CopyKind} → IsCopy (lin.Op (op.Pure (pure.Copy kind)))

-- the line has the location as a result
abbrev pub SetsLocation : Line → Loc → Type 0
SetsLocation i l = (t : Comp) × Contains i.results (record { loc = l; comp = t })

-- T0 is in moves, spills and reloads alone, and each walk that reads it has written it before,
-- with only quiet lines between.
pub record SpareIsPassing (m : Lin) : Type 0 where
  pub copies : (i : Line) → Contains m.code i → (t : Comp) →
      Contains (i.args ++ i.results) (record { loc = spare; comp = t }) → IsCopy i.op
  pub entry : (t : Comp) → Live m spare t m.code [] → ⊥
  pub written : (i : Line) (next : List Line) (tries : List ℕ) → StandsAsLine i next m.code →
      Traps m (i ∷ next) tries → (t : Comp) → LiveAfter m spare t i next tries →
      SetsLocation i spare ⊎ IsQuiet i.op

-- ---- seats

abbrev pub places_of : List Spot → List Loc
places_of spots = map (λ (s : Spot). s.loc) spots

abbrev pub lin_operand_seats : LinOp → Seats
lin_operand_seats (lin.Op f) = operand_seats f
lin_operand_seats (lin.Flow f) = Anywhere

-- a handler takes the raised value from where a result is
abbrev pub lin_result_seats : LinOp → Seats
lin_result_seats (lin.Op f) = result_seats f
lin_result_seats (lin.Flow flow.EnterTrap) = InOrder result_locations
lin_result_seats (lin.Flow _) = Anywhere

-- Parameters, and operands and results that the conventions put at fixed places, are there.
pub record Seated (m : Lin) : Type 0 where
  pub params : AreSeated (InOrder argument_locations) (places_of m.params)
  pub operands : (i : Line) → Contains m.code i →
      AreSeated (lin_operand_seats i.op) (places_of i.args)
  pub results : (i : Line) → Contains m.code i →
      AreSeated (lin_result_seats i.op) (places_of i.results)

-- ---- labels

abbrev pub label_of : LinOp → List ℕ
label_of (lin.Flow (flow.Label l)) = l ∷ []
label_of _ = []

abbrev pub labels_in : List Line → List ℕ
labels_in [] = []
labels_in (i ∷ is) = label_of i.op ++ labels_in is

-- a label that a line names
pub data NamesLabel (l : ℕ) (f : LinOp) : Type 0 where
  goes_to : OneOf (At l) (targets f) → NamesLabel l f
  pushes : f ≡ lin.Flow (flow.PushTrap l) → NamesLabel l f

-- right after the label of a handler comes its entry
pub data EntersAt (l : ℕ) : List Line → Type 0 where
  enters_here : {i j : Line} {is : List Line} → i.op ≡ lin.Flow (flow.Label l) →
      j.op ≡ lin.Flow flow.EnterTrap → EntersAt l (i ∷ j ∷ is)
  enters_below : {i : Line} {is : List Line} → EntersAt l is → EntersAt l (i ∷ is)

abbrev pub is_exit : LinOp → Bool
is_exit (lin.Flow (flow.Exit l)) = true
is_exit _ = false

abbrev pub is_label : LinOp → Bool
is_label (lin.Flow (flow.Label l)) = true
is_label _ = false

-- A number for each place, by the lines that are left, which each step of a walk lowers that is no
-- exit; a label, which has no instruction, need only not raise it. So control comes back to a place
-- only by an exit, which is a unit.
-- The place in the text would not do, since tests at loops' ends lead back. That labels need not lower it
-- lets a jump over labels go without ordering those anew.
pub record GoesDown (m : Lin) : Type 0 where
  pub order : ℕ → ℕ
  pub labels : (i : Line) (next : List Line) (tries : List ℕ) → Reached m (i ∷ next) tries →
      is_label i.op ≡ true → order (length next) ≤ order (suc (length next))
  pub steps : (i : Line) (next to : List Line) (tries left : List ℕ) → Reached m (i ∷ next) tries →
      is_exit i.op ≡ false → is_label i.op ≡ false → LineWalkStep m i next tries to left →
      order (length to) < order (suc (length next))
  pub raises : (i : Line) (next to : List Line) (tries left : List ℕ) → Reached m (i ∷ next) tries →
      Raises m i tries to left → order (length to) < order (suc (length next))

-- ---- whole

pub record WellFormed (m : Lin) : Type 0 where
  pub forms : All IsFormedLine m.code
  -- a return gives what the function is written with
  pub returns : (i : Line) → Contains m.code i → i.op ≡ lin.Op (op.Leaving leaving.Return) →
      comps i.args ≡ results_of_type m.result
  pub params : All (λ (s : Spot). IsHome m s.loc) m.params
  pub locations : AreLocated m
  pub spare : SpareIsPassing m
  -- each label occurs once, and those that are named do
  pub labels : AllPairs (λ k l. k ≢ l) (labels_in m.code)
  pub named : (i : Line) → Contains m.code i → (l : ℕ) → NamesLabel l i.op →
      Contains (labels_in m.code) l
  pub handlers : (i : Line) → Contains m.code i → (l : ℕ) →
      i.op ≡ lin.Flow (flow.PushTrap l) → EntersAt l m.code
  -- each place is reached with one number of pushed traps; none is popped where none is, and none is left at the end
  pub traps : TrapsBalance m
