-- Walks of a Linear function, with the traps that are pushed, and what is live.
use Rattle.std.specs.Prelude.{◌≡◌, ◌⊎◌, ℕ, Bool, true, false, List, [], ◌∷◌, map, length, Contains}
use Rattle.bs_words.specs.declared.types.Comp.{Comp}
use Rattle.bs_words.specs.declared.types.Loc.{Loc}
use Rattle.mach_ir.specs.Acts.{Target, On, At, drop_tries}
use Rattle.mach_ir.specs.Acts as acts
use Rattle.mach_ir.specs.Meaning.{is_destroyed}
use Rattle.mach_ir.specs.Walks.{OneOf, next_if}
use Rattle.lin_ir.specs.Meaning.{destroyed_by, code_at, after_label}
use Rattle.lin_ir.specs.declared.lin.Flow.TheVariants as flow
use Rattle.lin_ir.specs.declared.lin.LinOp.{LinOp}
use Rattle.lin_ir.specs.declared.lin.LinOp.TheVariants as lin
use Rattle.lin_ir.specs.declared.lin.Line.{Line}
use Rattle.lin_ir.specs.declared.lin.Lin.{Lin}

-- ---- where control may go, conditions ignored

abbrev pub targets : LinOp → List Target
targets (lin.Op f) = next_if (acts.falls_through f)
targets (lin.Flow (flow.Label l)) = On ∷ []
targets (lin.Flow (flow.Jump l)) = At l ∷ []
targets (lin.Flow (flow.Exit l)) = At l ∷ []
targets (lin.Flow (flow.Branch test l)) = On ∷ At l ∷ []
targets (lin.Flow (flow.Switch labels)) = map At labels
targets (lin.Flow (flow.PushTrap l)) = On ∷ []
targets (lin.Flow flow.PopTrap) = On ∷ []
targets (lin.Flow flow.EnterTrap) = On ∷ []

abbrev pub may_raise : LinOp → Bool
may_raise (lin.Op f) = acts.may_raise f
may_raise (lin.Flow f) = false

-- what leaves the function: returns and tail calls
abbrev pub leaves : LinOp → Bool
leaves (lin.Op f) = acts.leaves_function f
leaves (lin.Flow f) = false

-- the traps that are pushed where a line goes on
abbrev pub tries_after : LinOp → List ℕ → List ℕ
tries_after (lin.Flow (flow.PushTrap l)) tries = l ∷ tries
tries_after (lin.Flow flow.PopTrap) tries = drop_tries 1 tries
tries_after _ tries = tries

-- A step of a walk from a line, before this code and with these traps pushed, to the code where it
-- goes on, and the traps there.
pub data LineWalkStep (m : Lin) (i : Line) (next : List Line) (tries : List ℕ) : List Line → List ℕ →
    Type 0 where
  goes : (t : Target) → OneOf t (targets i.op) →
      LineWalkStep m i next tries (code_at m.code next t) (tries_after i.op tries)

-- a raise edge, to the handler of the innermost trap, which it pops
pub data Raises (m : Lin) (i : Line) : List ℕ → List Line → List ℕ → Type 0 where
  raises : {h : ℕ} {tries : List ℕ} → may_raise i.op ≡ true →
      Raises m i (h ∷ tries) (after_label h m.code) tries

-- the code from a place on, and the traps with which some walk from the entry reaches it
pub data Reached (m : Lin) : List Line → List ℕ → Type 0 where
  at_entry : Reached m m.code []
  by_step : {i : Line} {next to : List Line} {tries left : List ℕ} → Reached m (i ∷ next) tries →
      LineWalkStep m i next tries to left → Reached m to left
  by_raise : {i : Line} {next to : List Line} {tries left : List ℕ} → Reached m (i ∷ next) tries →
      Raises m i tries to left → Reached m to left

-- ---- what is live

-- the location is read with this component
abbrev pub ReadsLocationAs : Loc → Comp → Line → Type 0
ReadsLocationAs l t i = Contains i.args (record { loc = l; comp = t })

-- Results are written. So are the registers that the operation destroys: every one at the return
-- from a call and at the entry of a handler, a0 to a7 and t3 to t6 at that from an external call.
abbrev pub Writes : Line → Loc → Type 0
Writes i l =
    ((t : Comp) × Contains i.results (record { loc = l; comp = t })) ⊎
    (is_destroyed (destroyed_by i.op) l ≡ true)

-- Some walk from this code on reads the location with this component before it writes it.
pub data Live (m : Lin) (l : Loc) (t : Comp) : List Line → List ℕ → Type 0 where
  read : {i : Line} {next : List Line} {tries : List ℕ} → ReadsLocationAs l t i →
      Live m l t (i ∷ next) tries
  on : {i : Line} {next to : List Line} {tries left : List ℕ} → (Writes i l → ⊥) →
      LineWalkStep m i next tries to left →
      Live m l t to left → Live m l t (i ∷ next) tries
  aside : {i : Line} {next to : List Line} {tries left : List ℕ} → Raises m i tries to left →
      Live m l t to left →
      Live m l t (i ∷ next) tries

-- Live after a line that does not write it, from its return address, or from the entry of its
-- innermost handler.
pub data LiveAcross (m : Lin) (l : Loc) (t : Comp) (i : Line) (next : List Line)
    (tries : List ℕ) : Type 0 where
  across_step : {to : List Line} {left : List ℕ} → (Writes i l → ⊥) → LineWalkStep m i next tries to left →
      Live m l t to left → LiveAcross m l t i next tries
  across_raise : {to : List Line} {left : List ℕ} → Raises m i tries to left → Live m l t to left →
      LiveAcross m l t i next tries

-- live where a line goes on
pub data LiveAfter (m : Lin) (l : Loc) (t : Comp) (i : Line) (next : List Line)
    (tries : List ℕ) : Type 0 where
  after_step : {to : List Line} {left : List ℕ} → LineWalkStep m i next tries to left →
      Live m l t to left →
      LiveAfter m l t i next tries

-- ---- pushed traps

-- a line of this code, and the code after it
pub data StandsAsLine (i : Line) (next : List Line) : List Line → Type 0 where
  here : StandsAsLine i next (i ∷ next)
  below : {j : Line} {is : List Line} → StandsAsLine i next is → StandsAsLine i next (j ∷ is)

-- the traps that are pushed at a place: those of a walk, or none where no walk reaches it
pub data Traps (m : Lin) (code : List Line) : List ℕ → Type 0 where
  by_walk : {tries : List ℕ} → Reached m code tries → Traps m code tries
  unreached : ((tries : List ℕ) → Reached m code tries → ⊥) → Traps m code []

-- Each place has one number of pushed traps, with which every walk reaches it.
pub record OneDepth (m : Lin) : Type 0 where
  pub one : (code : List Line) (tries others : List ℕ) → Traps m code tries → Traps m code others →
      length tries ≡ length others

-- None is popped where there is none, and a function is left with no trap pushed.
pub record TrapsBalance (m : Lin) : Type 0 where
  pub depth : OneDepth m
  pub pops : (i : Line) (next : List Line) (tries : List ℕ) → Reached m (i ∷ next) tries →
      i.op ≡ lin.Flow flow.PopTrap → (length tries ≡ 0) → ⊥
  pub leaves : (i : Line) (next : List Line) (tries : List ℕ) → Reached m (i ∷ next) tries →
      leaves i.op ≡ true → tries ≡ []

-- So many traps are pushed before each line to which a walk comes, by the number of lines after it.
pub record ArePushed (m : Lin) (traps : ℕ → ℕ) : Type 0 where
  pub pushed : (i : Line) (next : List Line) → StandsAsLine i next m.code → (tries : List ℕ) →
      Reached m (i ∷ next) tries → traps (length next) ≡ length tries

-- a location is live after a frame point with this component
pub record LiveAt (m : Lin) (l : Loc) (t : Comp) (i : Line) (next : List Line) : Type 0 where
  pub tries : List ℕ
  pub traps : Traps m (i ∷ next) tries
  pub across : LiveAcross m l t i next tries
