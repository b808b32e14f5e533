-- What each change of the lines keeps, and what holds when all are done.
use Rattle.std.specs.Prelude.{◌≡◌, ◌≢◌, ℕ, false, List, ◌∷◌, All, Contains}
use Rattle.bs_words.specs.declared.types.Comp.{Comp}
use Rattle.lin_ir.specs.Formed.{IsHome, IsSelfMove, Seated, GoesDown, WellFormed, bare_flow}
use Rattle.lin_ir.specs.Meaning.{after_label}
use Rattle.lin_ir.specs.Walks.{StandsAsLine, Reached, Live}
use Rattle.lin_ir.specs.declared.lin.Flow.TheVariants as flow
use Rattle.lin_ir.specs.declared.lin.Spot.{Spot}
use Rattle.lin_ir.specs.declared.lin.Line.{Line}
use Rattle.lin_ir.specs.declared.lin.Lin.{Lin}
use Rattle.linearise_rules.specs.Keeps.{OneTraps}
use Rattle.lin_tidy_rules.specs.Leaving.{is_landing, LabelsBetween}

abbrev pub AtHomes : Lin → List Spot → Type 0
AtHomes m spots = All (λ (s : Spot). IsHome m s.loc) spots

pub record IsRegular (m : Lin) : Type 0 where
  pub well : WellFormed m
  -- every location is a colour or a slot: t0 does not occur
  pub homes : All (λ (i : Line). AtHomes m i.args × AtHomes m i.results) m.code
  pub traps : OneTraps m
  pub down : GoesDown m
  pub seated : Seated m
  -- a move of a location to itself changes the component
  pub changes : (i : Line) → Contains m.code i → (from to : Spot) → IsSelfMove i from to →
      from.comp ≢ to.comp

-- some walk comes to a line and goes on to a read of the location that it wrote
pub record IsReadBehind (m : Lin) (i : Line) (next : List Line) (to : Spot) : Type 0 where
  pub tries : List ℕ
  pub reached : Reached m (i ∷ next) tries
  pub type : Comp
  pub live : Live m to.loc type next tries

-- No line is left that has no use.
pub record IsTidy (m : Lin) : Type 0 where
  pub reached : (i : Line) (next : List Line) → StandsAsLine i next m.code → is_landing i.op ≡ false →
      (tries : List ℕ) × Reached m (i ∷ next) tries
  pub read : (i : Line) (next : List Line) → StandsAsLine i next m.code → (from to : Spot) →
      IsSelfMove i from to → IsReadBehind m i next to
  -- no jump leads to where control comes without it
  pub jumps : (l : ℕ) (next : List Line) → StandsAsLine (bare_flow (flow.Jump l)) next m.code →
      LabelsBetween next (after_label l m.code) → ⊥
