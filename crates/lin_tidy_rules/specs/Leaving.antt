-- Lines that a Linear function does without.
--
-- Labels and entries of handlers stay, reached or not: labels are no instructions.
use Rattle.std.specs.Prelude.{◌≡◌, ℕ, Bool, true, false, cond, List, [], ◌∷◌, length}
use Rattle.bs_words.specs.declared.types.Comp.{Comp}
use Rattle.lin_ir.specs.Formed.{IsSelfMove, bare_flow}
use Rattle.lin_ir.specs.Meaning.{after_label}
use Rattle.lin_ir.specs.Walks.{StandsAsLine, Reached, Live}
use Rattle.lin_ir.specs.declared.lin.Spot.{Spot}
use Rattle.lin_ir.specs.declared.lin.Flow.TheVariants as flow
use Rattle.lin_ir.specs.declared.lin.LinOp.{LinOp}
use Rattle.lin_ir.specs.declared.lin.LinOp.TheVariants as lin
use Rattle.lin_ir.specs.declared.lin.Line.{Line}
use Rattle.lin_ir.specs.declared.lin.Lin.{Lin}

-- A label, or the entry of a handler. These stay: a label has no instruction, and other lines may
-- name it; a pushed trap is one whose label has its entry right after.
abbrev pub is_landing : LinOp → Bool
is_landing (lin.Flow (flow.Label l)) = true
is_landing (lin.Flow flow.EnterTrap) = true
is_landing _ = false

-- only labels are between the first code and the second, in which it ends
pub data LabelsBetween : List Line → List Line → Type 0 where
  none_between : {to : List Line} → LabelsBetween to to
  label_between : {l : ℕ} {next to : List Line} → LabelsBetween next to →
      LabelsBetween (bare_flow (flow.Label l) ∷ next) to

-- why a line, before this code, has no use
pub data IsUseless (m : Lin) (i : Line) (next : List Line) : Type 0 where
  -- no walk comes to it
  unreached : is_landing i.op ≡ false → ((tries : List ℕ) → Reached m (i ∷ next) tries → ⊥) →
      IsUseless m i next
  -- it moves a location to itself, which no walk reads from there on before writing it
  unread : {from to : Spot} → IsSelfMove i from to →
      ((tries : List ℕ) → Reached m (i ∷ next) tries → (t : Comp) →
      Live m to.loc t next tries → ⊥) →
      IsUseless m i next
  -- it jumps to where control comes without it
  skipped : {l : ℕ} → i ≡ bare_flow (flow.Jump l) → LabelsBetween next (after_label l m.code) →
      IsUseless m i next

-- the lines without those at these places, by the number of lines after each
abbrev pub without_lines : (ℕ → Bool) → List Line → List Line
without_lines goes [] = []
without_lines goes (i ∷ next) = cond (goes (length next)) (without_lines goes next) (i ∷ without_lines goes next)

abbrev pub with_code : Lin → List Line → Lin
with_code m code = record m { code = code }

-- the second function is the first without some lines that have no use
pub record LeavesOut (m r : Lin) : Type 0 where
  pub goes : ℕ → Bool
  pub is : r ≡ with_code m (without_lines goes m.code)
  pub each : (i : Line) (next : List Line) → StandsAsLine i next m.code →
      goes (length next) ≡ true → IsUseless m i next

-- lines that have no use are left out as often as one likes
pub data LeavesOften (m : Lin) : Lin → Type 0 where
  not_once : LeavesOften m m
  once_more : {q r : Lin} → LeavesOften m q → LeavesOut q r → LeavesOften m r
