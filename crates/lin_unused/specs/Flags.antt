-- Which lines have no use, known by tests.
use Rattle.std.specs.Prelude.{◌≡◌, ℕ, suc, ◌-◌, ◌<◌, Bool, true, false, cond, List, [], ◌∷◌, drop, length, slice_index_or, IsTrue, IsFalse}
use Rattle.lin_ir.specs.Formed.{IsSelfMove, bare_flow}
use Rattle.lin_ir.specs.Meaning.{after_label}
use Rattle.lin_ir.specs.Walks.{StandsAsLine, Reached}
use Rattle.lin_ir.specs.declared.lin.Flow.TheVariants as flow
use Rattle.lin_ir.specs.declared.lin.Spot.{Spot}
use Rattle.lin_ir.specs.declared.lin.Line.{Line}
use Rattle.lin_ir.specs.declared.lin.Lin.{Lin}
use Rattle.lin_laws.specs.Graph.{location_of_number}
use Rattle.lin_laws.specs.Numbers.{number_of_location}
use Rattle.lin_flow.specs.Walked.{AreLive, IsReadAfter, IsWalked}
use Rattle.lin_flow.specs.declared.walks.Walks.{Walks}
use Rattle.lin_flow.specs.declared.live.LiveWalks.{LiveWalks}
use Rattle.lin_tidy_rules.specs.Leaving.{is_landing, IsUseless, LabelsBetween}
use Rattle.lin_tidy_rules.specs.Regular.{IsReadBehind}
use Rattle.lin_tidy_rules.specs.Tidied.{IsUseful}
use Rattle.lin_unused.specs.Forms.{IsNoSelfMove}

-- the line jumps to where control comes without it
pub record IsSkipped (m : Lin) (i : Line) (next : List Line) : Type 0 where
  pub label : ℕ
  pub is : i ≡ bare_flow (flow.Jump label)
  pub between : LabelsBetween next (after_label label m.code)

-- whether the line at the place does
pub record TellsSkipped (m : Lin) (p : ℕ) (skipped : Bool) : Type 0 where
  pub yes : IsTrue skipped → (i : Line) (next : List Line) → drop p m.code ≡ i ∷ next →
      IsSkipped m i next
  pub no : IsFalse skipped → (i : Line) (next : List Line) → drop p m.code ≡ i ∷ next →
      IsSkipped m i next → ⊥

-- so many positions are those to which walks come
pub record IsSearched (m : Lin) (w : Walks) (reached : ℕ) : Type 0 where
  pub walked : IsWalked m w.search w.nodes.items
  pub count : reached ≡ length w.nodes.items

-- walks come to each line, but to labels and entries of handlers they need not
pub record AllReached (m : Lin) : Type 0 where
  pub each : (i : Line) (next : List Line) → StandsAsLine i next m.code → is_landing i.op ≡ false →
      (tries : List ℕ) × Reached m (i ∷ next) tries

-- each move of a location to itself is read after
pub record AreRead (m : Lin) : Type 0 where
  pub each : (i : Line) (next : List Line) → StandsAsLine i next m.code → (from to : Spot) →
      IsSelfMove i from to → IsReadBehind m i next to

-- no line whose flag is set moves a location to itself
pub record NoMoveGoes (flags : List Bool) (code : List Line) : Type 0 where
  pub each : (p : ℕ) (i : Line) (next : List Line) → drop p code ≡ i ∷ next →
      IsTrue (slice_index_or flags p false) → IsNoSelfMove i

-- Why a line to which walks come has no use, by what is live after it in a function.
pub data IsIdle (m v : Lin) (p : ℕ) (i : Line) (next : List Line) : Type 0 where
  not_read : {from to : Spot} → IsSelfMove i from to →
      (IsReadAfter v p (location_of_number (number_of_location to.loc)) → ⊥) → IsIdle m v p i next
  not_needed : {l : ℕ} → i ≡ bare_flow (flow.Jump l) → LabelsBetween next (after_label l m.code) →
      IsIdle m v p i next

-- and what it is for
pub record IsBusy (m v : Lin) (p : ℕ) (i : Line) (next : List Line) : Type 0 where
  pub read : (from to : Spot) → IsSelfMove i from to → IsReadAfter v p (location_of_number (number_of_location to.loc))
  pub jumps : (l : ℕ) → i ≡ bare_flow (flow.Jump l) → LabelsBetween next (after_label l m.code) → ⊥

-- whether the line at the place is idle, by what is live after it in any function of these walks
pub record TellsIdle (m : Lin) (walks : LiveWalks) (p : ℕ) (idle : Bool) : Type 0 where
  pub yes : IsTrue idle → (v : Lin) → AreLive v walks → (i : Line) (next : List Line) →
      drop p m.code ≡ i ∷ next → IsIdle m v p i next
  pub no : IsFalse idle → (v : Lin) → AreLive v walks → (i : Line) (next : List Line) →
      drop p m.code ≡ i ∷ next → IsBusy m v p i next

-- whether the line at the place has no use
pub record TellsUse (m : Lin) (p : ℕ) (useless : Bool) : Type 0 where
  pub yes : IsTrue useless → (i : Line) (next : List Line) → drop p m.code ≡ i ∷ next →
      IsUseless m i next
  pub no : IsFalse useless → (i : Line) (next : List Line) → drop p m.code ≡ i ∷ next →
      IsUseful m i next

-- for each line
pub record AreUseFlags (m : Lin) (flags : List Bool) : Type 0 where
  pub len : length flags ≡ length m.code
  pub each : (p : ℕ) → p < length m.code → TellsUse m p (slice_index_or flags p false)

-- by the number of lines after it, whether a line goes
abbrev pub is_flagged_unused : List Bool → ℕ → Bool
is_flagged_unused flags n = slice_index_or flags (length flags - suc n) false

-- the lines whose flags are not set
abbrev pub unflagged_lines : List Bool → List Line → List Line
unflagged_lines [] code = code
unflagged_lines flags [] = []
unflagged_lines (true ∷ flags) (i ∷ next) = unflagged_lines flags next
unflagged_lines (false ∷ flags) (i ∷ next) = i ∷ unflagged_lines flags next

-- a line, unless it goes
abbrev pub unless_gone : Bool → Line → List Line
unless_gone goes i = cond goes [] (i ∷ [])
