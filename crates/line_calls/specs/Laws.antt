-- What is proved of lines and of entries, whatever is said to be the code in which t0 is live.
use Rattle.std.specs.Prelude.{◌≡◌, ℕ, suc, ◌+◌, ◌*◌, ◌≤◌, List, ◌∷◌, length, Option, Some}
use Rattle.bs_words.specs.Memory.{Memory}
use Rattle.bs_words.specs.declared.values.Value.{Value}
use Rattle.rv_emit_rules.specs.Entry.{FrameLayout, entry_pieces}
use Rattle.rv_layout_rules.specs.Words.{NameAddresses}
use Rattle.lin_ir.specs.Formed.{places_of}
use Rattle.lin_ir.specs.Meaning.{Locations, NamedAt, State, linear_start, step}
use Rattle.lin_ir.specs.declared.descr.Descr.{Descr}
use Rattle.lin_ir.specs.declared.lin.Lin.{Lin}
use Rattle.lin_ir.specs.declared.lin.Line.{Line}
use Rattle.mach_ir.specs.Acts.{Around}
use Rattle.mach_ir.specs.Runs.{ActivationSetting}
use Rattle.mach_ir.specs.Seats.{AreSeated, InOrder, argument_locations}
use Rattle.lin_machine.specs.Arrival.{ArrivesIn}
use Rattle.lin_machine.specs.Follows.{IsAt, IsEntered, needs_of}
use Rattle.lin_machine.specs.Relation.{Below, Laid}
use Rattle.lin_machine.specs.View.{Fixed, View}
use Rattle.line_stands.specs.Lines.{LineStands}
use Rattle.line_stands.specs.Parts.{PartStands}
use Rattle.line_calls.specs.Calls.{FollowsSo}
use Rattle.line_calls.specs.Points.{IsReadyFor, IsTurn, PointStands, before_service}

-- the frame of a function that is laid so
abbrev pub frame_in : Laid → FrameLayout
frame_in laid = record { bytes = laid.frame; saves = laid.saves }

-- A line of one of these kinds, whose part is in the image from its place on, is followed in at
-- most as many instructions as the part has words, the service of an external call not counted. Its
-- calls are below what it has in use.
abbrev pub LineFollows : (List Line → Type 0) → Type 0
LineFollows live =
    (s : Fixed) (n : NameAddresses) (laid : Laid) (entries : ℕ → ℕ) (c : Below) (place : ActivationSetting)
    (named : NamedAt) (m : Lin) (f : FrameLayout) (d : Option Descr) (i : Line) (next : List Line)
    (v : View) (file : Locations) (a : Around) (words : ℕ) → IsTurn i.op →
    (lines : LineStands s laid n m place.setting live a.tries f d i next) →
    PointStands s laid m place.setting named entries (length a.tries) f d i next
    lines.part.forms →
    IsReadyFor i a → laid.part (length next) ≡ laid.part (suc (length next)) + words →
    IsAt s laid live c (record { rest = i ∷ next; file = file; around = a }) v →
    FollowsSo (before_service i.op words) s laid live entries c v (laid.frame + 16 * length a.tries)
    (step place named m (record { rest = i ∷ next; file = file; around = a }))

-- Every line is followed so, of whatever kind it is.
abbrev pub EveryLineFollows : (List Line → Type 0) → Type 0
EveryLineFollows live =
    (s : Fixed) (n : NameAddresses) (laid : Laid) (entries : ℕ → ℕ) (c : Below) (place : ActivationSetting)
    (named : NamedAt) (m : Lin) (f : FrameLayout) (d : Option Descr) (i : Line) (next : List Line)
    (v : View) (file : Locations) (a : Around) (words : ℕ) →
    (lines : LineStands s laid n m place.setting live a.tries f d i next) →
    (IsTurn i.op →
    PointStands s laid m place.setting named entries (length a.tries) f d i next
    lines.part.forms) →
    IsReadyFor i a →
    laid.part (length next) ≡ laid.part (suc (length next)) + words →
    IsAt s laid live c (record { rest = i ∷ next; file = file; around = a }) v →
    FollowsSo (before_service i.op words) s laid live entries c v
    (laid.frame + 16 * length a.tries)
    (step place named m (record { rest = i ∷ next; file = file; around = a }))

-- Where a function is entered whose entry is in the image, it comes to its first line with its
-- arguments in its parameters, or the stack is passed.
abbrev pub EntryFollows : (List Line → Type 0) → Type 0
EntryFollows live =
    (s : Fixed) (n : NameAddresses) (laid : Laid) (entries : ℕ → ℕ) (k : ℕ) (c : Below) (place : ActivationSetting)
    (m : Lin) (v : View) (arguments : List Value) (memory : Memory) (words : ℕ) →
    laid.frame ≤ 1048576 →
    PartStands s n (entries k) (entries k + words) (entry_pieces (frame_in laid)) →
    laid.part (length m.code) ≡ entries k + words →
    AreSeated (InOrder argument_locations) (places_of m.params) →
    IsEntered s entries k arguments memory c v → (u : State) →
    linear_start place m arguments memory ≡ Some u →
    ArrivesIn 0 words s (needs_of laid c u) v (IsAt s laid live c u)
