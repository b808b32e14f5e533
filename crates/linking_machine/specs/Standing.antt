-- How the machine holds the state of the Linear program while an image runs.
use Rattle.std.specs.Prelude.{◌≡◌, ℕ, ◌+◌, ◌-◌, List}
use Rattle.bs_words.specs.Memory.{Memory}
use Rattle.bs_words.specs.declared.values.Value.{Value}
use Rattle.cmm_meaning.specs.State.{Doing}
use Rattle.correctness.specs.Setting.{AreWords}
use Rattle.image_form.specs.Tables.{Tables}
use Rattle.lin_ir.specs.Meaning.{State}
use Rattle.lin_ir.specs.declared.lin.Line.{Line}
use Rattle.moving_laws.specs.Values.{HasFunctions}
use Rattle.rv_machine.specs.Loading.{IsRoom}
use Rattle.rv_machine.specs.Places.{stack_bottom}
use Rattle.rv_machine.specs.Services.{Machine, Now, Going}
use Rattle.rv_machine.specs.Sound.{IsStackBase}
use Rattle.lin_machine.specs.Follows.{IsAt, IsDone, IsEntered}
use Rattle.lin_machine.specs.Relation.{Below, Laid}
use Rattle.lin_machine.specs.View.{Fixed, View, HasView}
use Rattle.linking.specs.Assembled.{Setup}
use Rattle.linking.specs.Carries.{Outer}

-- The run is at a view of which this holds; its answers that are left are words.
pub record Shows (s : Fixed) (o : Outer) (P : View → Type 0) (x : Now) : Type 0 where
  pub machine : Machine
  pub is : x ≡ Going machine
  pub view : View
  pub stands : HasView s machine view
  pub calls : view.calls ≡ o.made
  pub answers : view.answers ≡ o.answers
  pub words : AreWords o.answers
  pub holds : P view

module _ (image : Tables) (has : HasFunctions image)
    (bases : (stack : ℕ) → IsRoom stack → IsStackBase (stack_bottom - stack)) where
  -- what stays as it is during a run
  abbrev pub fixed_of : Setup → Fixed
  fixed_of run =
      record {
        image = image;
        schedule = run.schedule;
        result = run.row.result;
        base = stack_bottom - run.stack;
        heap = run.heap;
        functions = has;
        stack = bases run.stack run.stack_room;
        room = run.heap_room;
      }

  module _ (laid : ℕ → Laid) (entry : ℕ → ℕ) (live : ℕ → List Line → Type 0) where
    -- the function of a number is between two lines, on so many stack bytes
    abbrev pub At : Setup → Below → ℕ → ℕ → State → Outer → Now → Type 0
    At run c f below u o x =
        Shows (fixed_of run) o (IsAt (fixed_of run) (laid f) (live f) c u) x
        × (c.top + below ≡ stack_bottom)

    -- it is about to begin
    abbrev pub Entry : Setup → Below → ℕ → ℕ → List Value → Memory → Outer → Now → Type 0
    Entry run c f below arguments memory o x =
        Shows (fixed_of run) o (IsEntered (fixed_of run) entry f arguments memory c) x
        × (c.top + below ≡ stack_bottom)

    -- it has done so
    abbrev pub Back : Setup → Below → Doing → Outer → Now → Type 0
    Back run c d o x = Shows (fixed_of run) o (IsDone (fixed_of run) c d) x
