-- What the values of the code stand for.
use Rattle.std.specs.Prelude.{List, [], map, reverse}
use Rattle.bs_words.specs.Contents.{contents}
use Rattle.bs_words.specs.Observed.{Made}
use Rattle.bs_words.specs.declared.values.Call.{Call}
use Rattle.cmm_meaning.specs.State.{World, Here, Binding}
use Rattle.cmm_meaning.specs.Layout as meaning
use Rattle.cmm_meaning.specs.Evaluation.{OutOfFuel, NotProper, NoAnswer}
use Rattle.cmm_meaning.specs.Evaluation as evaluation
use Rattle.cmm_meaning.specs.Run as run
use Rattle.eval_frames.specs.declared.here.Bound.{Bound}
use Rattle.eval_frames.specs.declared.here.Here as here
use Rattle.eval_frames.specs.declared.layout.Layout.{Layout}
use Rattle.eval_frames.specs.declared.outcome.Eval.{Eval}
use Rattle.eval_frames.specs.declared.outcome.Outcome.{Outcome}
use Rattle.eval_frames.specs.declared.outcome.Outcome.TheVariants as outcome
use Rattle.eval_frames.specs.declared.world.Stop.{Stop}
use Rattle.eval_frames.specs.declared.world.Stop.TheVariants as stop
use Rattle.eval_frames.specs.declared.world.World as world

abbrev pub call_view : Call → Made
call_view c = record { name = c.name; shown = contents c.args }

abbrev pub layout_view : Layout → meaning.Layout
layout_view l = record { frames = contents l.frames; addresses = contents l.addresses }

abbrev pub bound_view : Bound → Binding
bound_view b =
    record
    { scoped = record { name = b.name.now; type = b.ty; mutable = b.mutable }; value = b.value }

-- the innermost binding is last in the code, and first here
abbrev pub bounds_view : List Bound → List Binding
bounds_view bounds = map bound_view (reverse bounds)

abbrev pub here_view : here.Here → Here
here_view h =
    record { names = bounds_view h.names.items; below = h.below; frame = h.frame; tries = h.tries }

abbrev pub world_view : world.World → World
world_view w =
    record {
      left = w.left;
      stack_need = w.stack_need;
      memory = w.memory;
      made = map call_view w.made.items;
      answers = w.answers.now;
      asked = [];
      doings = [];
    }

abbrev pub stop_view : Stop → evaluation.Stop
stop_view stop.OutOfFuel = OutOfFuel
stop_view (stop.NotProper kind) = NotProper kind
stop_view (stop.NoAnswer call) = NoAnswer (call_view call)

abbrev pub outcome_view : Outcome → run.Outcome
outcome_view (outcome.Returned value) = run.Returned value
outcome_view (outcome.Raised value) = run.Raised value
outcome_view (outcome.Asks call) = run.Asks (call_view call)
outcome_view outcome.More = run.More
outcome_view (outcome.Improper kind) = run.Improper kind

abbrev pub eval_view : Eval → run.Run
eval_view e =
    record {
      outcome = outcome_view e.outcome;
      calls = map call_view (contents e.calls);
      stack_need = e.stack_need;
      heap_need = e.heap_bytes;
      left = e.left;
    }
