-- The run of a function of a file.
use Rattle.std.specs.Prelude.{⊤, ℕ, zero, suc, ◌+◌, Bool, true, false, List, [], ◌∷◌, ◌++◌, Option, Some, None, slice_get, slice_index, option_map, map}
use Rattle.bs_words.specs.Memory.{heap_need as need_of}
use Rattle.bs_words.specs.External.{External}
use Rattle.bs_words.specs.Observed.{Made}
use Rattle.bs_words.specs.declared.types.Ret.{Ret}
use Rattle.bs_words.specs.declared.types.Ret.TheVariants as ret
use Rattle.bs_words.specs.declared.types.Ty.TheVariants as ty
use Rattle.bs_words.specs.declared.values.Kind.{Kind}
use Rattle.bs_words.specs.declared.values.Kind.TheVariants.{BadCall}
use Rattle.bs_words.specs.declared.values.Obs.{Obs}
use Rattle.bs_words.specs.declared.values.Value.{Value}
use Rattle.bs_words.specs.declared.values.Value.TheVariants.{Word}
use Rattle.cmm_data.specs.Contents.{first_memory}
use Rattle.cmm_data.specs.Placement.{data_end, value_of_symbol}
use Rattle.cmm_data.specs.Known.{FunctionTree, FileTree, functions, comps_of}
use Rattle.cmm_meaning.specs.Layout.{Layout, observed}
use Rattle.cmm_meaning.specs.State.{World, Here, Called, bound, deepened}
use Rattle.cmm_meaning.specs.Evaluation.{OutOfFuel, NotProper, NoAnswer, Asking, Evaluation, Gives, Exits, Raises, Stops, Surroundings, tested, scoped_parameter, evaluated}

-- How a run ends.
pub data Outcome : Type 0 where
  Returned : (value : Option Obs) → Outcome
  Raised : (value : Obs) → Outcome
  -- an external call wanted an answer, and none was left
  Asks : (call : Made) → Outcome
  More : Outcome
  Improper : (kind : Kind) → Outcome

abbrev pub IsProper : Outcome → Type 0
IsProper (Improper kind) = ⊥
IsProper _ = ⊤

-- What is reported of a run of so many units.
pub record Run : Type 0 where
  pub outcome : Outcome
  -- the external calls that were made, first to last
  pub calls : List Made
  pub stack_need : ℕ
  pub heap_need : ℕ
  -- units of fuel that it did not spend
  pub left : ℕ

-- no activation: what a callee leaves of its own is nothing
abbrev pub nobody : Here
nobody = record { names = []; below = 0; frame = 0; tries = 0 }

-- an activation of a function: its arguments are bound, its frame counts, and its body is evaluated in
-- tail position
abbrev pub activated : Surroundings → ℕ → Option FunctionTree → List Value → ℕ → World → Evaluation
activated s frame None arguments below w = Stops (NotProper BadCall) w
activated s frame (Some f) arguments below w =
    let here : Here = record {
      names = bound (map scoped_parameter f.params) arguments [];
      below = below;
      frame = frame;
      tries = 0;
    } in
    evaluated s f.body true here (deepened (below + frame) w)

-- a call is made, and leaves these answers
abbrev pub with_call_made : Made → List ℕ → World → World
with_call_made call answers w = record w { made = w.made ++ call ∷ []; answers = answers }

-- of the calls that are no frame calls one without a result takes no answer, and each other one the next
abbrev pub answered : Ret → Made → List ℕ → World → Evaluation
answered ret.Unit call answers w = Gives None nobody (with_call_made call answers w)
answered (ret.Comp c) call [] w = Stops (NoAnswer call) w
answered (ret.Comp c) call (a ∷ answers) w = Gives (Some (Word a)) nobody (with_call_made call answers w)

-- what a frame call gives of its second answer: with no result, nothing
abbrev pub given_back : Ret → ℕ → Option Value
given_back ret.Unit a = None
given_back (ret.Comp c) a = Some (Word a)

-- a frame call takes two answers: where the first is 0 the second is its value, and else the second is raised, and
-- must fit val
abbrev pub frame_answered : ℕ → Ret → Made → List ℕ → World → Evaluation
frame_answered end result call (zero ∷ a ∷ answers) w =
    Gives (given_back result a) nobody (with_call_made call answers w)
frame_answered end result call (suc n ∷ a ∷ answers) w =
    tested end ty.Val (Word a) (with_call_made call answers w) (Raises (Word a) nobody (with_call_made call answers w))
frame_answered end result call _ w = Stops (NoAnswer call) w

abbrev pub answered_as : Bool → ℕ → Ret → Made → List ℕ → World → Evaluation
answered_as true end result call answers w = frame_answered end result call answers w
answered_as false end result call answers w = answered result call answers w

abbrev pub outside : ℕ → Layout → External → Bool → List Value → World → Evaluation
outside end layout row frame arguments w =
    answered_as frame end row.result (record { name = row.name; shown = map (observed layout) arguments }) w.answers w

-- what calls do where activations nest at most so deep; each costs units, so a depth past the units
-- of the run is as good as any
abbrev pub callees : FileTree → Layout → ℕ → Called → World → Evaluation
callees file layout zero c w = Stops OutOfFuel w
callees file layout (suc depth) c w =
    let s : Surroundings = record {
      end = data_end file;
      symbol = value_of_symbol file;
      parameters = map comps_of (functions file);
      call = callees file layout depth;
      external = outside (data_end file) layout;
    } in
    activated s (slice_index layout.frames c.function) (slice_get (functions file) c.function) c.arguments c.below w

-- the world in which a run of n units begins
abbrev pub first_world : FileTree → List ℕ → ℕ → World
first_world file answers n =
    record {
      left = n;
      stack_need = 0;
      memory = first_memory file;
      made = [];
      answers = answers;
      asked = [];
      doings = [];
    }

-- the call of the entry: nothing is below it
abbrev pub first_call : ℕ → List ℕ → Called
first_call entry arguments =
    record { function = entry; arguments = map Word arguments; below = 0; tail = false; tries = 0 }

abbrev pub reported : Outcome → World → Run
reported outcome w =
    record {
      outcome = outcome;
      calls = w.made;
      stack_need = w.stack_need;
      heap_need = need_of w.memory;
      left = w.left;
    }

-- no exit leaves a function of an accepted text, and no run of a whole file asks for what a callee does
abbrev pub finished : Layout → Evaluation → Run
finished layout (Gives v h w) = reported (Returned (option_map (observed layout) v)) w
finished layout (Exits label values h w) = reported (Improper BadCall) w
finished layout (Raises v h w) = reported (Raised (observed layout v)) w
finished layout (Stops OutOfFuel w) = reported More w
finished layout (Stops (NotProper kind) w) = reported (Improper kind) w
finished layout (Stops (NoAnswer call) w) = reported (Asks call) w
finished layout (Stops (Asking call) w) = reported (Improper BadCall) w

-- the run of function `entry` of a file, on argument words, with these answers to external calls and n
-- units of fuel
abbrev pub cmm_run : FileTree → Layout → ℕ → List ℕ → List ℕ → ℕ → Run
cmm_run file layout entry arguments answers n =
    finished layout (callees file layout (suc n) (first_call entry arguments) (first_world file answers n))
