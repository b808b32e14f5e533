-- What holds of all that functions do: the arguments of their calls fit, each call is on the bytes of its caller,
-- after a tail call a function only tests, what they raise fits val, what they give fits their result, and the memory
-- only grows.
use Rattle.std.specs.Prelude.{◌≡◌, ℕ, ◌+◌, ◌*◌, Bool, true, cond, List, ◌++◌, Option, Some, None, slice_get}
use Rattle.bs_words.specs.External.{External}
use Rattle.bs_words.specs.Fits.{fits, type_of_comp}
use Rattle.bs_words.specs.Memory.{Memory}
use Rattle.bs_words.specs.Observed.{Made}
use Rattle.bs_words.specs.declared.types.Comp.{Comp}
use Rattle.bs_words.specs.declared.types.Ret.{Ret}
use Rattle.bs_words.specs.declared.types.Ret.TheVariants as ret
use Rattle.bs_words.specs.declared.types.Ty.TheVariants as ty
use Rattle.bs_words.specs.declared.values.Kind.{Kind}
use Rattle.bs_words.specs.declared.values.Value.{Value}
use Rattle.bs_words.specs.declared.values.Value.TheVariants.{Word}
use Rattle.cmm_tree.specs.Tree.{LabelTree}
use Rattle.cmm_meaning.specs.Extends.{Extends}
use Rattle.cmm_meaning.specs.State.{Doing, Gave, Threw, Called, World, Here}
use Rattle.cmm_meaning.specs.Evaluation.{Stop, NotProper, NoAnswer, Evaluation, Gives, Exits, Raises, Stops, Surroundings, fit_parameters}
use Rattle.meaning_laws.specs.Does.{Does, Ends, Pays, Deepens, Jumps, Calls, CallsOut, Fails, Spent, Giving, Exiting, Raising}
use Rattle.cmm_meaning.specs.Setting.{Setting}
use Rattle.meaning_laws.specs.Units.{world_of, Later}

-- A function while it runs: the file round it, its result, the stack bytes below it, and its frame.
pub record Activation : Type 0 where
  pub setting : Setting
  pub result : Ret
  pub below : ℕ
  pub frame : ℕ

-- ---- values

-- What a function of this result gives: nothing, or a value that fits.
pub data FitsResult (end : ℕ) : Ret → Option Value → Type 0 where
  nothing : FitsResult end ret.Unit None
  value : {c : Comp} {v : Value}
      → fits end (type_of_comp c) v ≡ true
      → FitsResult end (ret.Comp c) (Some v)

-- what a function of this result leaves of what it got from a callee
abbrev pub left_of_call : Ret → Option Value → Option Value
left_of_call ret.Unit v = None
left_of_call (ret.Comp c) v = v

-- ---- calls

abbrev pub memory_after : Doing → Memory
memory_after (Gave v memory) = memory
memory_after (Threw v memory) = memory

-- What a call did: the memory extends the one before it, and a raised value fits val.
pub data Returned (end : ℕ) (before : Memory) : Doing → Type 0 where
  gave : {v : Option Value} {memory : Memory}
      → Extends before memory
      → Returned end before (Gave v memory)
  threw : {v : Value} {memory : Memory}
      → fits end ty.Val v ≡ true
      → Extends before memory
      → Returned end before (Threw v memory)

-- The callee is a function of the file, and the arguments fit its parameters.
pub record FitsCallee (c : Setting) (f : ℕ) (arguments : List Value) : Type 0 where
  pub parameters : List Comp
  pub callee : slice_get c.parameters f ≡ Some parameters
  pub fit : fit_parameters c.end parameters arguments ≡ true

-- A call that a function makes: its arguments fit; it is on the bytes of its caller with the caller's frame and 16
-- for each try that the caller has entered; but a tail call, which is never within a try, on those below its caller.
pub record CallStands (a : Activation) (call : Called) : Type 0 where
  pub fits : FitsCallee a.setting call.function call.arguments
  pub below : call.below ≡ cond call.tail a.below (a.below + a.frame + 16 * call.tries)
  pub tries : call.tail ≡ true → call.tries ≡ 0

-- After a tail call the function only tests: where the callee gave something it ends with what its result leaves of
-- that, or is improper; where the callee raised it raises that.
pub data OnlyTests (result : Ret) : Doing → Does → Type 0 where
  gives : {v given : Option Value} {h : Here} {memory : Memory} → given ≡ left_of_call result v →
      OnlyTests result (Gave v memory) (Ends (Giving given h memory))
  raises : {v : Value} {h : Here} {memory : Memory}
      → OnlyTests result (Threw v memory) (Ends (Raising v h memory))
  fails : {v : Option Value} {memory : Memory} {kind : Kind}
      → OnlyTests result (Gave v memory) (Fails memory kind)

-- What a function does from a memory on: each of its memories extends the one before it, its calls are as calls do,
-- what it raises fits val and what it gives fits its result, if all that holds of what its calls do.
pub data Lawful (a : Activation) : Memory → Does → Type 0 where
  gives : {before memory : Memory} {v : Option Value} {h : Here}
      → FitsResult a.setting.end a.result v
      → Extends before memory
      → Lawful a before (Ends (Giving v h memory))
  exits : {before memory : Memory} {label : LabelTree} {values : List Value} {h : Here}
      → Extends before memory
      → Lawful a before (Ends (Exiting label values h memory))
  raises : {before memory : Memory} {v : Value} {h : Here}
      → fits a.setting.end ty.Val v ≡ true
      → Extends before memory
      → Lawful a before (Ends (Raising v h memory))
  pays : {before memory : Memory} {rest : Does}
      → Extends before memory
      → Lawful a memory rest
      → Lawful a before (Pays memory rest)
  deepens : {before : Memory} {bytes : ℕ} {rest : Does}
      → Lawful a before rest
      → Lawful a before (Deepens bytes rest)
  jumps : {before : Memory} {rest : Does} → Lawful a before rest → Lawful a before (Jumps rest)
  calls : {before memory : Memory} {call : Called} {go : Doing → Does}
      → Extends before memory
      → CallStands a call
      → (call.tail ≡ true → (d : Doing) → OnlyTests a.result d (go d))
      → ((d : Doing) → Returned a.setting.end memory d → Lawful a (memory_after d) (go d)) → Lawful a before (Calls call memory go)
  calls_out : {before memory : Memory} {row : External} {frame : Bool} {arguments : List Value} {go : Doing → Does}
      → Extends before memory
      → ((d : Doing) → Returned a.setting.end memory d → Lawful a (memory_after d) (go d))
      → Lawful a before (CallsOut row frame arguments memory go)
  fails : {before memory : Memory} {kind : Kind}
      → Extends before memory
      → Lawful a before (Fails memory kind)
  spent : {before memory : Memory} → Extends before memory → Lawful a before (Spent memory)

-- ---- surroundings

-- A raised value fits val.
pub data RaisedFits (end : ℕ) : Evaluation → Type 0 where
  raised_fits : {v : Value} {h : Here} {w : World}
      → fits end ty.Val v ≡ true
      → RaisedFits end (Raises v h w)
  given : {v : Option Value} {h : Here} {w : World} → RaisedFits end (Gives v h w)
  left_by_exit : {label : LabelTree} {values : List Value} {h : Here} {w : World}
      → RaisedFits end (Exits label values h w)
  stopped : {why : Stop} {w : World} → RaisedFits end (Stops why w)

-- What is given fits the result of its function.
pub data GivesFit (end : ℕ) (result : Ret) : Evaluation → Type 0 where
  gives_fit : {v : Option Value} {h : Here} {w : World}
      → FitsResult end result v
      → GivesFit end result (Gives v h w)
  exit_fits : {label : LabelTree} {values : List Value} {h : Here} {w : World}
      → GivesFit end result (Exits label values h w)
  raise_fits : {v : Value} {h : Here} {w : World} → GivesFit end result (Raises v h w)
  stop_fits : {why : Stop} {w : World} → GivesFit end result (Stops why w)

-- What an external call of this result gives: nothing, or a word.
pub data IsAnswer : Ret → Option Value → Type 0 where
  no_value : IsAnswer ret.Unit None
  a_word : {c : Comp} (a : ℕ) → IsAnswer (ret.Comp c) (Some (Word a))

-- What an external call does: it gives what such a call gives, or, as a frame call alone, raises what fits val or is
-- improper, and the world is as it was but for the calls made and the answers left; or it stops for want of an answer.
pub data Answered (end : ℕ) (result : Ret) : Bool → World → Evaluation → Type 0 where
  answered : {frame : Bool} {w : World} {v : Option Value} (h : Here) (further : List Made) (answers : List ℕ)
      → IsAnswer result v
      → Answered end result frame w (Gives v h (record w { made = w.made ++ further; answers = answers }))
  answered_raise : {w : World} (v : Value) (h : Here) (further : List Made) (answers : List ℕ)
      → fits end ty.Val v ≡ true
      → Answered end result true w (Raises v h (record w { made = w.made ++ further; answers = answers }))
  unfit : {w : World} (kind : Kind) (further : List Made) (answers : List ℕ) →
      Answered end result true w (Stops (NotProper kind) (record w { made = w.made ++ further; answers = answers }))
  unanswered : {frame : Bool} {w : World} (call : Made)
      → Answered end result frame w (Stops (NoAnswer call) w)

-- Calls as those of a whole file are: those of functions go on from one world to a later one, whose memory extends the
-- earlier one, and what they raise fits val; external calls answer, or there is no answer.
pub record CallsFitAndGrow (s : Surroundings) : Type 0 where
  pub later : (call : Called) (w : World) → Later w (world_of (s.call call w))
  pub fit : (call : Called) (w : World) → RaisedFits s.end (s.call call w)
  pub answers : (row : External) (frame : Bool) (arguments : List Value) (w : World) →
      Answered s.end row.result frame w (s.external row frame arguments w)
