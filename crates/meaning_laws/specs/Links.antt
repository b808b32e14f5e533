-- The run of a function in a whole file beside the run of the function alone.
use Rattle.std.specs.Prelude.{ℕ, Bool, ◌+◌, ◌-◌, ◌≤◌, ◌<◌, ◌≡◌, List, [], ◌∷◌, Option, max, map}
use Rattle.bs_words.specs.External.{External}
use Rattle.bs_words.specs.Memory.{Memory}
use Rattle.bs_words.specs.declared.types.Comp.{Comp}
use Rattle.bs_words.specs.declared.values.Kind.{Kind}
use Rattle.bs_words.specs.declared.values.Kind.TheVariants.{BadCall}
use Rattle.bs_words.specs.declared.values.Value.{Value}
use Rattle.cmm_tree.specs.Tree.{LabelTree}
use Rattle.cmm_meaning.specs.Extends.{Extends}
use Rattle.cmm_meaning.specs.State.{Doing, Gave, Threw, Called, Asked, asked_inside, asked_outside, World, Here}
use Rattle.cmm_meaning.specs.Evaluation.{Stop, OutOfFuel, NotProper, Asking, Evaluation, Gives, Exits, Raises, Stops, Surroundings}
use Rattle.cmm_meaning.specs.Alone.{call_inside, call_outside}
use Rattle.cmm_meaning.specs.Setting.{setting_of}
use Rattle.meaning_laws.specs.Fitting.{FitsCallee}
use Rattle.meaning_laws.specs.Units.{world_of, Later}

-- ---- calls

-- A call: of a function of the file, or of what lies outside, by a frame call or not.
pub data Call : Type 0 where
  OfFunction : (call : Called) → Call
  OfOutside : (row : External) (frame : Bool) (arguments : List Value) → Call

-- as a function that is evaluated alone asks it
abbrev pub asked_in : Memory → Call → Asked
asked_in memory (OfFunction call) = asked_inside call memory
asked_in memory (OfOutside row frame arguments) = asked_outside row frame arguments memory

-- what it does in a world of the whole run
abbrev pub done_by : Surroundings → Call → World → Evaluation
done_by s (OfFunction call) w = s.call call w
done_by s (OfOutside row frame arguments) w = s.external row frame arguments w

-- The arguments of a call of a function fit its parameters.
pub data FitsCall (s : Surroundings) : Call → Type 0 where
  fits_function : {call : Called}
      → FitsCallee (setting_of s) call.function call.arguments
      → FitsCall s (OfFunction call)
  fits_outside : {row : External} {frame : Bool} {arguments : List Value}
      → FitsCall s (OfOutside row frame arguments)

-- A call came back: it gave a value or none, or raised, and left this world.
pub data CameBack : Evaluation → Doing → World → Type 0 where
  gave : {v : Option Value} {h : Here} {w : World} → CameBack (Gives v h w) (Gave v w.memory) w
  threw : {v : Value} {h : Here} {w : World} → CameBack (Raises v h w) (Threw v w.memory) w

-- A call did not come back: the run stops in it, or it is left by an exit, which is no run.
pub data StoppedIn : Evaluation → Stop → World → Type 0 where
  stopped : {why : Stop} {w : World} → StoppedIn (Stops why w) why w
  left_by_exit : {label : LabelTree} {values : List Value} {h : Here} {w : World}
      → StoppedIn (Exits label values h w) (NotProper BadCall) w

-- ---- the calls of a whole run

-- A call that came back: the worlds of the whole run in which it began and which it left, and what it did.
pub record Came : Type 0 where
  pub call : Call
  pub before : World
  pub doing : Doing
  pub after : World

abbrev pub asked_by : Came → Asked
asked_by c = asked_in c.before.memory c.call

abbrev pub doing_of : Came → Doing
doing_of c = c.doing

-- the units that the callees spent
abbrev pub spent_by : List Came → ℕ
spent_by [] = 0
spent_by (c ∷ calls) = (c.before.left - c.after.left) + spent_by calls

-- the greatest of a stack need and of what it came to in each call
abbrev pub greatest_need : ℕ → List Came → ℕ
greatest_need need [] = need
greatest_need need (c ∷ calls) = max c.after.stack_need (greatest_need need calls)

-- What a function does of its own between two calls: it makes no external call and takes no answer, gives no units back,
-- does not lower the stack need, and leaves a memory that extends the earlier one.
pub record OnItsOwn (w v : World) : Type 0 where
  pub made : v.made ≡ w.made
  pub answers : v.answers ≡ w.answers
  pub units : v.left ≤ w.left
  pub stack : w.stack_need ≤ v.stack_need
  pub memory : Extends w.memory v.memory

-- From one world of a whole run to another a function made these calls and no others. Each began in the world
-- that the one before had left, but for what the function did of its own, with fewer units than `bound`, and on
-- arguments that fit. It did what these surroundings say, and left a later world.
pub data CallsBetween (s : Surroundings) (bound : ℕ) : World → List Came → World → Type 0 where
  no_more : {w v : World} → OnItsOwn w v → CallsBetween s bound w [] v
  next : {w v : World} {c : Came} {calls : List Came}
      → OnItsOwn w c.before
      → c.before.left < bound
      → FitsCall s c.call → CameBack (done_by s c.call c.before) c.doing c.after → Later c.before c.after → CallsBetween s bound c.after calls v
      → CallsBetween s bound w (c ∷ calls) v

-- How a function ends alone, beside its end in the whole run, where the last world of its own is `last`. It ends
-- itself, is improper itself, or has no units left; or the whole run stops in a call for which nothing is handed
-- in.
pub data EndsSo (s : Surroundings) (bound : ℕ) (last : World) : Evaluation → Evaluation → Type 0 where
  gives : {v : Option Value} {h : Here} {u : World}
      → EndsSo s bound last (Gives v h u) (Gives v h last)
  exits : {label : LabelTree} {values : List Value} {h : Here} {u : World}
      → EndsSo s bound last (Exits label values h u) (Exits label values h last)
  raises : {v : Value} {h : Here} {u : World} → EndsSo s bound last (Raises v h u) (Raises v h last)
  improper : {kind : Kind} {u : World}
      → EndsSo s bound last (Stops (NotProper kind) u) (Stops (NotProper kind) last)
  out_of_units : {u : World} → EndsSo s bound last (Stops OutOfFuel u) (Stops OutOfFuel last)
  in_callee : {u v : World} {why : Stop} (call : Call)
      → last.left < bound
      → FitsCall s call
      → StoppedIn (done_by s call last) why v
      → Later last v
      → EndsSo s bound last (Stops (Asking (asked_in last.memory call)) u) (Stops why v)

-- ---- the link

-- The run of a function in a whole file, from the world w, beside its run alone: as `alone` says, on what is
-- handed in for its calls and on units of its own.
pub record Linked (s : Surroundings) (bound : ℕ) (alone : List Doing → ℕ → Evaluation) (w : World) (whole : Evaluation) : Type 0 where
  -- the calls that came back
  pub calls : List Came
  -- the last world of its own: where it ends, or calls what does not come back
  pub last : World
  pub called : CallsBetween s bound w calls last
  -- the units that it has alone: what it spends itself, and what is left
  pub own : ℕ
  pub units : w.left ≡ own + spent_by calls
  -- its run alone, where what those calls did is handed in
  pub run : Evaluation
  pub is : alone (map doing_of calls) own ≡ run
  -- it asks those calls, in order, and all that is handed in is taken
  pub asked : (world_of run).asked ≡ map asked_by calls
  pub taken : (world_of run).doings ≡ []
  -- it comes to the last world
  pub left : (world_of run).left ≡ last.left
  pub memory : (world_of run).memory ≡ last.memory
  pub need : last.stack_need ≡ max (world_of run).stack_need (greatest_need w.stack_need calls)
  pub ends : EndsSo s bound last run whole

-- ---- alone

-- the surroundings of a function that is evaluated alone
abbrev pub lonely : ℕ → (List ℕ → Option Value) → List (List Comp) → Surroundings
lonely end symbol parameters =
    record
    { end = end; symbol = symbol; parameters = parameters; call = call_inside end; external = call_outside end }
