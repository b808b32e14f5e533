-- What one function does, as an interaction: it ends, pays a unit, or asks what a call does and goes on with
-- that. Nothing of it depends on what calls do, on the units that are left, or on the answers.
use Rattle.std.specs.Prelude.{ℕ, Bool, List, Option}
use Rattle.bs_words.specs.External.{External}
use Rattle.bs_words.specs.Memory.{Memory}
use Rattle.bs_words.specs.declared.values.Kind.{Kind}
use Rattle.bs_words.specs.declared.values.Kind.TheVariants.{BadCall}
use Rattle.bs_words.specs.declared.values.Value.{Value}
use Rattle.cmm_tree.specs.Tree.{LabelTree}
use Rattle.cmm_meaning.specs.State.{Doing, Gave, Threw, Called, World, Here, deepened}
use Rattle.cmm_meaning.specs.Evaluation.{OutOfFuel, NotProper, Evaluation, Gives, Exits, Raises, Stops, Surroundings, spend}

-- How a part of a function is left: as an evaluation that does not stop, with the memory that it leaves.
pub data Leaves (A : Type 0) : Type 0 where
  Giving : (given : A) (here : Here) (memory : Memory) → Leaves A
  Exiting : (label : LabelTree) (values : List Value) (here : Here) (memory : Memory) → Leaves A
  Raising : (raised : Value) (here : Here) (memory : Memory) → Leaves A

-- What a function does from here on.
pub data Does : Type 0 where
  -- it ends
  Ends : (end : Leaves (Option Value)) → Does
  -- a node begins: it pays a unit
  Pays : (memory : Memory) (rest : Does) → Does
  -- a try is pushed: its stack comes to so many bytes
  Deepens : (bytes : ℕ) (rest : Does) → Does
  -- an exit or a raise by an operation of the function goes to its handler, or out of the function
  Jumps : (rest : Does) → Does
  -- it calls a function of the file
  Calls : (call : Called) (memory : Memory) (go : Doing → Does) → Does
  -- it calls what lies outside, by a frame call or not
  CallsOut : (row : External) (frame : Bool) (arguments : List Value) (memory : Memory) (go : Doing → Does)
      → Does
  -- it is improper
  Fails : (memory : Memory) (kind : Kind) → Does
  -- a catch has been left for as often as turns were given
  Spent : (memory : Memory) → Does

abbrev pub ended : Leaves (Option Value) → World → Evaluation
ended (Giving v h memory) w = Gives v h (record w { memory = memory })
ended (Exiting label values h memory) w = Exits label values h (record w { memory = memory })
ended (Raising v h memory) w = Raises v h (record w { memory = memory })

-- the function goes on with what its callee did
abbrev pub after_call : (Doing → World → Evaluation) → Evaluation → Evaluation
after_call go (Gives v h w) = go (Gave v w.memory) w
after_call go (Exits label values h w) = Stops (NotProper BadCall) w
after_call go (Raises v h w) = go (Threw v w.memory) w
after_call go (Stops why w) = Stops why w

-- what comes of it where calls do what these surroundings say
abbrev pub played : Surroundings → Does → World → Evaluation
played s (Ends end) w = ended end w
played s (Pays memory rest) w = spend w.left (record w { memory = memory }) (λ w. played s rest w)
played s (Deepens bytes rest) w = played s rest (deepened bytes w)
played s (Jumps rest) w = played s rest w
played s (Calls call memory go) w =
    after_call (λ d w. played s (go d) w) (s.call call (record w { memory = memory }))
played s (CallsOut row frame arguments memory go) w =
    after_call (λ d w. played s (go d) w) (s.external row frame arguments (record w { memory = memory }))
played s (Fails memory kind) w = Stops (NotProper kind) (record w { memory = memory })
played s (Spent memory) w = Stops OutOfFuel (record w { memory = memory })
