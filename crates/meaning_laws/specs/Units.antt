-- What more units of fuel change in a run, and what they leave as it is.
use Rattle.std.specs.Prelude.{ℕ, Bool, ◌+◌, ◌≤◌, ◌≡◌, List, ◌++◌}
use Rattle.bs_words.specs.External.{External}
use Rattle.bs_words.specs.declared.values.Value.{Value}
use Rattle.cmm_meaning.specs.Extends.{Extends}
use Rattle.cmm_meaning.specs.State.{Called, World}
use Rattle.cmm_meaning.specs.Evaluation.{OutOfFuel, Evaluation, Gives, Exits, Raises, Stops, Surroundings}
use Rattle.cmm_meaning.specs.Run.{Run, More}

-- the same world with so many more units left
abbrev pub with_more : ℕ → World → World
with_more k w = record w { left = w.left + k }

-- the world in which an evaluation ends
abbrev pub world_of : Evaluation → World
world_of (Gives v h w) = w
world_of (Exits label values h w) = w
world_of (Raises v h w) = w
world_of (Stops why w) = w

-- the same end, in another world
abbrev pub in_world : (World → World) → Evaluation → Evaluation
in_world f (Gives v h w) = Gives v h (f w)
in_world f (Exits label values h w) = Exits label values h (f w)
in_world f (Raises v h w) = Raises v h (f w)
in_world f (Stops why w) = Stops why (f w)

-- The second list begins with the first.
pub record IsPrefixOf {A : Type 0} (first whole : List A) : Type 0 where
  pub further : List A
  pub is : whole ≡ first ++ further

-- Of two worlds of a run the second may come later: to the external calls some were added, the stack need did not
-- fall, and the memory extends the earlier one.
pub record Onward (w v : World) : Type 0 where
  pub calls : IsPrefixOf w.made v.made
  pub stack : w.stack_need ≤ v.stack_need
  pub memory : Extends w.memory v.memory

-- The second world comes later, and nothing gave units back.
pub record Later (w v : World) : Type 0 where
  pub onward : Onward w v
  pub units : v.left ≤ w.left

-- Two evaluations of one thing, the second with k more units. It ends alike, with k more left; or the first was
-- out of units, and the second goes on from there.
pub data Continues (k : ℕ) : Evaluation → Evaluation → Type 0 where
  alike : (e : Evaluation) → Continues k e (in_world (with_more k) e)
  further : {w : World} {e : Evaluation} → Onward w (world_of e) → Continues k (Stops OutOfFuel w) e

-- Calls that are the same with more units.
pub record CallsContinue (s : Surroundings) : Type 0 where
  pub call : (k : ℕ) (call : Called) (w : World)
      → Continues k (s.call call w) (s.call call (with_more k w))
  pub external : (k : ℕ) (row : External) (frame : Bool) (arguments : List Value) (w : World) →
      Continues k (s.external row frame arguments w) (s.external row frame arguments (with_more k w))

-- Of two worlds of a function that is evaluated alone the second may come later: to the calls that it asked some
-- were added, and the stack need did not fall. Of the memory nothing is said: what is handed in may be anything.
pub record OnwardAlone (w v : World) : Type 0 where
  pub asked : IsPrefixOf w.asked v.asked
  pub stack : w.stack_need ≤ v.stack_need

-- The same of two evaluations of a function alone: with k more units it ends alike; or it was out of units, and
-- goes on from there.
pub data ContinuesAlone (k : ℕ) : Evaluation → Evaluation → Type 0 where
  ends_alike : (e : Evaluation) → ContinuesAlone k e (in_world (with_more k) e)
  goes_on : {w : World} {e : Evaluation}
      → OnwardAlone w (world_of e)
      → ContinuesAlone k (Stops OutOfFuel w) e

-- Two runs of one function of a file, the second with k more units. What is said of it is the same, but for k
-- more units left; or the first is not finished, its external calls are the first ones of the second, and its
-- needs are no greater.
pub data RunsOn (k : ℕ) : Run → Run → Type 0 where
  same_run : (r : Run) → RunsOn k r (record r { left = r.left + k })
  longer_run : {r longer : Run}
      → r.outcome ≡ More
      → IsPrefixOf r.calls longer.calls
      → r.stack_need ≤ longer.stack_need
      → r.heap_need ≤ longer.heap_need → RunsOn k r longer
