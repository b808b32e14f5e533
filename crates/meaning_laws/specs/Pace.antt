-- The pace of a function: how many units it pays between two of its calls of functions, raises and exits.
use Rattle.std.specs.Prelude.{ℕ, zero, suc, Bool, List, Option}
use Rattle.bs_words.specs.External.{External}
use Rattle.bs_words.specs.Memory.{Memory}
use Rattle.bs_words.specs.declared.values.Kind.{Kind}
use Rattle.bs_words.specs.declared.values.Value.{Value}
use Rattle.cmm_meaning.specs.State.{Doing, Gave, Threw, Called, World, deepened}
use Rattle.cmm_meaning.specs.Evaluation.{OutOfFuel, NotProper, NoAnswer, Asking, Evaluation, Gives, Exits, Raises, Stops, Surroundings}
use Rattle.meaning_laws.specs.Does.{Leaves, Does, Ends, Pays, Deepens, Jumps, Calls, CallsOut, Fails, Spent}

-- `Paced most left d`: what a function does pays at most `left` units up to its first call, jump or end, and from
-- each call or jump at most `most` units up to the next. An external call that gave something is none of these, and
-- what is left goes on after it; one that raised is one.
pub data Paced (most : ℕ) : ℕ → Does → Type 0 where
  ends : {left : ℕ} {end : Leaves (Option Value)} → Paced most left (Ends end)
  pays : {left : ℕ} {memory : Memory} {rest : Does}
      → Paced most left rest
      → Paced most (suc left) (Pays memory rest)
  deepens : {left bytes : ℕ} {rest : Does}
      → Paced most left rest
      → Paced most left (Deepens bytes rest)
  jumps : {left : ℕ} {rest : Does} → Paced most most rest → Paced most left (Jumps rest)
  calls : {left : ℕ} {call : Called} {memory : Memory} {go : Doing → Does} →
      ((d : Doing) → Paced most most (go d)) → Paced most left (Calls call memory go)
  calls_out : {left : ℕ} {row : External} {frame : Bool} {arguments : List Value} {memory : Memory} {go : Doing → Does} →
      ((v : Option Value) (after : Memory) → Paced most left (go (Gave v after))) →
      ((v : Value) (after : Memory) → Paced most most (go (Threw v after))) → Paced most left (CallsOut row frame arguments memory go)
  fails : {left : ℕ} {memory : Memory} {kind : Kind} → Paced most left (Fails memory kind)
  spent : {left : ℕ} {memory : Memory} → Paced most left (Spent memory)

-- ---- the beats of a run

-- the beats after a call: it is one where it comes back
abbrev pub beats_behind_call : (Doing → World → ℕ) → Evaluation → ℕ
beats_behind_call go (Gives v h w) = suc (go (Gave v w.memory) w)
beats_behind_call go (Exits label values h w) = 0
beats_behind_call go (Raises v h w) = suc (go (Threw v w.memory) w)
beats_behind_call go (Stops why w) = 0

-- an external call is one only where it raises
abbrev pub beats_behind_external : (Doing → World → ℕ) → Evaluation → ℕ
beats_behind_external go (Gives v h w) = go (Gave v w.memory) w
beats_behind_external go (Exits label values h w) = 0
beats_behind_external go (Raises v h w) = suc (go (Threw v w.memory) w)
beats_behind_external go (Stops why w) = 0

abbrev pub beats_behind_unit : ℕ → World → (World → ℕ) → ℕ
beats_behind_unit zero w go = 0
beats_behind_unit (suc left) w go = go (record w { left = left })

-- How many beats a function's run passes, where calls do what these surroundings say: its calls of functions that
-- come back, and its own exits and raises.
abbrev pub beats : Surroundings → Does → World → ℕ
beats s (Ends end) w = 0
beats s (Pays memory rest) w =
    beats_behind_unit w.left (record w { memory = memory }) (λ w. beats s rest w)
beats s (Deepens bytes rest) w = beats s rest (deepened bytes w)
beats s (Jumps rest) w = suc (beats s rest w)
beats s (Calls call memory go) w =
    beats_behind_call (λ d w. beats s (go d) w) (s.call call (record w { memory = memory }))
beats s (CallsOut row frame arguments memory go) w =
    beats_behind_external (λ d w. beats s (go d) w) (s.external row frame arguments (record w { memory = memory }))
beats s (Fails memory kind) w = 0
beats s (Spent memory) w = 0

-- The call that a function alone asks for where it ends, as nothing is handed in for it: none or one. It has not come
-- back, so it is none of the beats.
abbrev pub pending_calls : Evaluation → ℕ
pending_calls (Gives v h w) = 0
pending_calls (Exits label values h w) = 0
pending_calls (Raises v h w) = 0
pending_calls (Stops OutOfFuel w) = 0
pending_calls (Stops (NotProper kind) w) = 0
pending_calls (Stops (NoAnswer call) w) = 0
pending_calls (Stops (Asking call) w) = 1
