-- What a run of a text keeps: one part never goes back, the other belongs to one activation.
use Rattle.std.specs.Prelude.{ℕ, suc, ◌+◌, ◌-◌, ◌*◌, Bool, false, cond, List, [], ◌∷◌, Option, option_map, find, bytes_eq, max, map, length, drop}
use Rattle.bs_words.specs.External.{External}
use Rattle.bs_words.specs.Memory.{Memory}
use Rattle.bs_words.specs.Observed.{Made}
use Rattle.bs_words.specs.declared.values.Value.{Value}
use Rattle.cmm_types.specs.Types.{Scoped}

-- What a function or an external call did, where that is handed in: it gave a value or none, or raised. A
-- function left this memory; an external call leaves the memory as it was, and raises only where it is a frame call.
pub data Doing : Type 0 where
  Gave : (value : Option Value) (memory : Memory) → Doing
  Threw : (value : Value) (memory : Memory) → Doing

-- A call of a function of the file: which, on what, on how many stack bytes, whether the callee takes the place of its
-- caller (a tail call), and inside how many tries of its caller.
-- The stack bytes alone do not say whether it is a tail call where a frame has no bytes, and a compiler has
-- to know.
pub record Called : Type 0 where
  pub function : ℕ
  pub arguments : List Value
  pub below : ℕ
  pub tail : Bool
  pub tries : ℕ

-- Who is called: a function of the file, or what lies outside, by its row and whether it is a frame call.
pub data Callee : Type 0 where
  Inside : (function : ℕ) → Callee
  Outside : (row : External) (frame : Bool) → Callee

-- A call that one function makes: whom, with what, in which memory, and, of a function, on how many stack bytes, whether
-- as a tail call, and inside how many tries of its caller.
pub record Asked : Type 0 where
  pub callee : Callee
  pub arguments : List Value
  pub memory : Memory
  pub below : ℕ
  pub tail : Bool
  pub tries : ℕ

-- the call of a function, and an external call, as they are asked
abbrev pub asked_inside : Called → Memory → Asked
asked_inside c memory =
    record {
      callee = Inside c.function;
      arguments = c.arguments;
      memory = memory;
      below = c.below;
      tail = c.tail;
      tries = c.tries;
    }

abbrev pub asked_outside : External → Bool → List Value → Memory → Asked
asked_outside row frame arguments memory =
    record {
      callee = Outside row frame;
      arguments = arguments;
      memory = memory;
      below = 0;
      tail = false;
      tries = 0;
    }

-- The world of a run.
-- What was handed in and asked for is here too, and is empty in the run of a whole file: so one type serves
-- both readings of the evaluation.
pub record World : Type 0 where
  -- units of fuel that are left
  pub left : ℕ
  -- the stack need so far: the most bytes of frames and tries that were active at once
  pub stack_need : ℕ
  pub memory : Memory
  -- the external calls so far, first to last, and the answers that are left
  pub made : List Made
  pub answers : List ℕ
  -- where one function is evaluated alone: the calls that it made, first to last, and what is handed in for
  -- the next ones
  pub asked : List Asked
  pub doings : List Doing

-- A name in scope and its value.
pub record Binding : Type 0 where
  pub scoped : Scoped
  pub value : Value

-- One activation of a function.
pub record Here : Type 0 where
  -- the bindings, the innermost first
  pub names : List Binding
  -- stack bytes of the activations and tries below this one
  pub below : ℕ
  -- the bytes of this activation's frame
  pub frame : ℕ
  -- how many tries it has entered and not left
  pub tries : ℕ

-- The stack bytes with this activation's frame and its active tries, 16 bytes each.
-- An activation keeps its frame and the number of its tries, and no sum, so that what a call rests on
-- follows from the text.
abbrev pub taken : Here → ℕ
taken h = h.below + h.frame + 16 * h.tries

-- the activation where it has entered one try more
abbrev pub within_try : Here → Here
within_try h = record h { tries = suc h.tries }

-- the names in scope
abbrev pub scope : Here → List Scoped
scope h = map (λ (b : Binding). b.scoped) h.names

-- the innermost binding of a name, which is first
abbrev pub innermost : List Binding → List ℕ → Option Binding
innermost names name = find (λ (b : Binding). bytes_eq b.scoped.name name) names

-- the value of a name: that of its innermost binding
abbrev pub value_of : List Binding → List ℕ → Option Value
value_of names name = option_map (λ (b : Binding). b.value) (innermost names name)

-- the bindings where the innermost one of a name has a new value
abbrev pub assigned : List Binding → List ℕ → Value → List Binding
assigned [] name value = []
assigned (b ∷ rest) name value =
    cond (bytes_eq b.scoped.name name) (record b { value = value } ∷ rest) (b ∷ assigned rest name value)

-- these names bound to these values, one after the other, round the bindings that are there
abbrev pub bound : List Scoped → List Value → List Binding → List Binding
bound (s ∷ scoped) (v ∷ values) names =
    bound scoped values (record { scoped = s; value = v } ∷ names)
bound _ _ names = names

-- so many of the outermost bindings
abbrev pub outermost : ℕ → List Binding → List Binding
outermost level names = drop (length names - level) names

-- the activation back in a scope that it had entered: with so many bindings, and so many active tries
abbrev pub back_in : ℕ → ℕ → Here → Here
back_in level tries h = record h { names = outermost level h.names; tries = tries }

-- the world where the stack has come to so many bytes
abbrev pub deepened : ℕ → World → World
deepened bytes w = record w { stack_need = max w.stack_need bytes }
