-- Runs of one function, whatever its states are: Mach and Linear have this in common. What its
-- callees and external calls do is handed in as a list.
use Rattle.std.specs.Prelude.{ℕ, zero, suc, ◌+◌, ◌*◌, Bool, true, false, max, List, [], ◌∷◌, ◌++◌, length, None}
use Rattle.bs_words.specs.Memory.{Memory}
use Rattle.bs_words.specs.declared.values.Value.{Value}
use Rattle.bs_words.specs.declared.types.Ret.{Ret}
use Rattle.bs_words.specs.declared.types.Ret.TheVariants as ret
use Rattle.cmm_meaning.specs.State.{Doing, Gave, Threw, Asked, Callee, Inside, Outside}
use Rattle.cmm_meaning.specs.Setting.{Setting}
use Rattle.mach_ir.specs.Acts.{Around}

-- What is round a function.
pub record ActivationSetting : Type 0 where
  pub setting : Setting
  -- the stack bytes below it, and those of its frame
  pub below : ℕ
  pub frame : ℕ

-- the stack bytes in use, 16 for each pushed try
abbrev pub stack_in_use : ActivationSetting → Around → ℕ
stack_in_use c a = c.below + c.frame + 16 * length a.tries

-- the stack bytes that a call finds; a tail call takes its caller's place
abbrev pub bytes_below : Callee → Bool → ActivationSetting → Around → ℕ
bytes_below (Outside row frame) tail c a = 0
bytes_below (Inside f) true c a = c.below
bytes_below (Inside f) false c a = stack_in_use c a

abbrev pub tries_round : Callee → Around → ℕ
tries_round (Outside row frame) a = 0
tries_round (Inside f) a = length a.tries

-- a call as it is asked
abbrev pub asked_call : ActivationSetting → Callee → List Value → Bool → Around → Asked
asked_call c callee arguments tail a =
    record {
      callee = callee;
      arguments = arguments;
      memory = a.memory;
      below = bytes_below callee tail c a;
      tail = tail;
      tries = tries_round callee a;
    }

-- What a function does in one step, from a state of kind S.
pub data Step (S : Type 0) : Type 0 where
  -- on, to a state
  Continues : (s : S) → Step S
  -- on, by an exit or a raise of its own: a unit
  Pays : (s : S) → Step S
  -- on, where a try has been pushed, on so many stack bytes
  Deepens : (bytes : ℕ) (s : S) → Step S
  -- a call, and what it does with what that did
  Waits : (call : Asked) (go : Doing → Step S) → Step S
  -- by a call that takes its place
  FinishesBy : (call : Asked) (kept : Ret) → Step S
  Finishes : (doing : Doing) → Step S
  -- by a raise of its own: a unit
  FinishesRaising : (doing : Doing) → Step S
  IsStuck : Step S

-- What is reported of a run so far.
pub record Tally : Type 0 where
  -- the calls that came back, first to last
  pub asked : List Asked
  -- what is handed in for the next ones
  pub doings : List Doing
  -- its calls of functions that came back, its exits, and its raises by operations of its own
  pub units : ℕ
  -- the most stack bytes
  pub need : ℕ

pub data RunProgress (S : Type 0) : Type 0 where
  Running : (s : S) (t : Tally) → RunProgress S
  -- at a call for which nothing was handed in
  Asking : (call : Asked) (t : Tally) → RunProgress S
  Ended : (doing : Doing) (t : Tally) → RunProgress S
  Wrong : RunProgress S

abbrev pub paid : Tally → Tally
paid t = record t { units = suc t.units }

-- a call of a function is a unit, an external call is none
abbrev pub units_of : Callee → ℕ → ℕ
units_of (Inside f) n = suc n
units_of (Outside row frame) n = n

abbrev pub came_back : Asked → List Doing → Tally → Tally
came_back call doings t =
    record t { asked = t.asked ++ call ∷ []; doings = doings; units = units_of call.callee t.units }

-- what is left of what a call did that took a function's place
abbrev pub kept_of : Ret → Doing → Doing
kept_of ret.Unit (Gave v m) = Gave None m
kept_of ret.Unit (Threw v m) = Threw v m
kept_of (ret.Comp t) d = d

abbrev pub handed : {S : Type 0} → (Doing → Tally → RunProgress S) → Asked → List Doing → Tally → RunProgress S
handed again call [] t = Asking call t
handed again call (d ∷ ds) t = again d (came_back call ds t)

abbrev pub run_onward : {S : Type 0} → (S → Tally → RunProgress S) → Step S → Tally → RunProgress S
run_onward go (Continues s) t = go s t
run_onward go (Pays s) t = go s (paid t)
run_onward go (Deepens bytes s) t = go s (record t { need = max t.need bytes })
run_onward go (Waits call next) t = handed (λ d t. run_onward go (next d) t) call t.doings t
run_onward go (FinishesBy call kept) t = handed (λ d t. Ended (kept_of kept d) t) call t.doings t
run_onward go (Finishes d) t = Ended d t
run_onward go (FinishesRaising d) t = Ended d (paid t)
run_onward go IsStuck t = Wrong

-- at most n steps, by what a step from each state is
abbrev pub runs : {S : Type 0} → (S → Step S) → ℕ → S → Tally → RunProgress S
runs step zero s t = Running s t
runs step (suc n) s t = run_onward (runs step n) (step s) t

-- at the entry
abbrev pub first_tally : ActivationSetting → List Doing → Tally
first_tally c doings = record { asked = []; doings = doings; units = 0; need = c.below + c.frame }

abbrev pub entry_around : Memory → Around
entry_around m = record { memory = m; unwritten = []; tries = []; raised = None }
