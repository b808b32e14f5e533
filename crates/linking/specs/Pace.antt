-- How many instructions a program takes between two units: each step has less ahead of it than the
-- one before, and so no more are taken than it has words.
use Rattle.std.specs.Prelude.{◌≡◌, ℕ, ◌+◌, ◌-◌, ◌≤◌, List, Some}
use Rattle.bs_words.specs.Memory.{Memory}
use Rattle.bs_words.specs.declared.values.Value.{Value}
use Rattle.cmm_meaning.specs.State.{Doing, Asked, Callee, Inside, Outside}
use Rattle.mach_ir.specs.Runs.{ActivationSetting, Step, Continues, Pays, Deepens, Waits, FinishesBy, Finishes, FinishesRaising, IsStuck}
use Rattle.linking.specs.Program.{Program}

-- How many instructions are taken where a function is, by its number.
pub record Words (S : Type 0) : Type 0 where
  -- at most so many by its step; an external call's own is one of them
  pub cost : ℕ → S → ℕ
  -- how many the function takes before its first step
  pub entry : ℕ → ℕ
  -- how many it may still take up to the next unit
  pub ahead : ℕ → S → ℕ
  -- how many units may have been counted before, at the most, without an instruction of their own:
  -- its step answers for them
  pub owed : ℕ → S → ℕ

module _ (S : Type 0) (words : ℕ) (ahead : S → ℕ) where
  -- after a call of a function all words may come again, after an external one those that are left
  abbrev pub left_behind : Callee → ℕ → ℕ
  left_behind (Inside f) left = words
  left_behind (Outside row frame) left = left

  -- where so many instructions are left up to the next unit
  abbrev pub StepForward : ℕ → Step S → Type 0
  StepForward left (Continues u) = ahead u ≤ left
  StepForward left (Pays u) = ahead u ≤ words
  StepForward left (Deepens bytes u) = ahead u ≤ left
  StepForward left (Waits call go) =
      (d : Doing) → StepForward (left_behind call.callee left) (go d)
  StepForward left (FinishesBy call kept) = Unit {0}
  StepForward left (Finishes d) = Unit {0}
  StepForward left (FinishesRaising d) = Unit {0}
  StepForward left IsStuck = Unit {0}

-- where a step may lead, at once or after calls
pub data StepLeadsTo (S : Type 0) (u : S) : Step S → Type 0 where
  continues : StepLeadsTo S u (Continues u)
  pays : StepLeadsTo S u (Pays u)
  deepens : {bytes : ℕ} → StepLeadsTo S u (Deepens bytes u)
  behind : {call : Asked} {go : Doing → Step S} (d : Doing) → StepLeadsTo S u (go d) → StepLeadsTo S u (Waits call go)

-- a state that some run of a function comes to
pub data IsReached (S : Type 0) (p : Program S) (f : ℕ) (c : ActivationSetting) : S → Type 0 where
  at_start : {arguments : List Value} {memory : Memory} {s : S} →
      p.start f c arguments memory ≡ Some s → IsReached S p f c s
  by_step : {s u : S} → IsReached S p f c s → StepLeadsTo S u (p.step f c s) → IsReached S p f c u

-- From every state that a run comes to control goes forward, but by a unit: the words that are
-- still ahead are at least those of the step and those ahead of where it leads.
pub record ProgramGoesForward (S : Type 0) (p : Program S) (w : Words S) (words : ℕ) : Type 0 where
  pub enter : (f : ℕ) (c : ActivationSetting) (arguments : List Value) (memory : Memory) (s : S) →
      p.start f c arguments memory ≡ Some s → w.entry f + w.ahead f s ≤ words
  pub cost : (f : ℕ) (c : ActivationSetting) (s : S) → IsReached S p f c s → w.cost f s ≤ w.ahead f s
  -- at most one unit is owed
  pub owed : (f : ℕ) (s : S) → w.owed f s ≤ 1
  pub on : (f : ℕ) (c : ActivationSetting) (s : S) → IsReached S p f c s →
      StepForward S words (w.ahead f) (w.ahead f s - w.cost f s) (p.step f c s)
