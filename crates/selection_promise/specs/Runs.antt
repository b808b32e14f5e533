-- Runs of a Mach function beside evaluations of a text's function alone, where the same is handed in for their calls.
use Rattle.std.specs.Prelude.{◌≡◌, ℕ, suc, ◌+◌, ◌*◌, ◌≤◌, true, List, Option, Some}
use Rattle.bs_words.specs.Fits.{fits}
use Rattle.bs_words.specs.Memory.{Memory, heap_need}
use Rattle.bs_words.specs.declared.types.Ty.TheVariants as ty
use Rattle.bs_words.specs.declared.values.Value.{Value}
use Rattle.cmm_tree.specs.Measures.{nodes_in}
use Rattle.cmm_tree.specs.Tree.{FunctionTree, comps_of}
use Rattle.cmm_meaning.specs.Alone.{alone, IsProperEnd}
use Rattle.cmm_meaning.specs.Evaluation.{Evaluation, Gives, Raises, Stops, OutOfFuel, fit_parameters, bound_error}
use Rattle.cmm_meaning.specs.Evaluation as evaluation
use Rattle.cmm_meaning.specs.Setting.{Setting}
use Rattle.cmm_meaning.specs.State.{Doing, Gave, Threw, Asked, World, Here}
use Rattle.meaning_laws.specs.Pace.{pending_calls}
use Rattle.meaning_laws.specs.Units.{world_of}
use Rattle.mach_ir.specs.Keeps.{Proper}
use Rattle.mach_ir.specs.Meaning.{State, mach_start, run_of_mach}
use Rattle.mach_ir.specs.Runs.{ActivationSetting, Tally, RunProgress, Running, Asking, Ended, first_tally}
use Rattle.mach_ir.specs.declared.mach.Mach.{Mach}
use Rattle.selection_rules.specs.Bounded.{AllBounded, BoundedMemory, BoundedDoings, BoundedSymbols}

-- What is said of a run is what is said of an evaluation of n units.
pub record Beside (f : FunctionTree) (n : ℕ) (e : Evaluation) (t : Tally) : Type 0 where
  -- the calls that came back, each with its arguments, the memory and the stack bytes that it found,
  -- and the tries pushed round it
  pub asked : t.asked ≡ (world_of e).asked
  -- what is left of what is handed in
  pub doings : t.doings ≡ (world_of e).doings
  -- the most stack bytes, 16 for each pushed try
  pub need : t.need ≡ (world_of e).stack_need
  -- it has spent at most one unit for each node that has begun, and has one left for a call that it
  -- asks for
  pub no_more : t.units + (pending_calls e + (world_of e).left) ≤ n
  -- between two units no more nodes begin than the body has
  pub enough : n ≤ (world_of e).left + nodes_in f.body * suc t.units

-- a run has come to the end of an evaluation
pub data EndsAs (f : FunctionTree) (n : ℕ) : Evaluation → RunProgress State → Type 0 where
  returned : {v : Option Value} {h : Here} {w : World} {t : Tally} →
      Beside f n (Gives v h w) t → EndsAs f n (Gives v h w) (Ended (Gave v w.memory) t)
  threw : {v : Value} {h : Here} {w : World} {t : Tally} →
      Beside f n (Raises v h w) t → EndsAs f n (Raises v h w) (Ended (Threw v w.memory) t)
  -- it has asked for no more heap
  running : {w : World} {s : State} {t : Tally} → Beside f n (Stops OutOfFuel w) t →
      heap_need s.around.memory ≤ heap_need w.memory →
      EndsAs f n (Stops OutOfFuel w) (Running s t)
  asking : {call : Asked} {w : World} {t : Tally} →
      Beside f n (Stops (evaluation.Asking call) w) t →
      EndsAs f n (Stops (evaluation.Asking call) w) (Asking call t)

-- the evaluation of a function alone, at a place
abbrev pub evaluated : ActivationSetting → FunctionTree → List Value → Memory → List Doing → ℕ → Evaluation
evaluated c f arguments memory doings n =
    alone c.setting.end c.setting.symbol c.setting.parameters c.frame f arguments c.below memory
    doings n

-- A run of so many steps comes to the end of an evaluation, and is nowhere stuck on the way.
pub record ComesToEnd (c : ActivationSetting) (f : FunctionTree) (m : Mach) (n : ℕ) (e : Evaluation) (s : State)
    (t : Tally) : Type 0 where
  pub steps : ℕ
  pub ends : EndsAs f n e (run_of_mach c m steps s t)
  pub proper : Proper c m steps s t

-- The function begins, and where the evaluation is proper it comes to its end.
pub record Plays (c : ActivationSetting) (f : FunctionTree) (m : Mach) (arguments : List Value) (memory : Memory)
    (doings : List Doing) (n : ℕ) : Type 0 where
  pub begun : State
  pub begins : mach_start c m arguments memory ≡ Some begun
  pub comes : IsProperEnd (evaluated c f arguments memory doings n) →
      ComesToEnd c f m n (evaluated c f arguments memory doings n) begun (first_tally c doings)

-- The symbols of a file stand for words and functions, and its data holds the block that a failed
-- bound test raises.
pub record IsSetting (s : Setting) : Type 0 where
  pub symbols : BoundedSymbols s
  pub bound_error : fits s.end ty.Val bound_error ≡ true

-- every number is a word
pub record HoldWords (arguments : List Value) (memory : Memory) (doings : List Doing) : Type 0 where
  pub given : AllBounded arguments
  pub cells : BoundedMemory memory
  pub handed : BoundedDoings doings

-- So it is for every place, all arguments that fit, every memory, all that may be handed in, and every
-- number of units.
abbrev pub PlaysAs : FunctionTree → Mach → Type 0
PlaysAs f m =
    (c : ActivationSetting) → IsSetting c.setting → (arguments : List Value) (memory : Memory)
    (doings : List Doing) (n : ℕ) → HoldWords arguments memory doings →
    fit_parameters c.setting.end (comps_of f) arguments ≡ true →
    Plays c f m arguments memory doings n
