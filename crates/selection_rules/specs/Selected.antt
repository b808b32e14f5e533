-- A run of selected code, and the evaluation of its function alone that it meets.
use Rattle.std.specs.Prelude.{◌≡◌, ℕ, suc, ◌+◌, ◌*◌, ◌≤◌, List, Option, Some}
use Rattle.bs_words.specs.Memory.{Memory}
use Rattle.bs_words.specs.declared.values.Kind.{Kind}
use Rattle.bs_words.specs.declared.values.Value.{Value}
use Rattle.cmm_tree.specs.Measures.{nodes_in}
use Rattle.cmm_tree.specs.Tree.{FunctionTree, LabelTree}
use Rattle.cmm_meaning.specs.Alone.{alone}
use Rattle.cmm_meaning.specs.Evaluation.{OutOfFuel, NotProper, Evaluation, Gives, Exits, Raises, Stops}
use Rattle.cmm_meaning.specs.Evaluation as eval
use Rattle.cmm_meaning.specs.State.{Asked, Doing, Gave, Here, Threw, World}
use Rattle.meaning_laws.specs.Pace.{pending_calls}
use Rattle.meaning_laws.specs.Units.{world_of}
use Rattle.mach_ir.specs.Meaning.{State, mach_start}
use Rattle.mach_ir.specs.Runs.{ActivationSetting, Tally, RunProgress, Running, Asking, Ended, first_tally}
use Rattle.mach_ir.specs.declared.mach.Mach.{Mach}

-- the calls, what is left of what is handed in, and the need are the same
pub record IsTallyOf (t : Tally) (w : World) : Type 0 where
  pub asked : t.asked ≡ w.asked
  pub doings : t.doings ≡ w.doings
  pub need : t.need ≡ w.stack_need

-- The run of a machine ends as an evaluation of a function alone, and has spent so many units in all; nothing is said
-- where that is improper. Where the evaluation has no units left the run has its memory.
pub data MeetsEvaluation (u : ℕ) : Evaluation → RunProgress State → Type 0 where
  returned : {v : Option Value} {h : Here} {w : World} {t : Tally} → IsTallyOf t w → t.units ≡ u
      → MeetsEvaluation u (Gives v h w) (Ended (Gave v w.memory) t)
  threw : {v : Value} {h : Here} {w : World} {t : Tally} → IsTallyOf t w → t.units ≡ u
      → MeetsEvaluation u (Raises v h w) (Ended (Threw v w.memory) t)
  running : {w : World} {s : State} {t : Tally} → IsTallyOf t w → t.units ≡ u → s.around.memory ≡ w.memory
      → MeetsEvaluation u (Stops OutOfFuel w) (Running s t)
  asking : {call : Asked} {w : World} {t : Tally} → IsTallyOf t w → t.units ≡ u
      → MeetsEvaluation u (Stops (eval.Asking call) w) (Asking call t)
  improper : {kind : Kind} {w : World} {r : RunProgress State}
      → MeetsEvaluation u (Stops (NotProper kind) w) r
  left_by_exit : {label : LabelTree} {values : List Value} {h : Here} {w : World} {r : RunProgress State}
      → MeetsEvaluation u (Exits label values h w) r

-- one run of the code of a function, by a machine that runs so, beside its evaluation alone
pub record SelectedRun (runs : ActivationSetting → Mach → ℕ → State → Tally → RunProgress State)
    (c : ActivationSetting) (m : Mach) (f : FunctionTree) (arguments : List Value) (memory : Memory)
    (doings : List Doing) (n : ℕ) : Type 0 where
  pub begun : State
  pub begins : mach_start c m arguments memory ≡ Some begun
  pub steps : ℕ
  pub units : ℕ
  pub meets :
      MeetsEvaluation units
      (alone c.setting.end c.setting.symbol c.setting.parameters c.frame f arguments c.below memory doings n)
      (runs c m steps begun (first_tally c doings))
  pub no_more :
      let e : Evaluation =
      alone c.setting.end c.setting.symbol c.setting.parameters c.frame f arguments c.below memory doings n in
      units + (pending_calls e + (world_of e).left) ≤ n
  pub enough :
      let e : Evaluation =
      alone c.setting.end c.setting.symbol c.setting.parameters c.frame f arguments c.below memory doings n in
      n ≤ (world_of e).left + nodes_in f.body * suc units
