-- An image is correct for a file: the machine does what the text means.
--
-- The two directions are relations between functions of a number, units of the text's run and instructions
-- of the machine. The bound on instructions is in the forward part.
use Rattle.std.specs.Prelude.{◌≡◌, ⊤, ℕ, ◌+◌, ◌*◌, ◌<◌, ◌≤◌, List, length}
use Rattle.cmm_meaning.specs.Run.{Outcome, Returned, Raised, Asks, More, Improper, IsProper, Run, cmm_run}
use Rattle.cmm_tree.specs.Tree.{FunctionTree, FileTree, functions}
use Rattle.correctness.specs.Setting.{layout_of, AreRowsOf, Entered}
use Rattle.image_form.specs.Tables.{Tables, Func}
use Rattle.machine_laws.specs.Steps.{IsFrontOf}
use Rattle.rv_machine.specs.Loading.{IsRoom}
use Rattle.rv_machine.specs.Run.{Schedule, Seen, machine_run}
use Rattle.rv_machine.specs.Services.{End, Running, StackOut, HeapOut, Stopped}
use Rattle.rv_machine.specs.Services as machine

-- ---- how two runs compare

-- the machine has come to the same end, and runs where the text's run goes on; nothing is asked of it
-- where that run is improper
abbrev pub EndsAlike : Outcome → End → Type 0
EndsAlike (Returned value) end = end ≡ machine.Returned value
EndsAlike (Raised value) end = end ≡ machine.Raised value
EndsAlike (Asks call) end = end ≡ machine.Asks call
EndsAlike More end = end ≡ Running
EndsAlike (Improper kind) end = ⊤

pub record Alike (run : Run) (now : Seen) : Type 0 where
  pub calls : now.calls ≡ run.calls
  pub end : EndsAlike run.outcome now.end

-- the run is proper, and what it needs fits
pub record IsGiven (run : Run) (stack heap : ℕ) : Type 0 where
  pub proper : IsProper run.outcome
  pub stack_fits : run.stack_need ≤ stack
  pub heap_fits : run.heap_need ≤ heap

-- ---- the two parts, for one entry with its words, and one schedule

-- Forwards: whatever the text's run does with n units, the machine does, and within so many
-- instructions.
pub record Forwards (run : ℕ → Run) (machine : ℕ → Seen) (stack heap words : ℕ) : Type 0 where
  pub does : (n : ℕ)
      → IsGiven (run n) stack heap
      → (m : ℕ) × (m ≤ 2 * (n + 1) * words) × Alike (run n) (machine m)

-- the state of the machine is accounted for by runs of the text
abbrev pub Accounted : (ℕ → Run) → ℕ → ℕ → Seen → End → Type 0
Accounted run stack heap now Running = ⊤
Accounted run stack heap now (machine.Returned value) = (n : ℕ) × Alike (run n) now
Accounted run stack heap now (machine.Raised value) = (n : ℕ) × Alike (run n) now
Accounted run stack heap now (machine.Asks call) = (n : ℕ) × Alike (run n) now
Accounted run stack heap now StackOut = (n : ℕ) × (stack < (run n).stack_need)
Accounted run stack heap now HeapOut = (n : ℕ) × (heap < (run n).heap_need)
Accounted run stack heap now (Stopped cause) = ⊥

-- Backwards: where no run of the text is improper, the machine does nothing that no such run does.
pub record Backwards (run : ℕ → Run) (machine : ℕ → Seen) (stack heap : ℕ) : Type 0 where
  pub calls : ((n : ℕ) → IsProper (run n).outcome)
      → (m : ℕ)
      → (n : ℕ) × IsFrontOf (machine m).calls (run n).calls
  pub end : ((n : ℕ) → IsProper (run n).outcome)
      → (m : ℕ)
      → Accounted run stack heap (machine m) (machine m).end

-- ---- the whole

-- Both directions, for every function of the file, words that fit it, answers, and schedule of the mover.
pub record Correct (file : FileTree) (image : Tables) (stack heap : ℕ) : Type 0 where
  pub rows : AreRowsOf (functions file) image.funcs
  pub forwards : (entry : ℕ) (f : FunctionTree) (row : Func) (args answers : List ℕ) (schedule : Schedule)
      → Entered file image entry f row args answers
      → Forwards (cmm_run file (layout_of image) entry args answers)
      (machine_run image row args answers stack heap schedule) stack heap
      (length image.code)
  pub backwards : (entry : ℕ) (f : FunctionTree) (row : Func) (args answers : List ℕ) (schedule : Schedule)
      → Entered file image entry f row args answers
      → Backwards (cmm_run file (layout_of image) entry args answers)
      (machine_run image row args answers stack heap schedule) stack heap

-- for every stack and heap that a run may have
abbrev pub IsCorrect : FileTree → Tables → Type 0
IsCorrect file image = (stack heap : ℕ) → IsRoom stack → IsRoom heap → Correct file image stack heap
