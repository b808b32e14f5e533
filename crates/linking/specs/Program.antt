-- A program: functions that step, whatever their states are. Mach and Linear are each one.
use Rattle.std.specs.Prelude.{◌≡◌, ℕ, ◌+◌, ◌≤◌, max, List, [], Option, Some, map, slice_index}
use Rattle.bs_words.specs.Memory.{Memory, heap_need}
use Rattle.bs_words.specs.declared.values.Value.{Value}
use Rattle.cmm_data.specs.Placement.{data_end, value_of_symbol}
use Rattle.cmm_tree.specs.Tree.{FileTree, functions, comps_of}
use Rattle.cmm_meaning.specs.Layout.{Layout}
use Rattle.cmm_meaning.specs.Setting.{Setting}
use Rattle.cmm_meaning.specs.State.{Doing, Callee, Inside, Outside}
use Rattle.mach_ir.specs.Runs.{ActivationSetting, Step, Continues, Pays, Deepens, Waits, FinishesBy, Finishes, FinishesRaising, IsStuck, Tally, RunProgress, Running, Asking, Ended, Wrong}
use Rattle.meaning_laws.specs.Fitting.{memory_after}

pub record Program (S : Type 0) : Type 0 where
  -- where a function, by its number, begins on these arguments; where they do not fit it does not
  pub start : ℕ → ActivationSetting → List Value → Memory → Option S
  pub step : ℕ → ActivationSetting → S → Step S
  -- the bytes of stack that are in use, and of heap
  pub stack : ActivationSetting → S → ℕ
  pub heap : S → ℕ

abbrev pub setting_in : FileTree → Setting
setting_in file =
    record {
      end = data_end file;
      symbol = value_of_symbol file;
      parameters = map comps_of (functions file);
    }

-- what is round a function of a file, on so many stack bytes
abbrev pub activation_in : FileTree → Layout → (f below : ℕ) → ActivationSetting
activation_in file layout f below =
    record { setting = setting_in file; below = below; frame = slice_index layout.frames f }

-- ---- what a run reports

abbrev pub tally_of : {S : Type 0} → RunProgress S → Tally
tally_of (Running s t) = t
tally_of (Asking call t) = t
tally_of (Ended d t) = t
tally_of Wrong = record { asked = []; doings = []; units = 0; need = 0 }

-- it is not stuck
abbrev pub IsMoving : {S : Type 0} → RunProgress S → Type 0
IsMoving (Running s t) = Unit {0}
IsMoving (Asking call t) = Unit {0}
IsMoving (Ended d t) = Unit {0}
IsMoving Wrong = ⊥

-- a call of a function is a unit
abbrev pub unit_of : Callee → ℕ
unit_of (Inside f) = 1
unit_of (Outside row frame) = 0

-- ---- a program is regular

-- what a step pays
abbrev pub paid_by : {S : Type 0} → Step S → ℕ
paid_by (Pays u) = 1
paid_by (FinishesRaising d) = 1
paid_by _ = 0

module _ (S : Type 0) (p : Program S) (c : ActivationSetting) where
  -- A step from where so many bytes of stack and of heap are in use leads to no more stack than it
  -- says, and to no less heap. Behind a call of a function, which is a unit, it pays none.
  abbrev pub IsRegularStep : (stack heap : ℕ) → Step S → Type 0
  IsRegularStep stack heap (Continues u) = (p.stack c u ≤ stack) × (heap ≤ p.heap u)
  IsRegularStep stack heap (Pays u) = (p.stack c u ≤ stack) × (heap ≤ p.heap u)
  IsRegularStep stack heap (Deepens bytes u) =
      (p.stack c u ≤ max stack bytes) × (heap ≤ p.heap u)
  IsRegularStep stack heap (Waits call go) =
      (heap ≤ heap_need call.memory)
      × ((d : Doing) → paid_by (go d) + unit_of call.callee ≤ 1)
      × ((d : Doing) → heap_need call.memory ≤ heap_need (memory_after d) →
      IsRegularStep stack heap (go d))
  IsRegularStep stack heap (FinishesBy call kept) = heap ≤ heap_need call.memory
  IsRegularStep stack heap (Finishes d) = heap ≤ heap_need (memory_after d)
  IsRegularStep stack heap (FinishesRaising d) = heap ≤ heap_need (memory_after d)
  IsRegularStep stack heap IsStuck = Unit {0}

-- The needs of a program are what its tallies and its memories say.
pub record IsRegularProgram (S : Type 0) (p : Program S) : Type 0 where
  pub start : (f : ℕ) (c : ActivationSetting) (arguments : List Value) (memory : Memory) (s : S) →
      p.start f c arguments memory ≡ Some s → p.stack c s ≤ c.below + c.frame
  pub step : (f : ℕ) (c : ActivationSetting) (s : S) →
      IsRegularStep S p c (p.stack c s) (p.heap s) (p.step f c s)
