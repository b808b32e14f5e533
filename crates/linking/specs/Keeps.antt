-- A function of a program does what the function of the text does alone, whatever is handed in for
-- its calls.
use Rattle.std.specs.Prelude.{◌≡◌, ℕ, suc, ◌+◌, ◌*◌, ◌≤◌, true, List, Option, Some, map, slice_get}
use Rattle.std.specs.List.{AllByRecursion}
use Rattle.bs_words.specs.Memory.{Memory, heap_need}
use Rattle.bs_words.specs.declared.values.Value.{Value}
use Rattle.cmm_data.specs.Placement.{data_end, value_of_symbol}
use Rattle.cmm_tree.specs.Tree.{FunctionTree, FileTree, functions, comps_of}
use Rattle.cmm_meaning.specs.Alone.{alone, IsProperEnd}
use Rattle.cmm_meaning.specs.Layout.{Layout}
use Rattle.cmm_meaning.specs.State.{Doing, Gave, Threw, Asked, World, Here}
use Rattle.cmm_meaning.specs.Evaluation.{OutOfFuel, Asking, Evaluation, Gives, Raises, Stops, fit_parameters}
use Rattle.mach_ir.specs.Runs.{ActivationSetting, Tally, RunProgress, Running, Ended, runs, first_tally}
use Rattle.mach_ir.specs.Runs as run
use Rattle.meaning_laws.specs.Handed.{AreHanded}
use Rattle.meaning_laws.specs.Pace.{pending_calls}
use Rattle.meaning_laws.specs.Units.{world_of}
use Rattle.linking.specs.Program.{Program, activation_in, tally_of}

module _ (S : Type 0) (p : Program S) where
  -- How a function of a program ends, where the function of the text alone ends so. Where that has
  -- no units left, the program has not asked for more heap.
  pub data ProgramEndsAs : Evaluation → RunProgress S → Type 0 where
    gives : {v : Option Value} {h : Here} {u : World} {d : Doing} {t : Tally} →
        d ≡ Gave v u.memory → ProgramEndsAs (Gives v h u) (Ended d t)
    raises : {v : Value} {h : Here} {u : World} {d : Doing} {t : Tally} →
        d ≡ Threw v u.memory → ProgramEndsAs (Raises v h u) (Ended d t)
    out_of_units : {u : World} {s : S} {t : Tally} → p.heap s ≤ heap_need u.memory →
        ProgramEndsAs (Stops OutOfFuel u) (Running s t)
    asks : {u : World} {call asked : Asked} {t : Tally} → call ≡ asked →
        ProgramEndsAs (Stops (Asking asked) u) (run.Asking call t)

  -- A run of a function of a program, beside the evaluation of the function of the text alone with
  -- n units: the same calls and the same end, no more stack, no more units and not too few, where
  -- the text pays at most so many between two of the program's.
  pub record Same (most n : ℕ) (e : Evaluation) (r : RunProgress S) : Type 0 where
    pub calls : (tally_of r).asked ≡ (world_of e).asked
    pub no_more : (tally_of r).units + (pending_calls e + (world_of e).left) ≤ n
    pub enough : n ≤ (world_of e).left + most * suc (tally_of r).units
    pub stack : (tally_of r).need ≤ (world_of e).stack_need
    pub end : ProgramEndsAs e r

  -- The program's function begins, and some run of it is the same.
  pub record Runs (most : ℕ) (f : ℕ) (c : ActivationSetting) (arguments : List Value) (memory : Memory)
      (doings : List Doing) (n : ℕ) (e : Evaluation) : Type 0 where
    pub begun : S
    pub begins : p.start f c arguments memory ≡ Some begun
    pub steps : ℕ
    pub same : Same most n e (runs (p.step f c) steps begun (first_tally c doings))

-- the function of a file alone
abbrev pub alone_in : FileTree → ActivationSetting → FunctionTree → List Value → Memory → List Doing → ℕ →
    Evaluation
alone_in file c f arguments memory doings n =
    alone (data_end file) (value_of_symbol file) (map comps_of (functions file)) c.frame f arguments
    c.below memory doings n

-- Each function of the program does so, on arguments that fit, in a memory, and with doings of its
-- calls, of which something is known: that they hold words, say. What is handed in is what calls do
-- in the run of a whole file.
pub record ProgramKeeps (S : Type 0) (p : Program S) (file : FileTree) (layout : Layout) (most : ℕ)
    (IsGiven : List Value → Memory → Type 0) (IsDone : Doing → Type 0) : Type 0 where
  pub runs : (f : ℕ) (tree : FunctionTree) → slice_get (functions file) f ≡ Some tree →
      (arguments : List Value) → fit_parameters (data_end file) (comps_of tree) arguments ≡ true →
      (below : ℕ) (memory : Memory) (doings : List Doing) (n : ℕ) → IsGiven arguments memory →
      AllByRecursion IsDone doings →
      let c : ActivationSetting = activation_in file layout f below in
      let e : Evaluation = alone_in file c tree arguments memory doings n in
      IsProperEnd e → AreHanded file (world_of e).asked doings →
      Runs S p most f c arguments memory doings n e
