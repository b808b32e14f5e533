-- What the stages promise of each function of a file.
use Rattle.std.specs.Prelude.{◌≡◌, ℕ, ◌≤◌, ◌<◌, ◌^◌, true, List, Some, slice_get}
use Rattle.std.specs.List.{AllByRecursion}
use Rattle.bs_words.specs.Memory.{Memory, heap_need}
use Rattle.bs_words.specs.declared.values.Value.{Value}
use Rattle.cmm_data.specs.Contents.{first_memory}
use Rattle.cmm_data.specs.Placement.{data_end}
use Rattle.cmm_tree.specs.Measures.{nodes_in}
use Rattle.cmm_tree.specs.Tree.{FunctionTree, FileTree, functions, comps_of}
use Rattle.cmm_meaning.specs.Alone.{IsProperEnd}
use Rattle.cmm_meaning.specs.Evaluation.{OutOfFuel, Evaluation, Stops, fit_parameters}
use Rattle.cmm_meaning.specs.Layout.{Layout}
use Rattle.cmm_meaning.specs.State.{Doing, World}
use Rattle.mach_ir.specs.Keeps.{Proper}
use Rattle.mach_ir.specs.Runs.{ActivationSetting, Tally, Running, first_tally}
use Rattle.mach_ir.specs.declared.mach.Mach.{Mach}
use Rattle.lin_ir.specs.Keeps.{LinearKeeps}
use Rattle.lin_ir.specs.Meaning.{NamedAt}
use Rattle.lin_ir.specs.declared.lin.Lin.{Lin}
use Rattle.meaning_laws.specs.Handed.{AreHanded}
use Rattle.meaning_laws.specs.Units.{world_of}
use Rattle.selection_rules.specs.Bounded.{AllBounded, BoundedMemory, BoundedCode, BoundedDoings, BoundedSymbols}
use Rattle.selection_rules.specs.Select.{selected, width}
use Rattle.selection_rules.specs.Selected.{SelectedRun}
use Rattle.linking.specs.Keeps.{Runs, alone_in}
use Rattle.linking.specs.Program.{setting_in, activation_in}
use Rattle.linking_stages.specs.Stages.{mach_program}
use Rattle.mach_ir.specs.Meaning as mach

-- A run of a Mach function that does what the function of the text does, and is nowhere stuck.
pub record RunsProper (functions : ℕ → Mach) (most f : ℕ) (c : ActivationSetting) (arguments : List Value)
    (memory : Memory) (doings : List Doing) (n : ℕ) (e : Evaluation) : Type 0 where
  pub run : Runs mach.State (mach_program functions) most f c arguments memory doings n e
  pub proper : Proper c (functions f) run.steps run.begun (first_tally c doings)

-- Selection makes Mach functions that do what those of the text do, on what is known.
pub record SelectsFile (file : FileTree) (layout : Layout) (machs : ℕ → Mach) (most : ℕ)
    (IsGiven : List Value → Memory → Type 0) (IsDone : Doing → Type 0) : Type 0 where
  pub runs : (f : ℕ) (tree : FunctionTree) → slice_get (functions file) f ≡ Some tree →
      (arguments : List Value) → fit_parameters (data_end file) (comps_of tree) arguments ≡ true →
      (below : ℕ) (memory : Memory) (doings : List Doing) (n : ℕ) → IsGiven arguments memory →
      AllByRecursion IsDone doings →
      let c : ActivationSetting = activation_in file layout f below in
      let e : Evaluation = alone_in file c tree arguments memory doings n in
      IsProperEnd e → AreHanded file (world_of e).asked doings →
      RunsProper machs most f c arguments memory doings n e

-- Whatever passes lie between, the Linear function of each function of the file keeps its Mach
-- function.
pub record AreLowered (file : FileTree) (machs : ℕ → Mach) (lins : ℕ → Lin) (named : ℕ → NamedAt)
    : Type 0 where
  pub keeps : (f : ℕ) (tree : FunctionTree) → slice_get (functions file) f ≡ Some tree →
      LinearKeeps (machs f) (lins f) (named f)

-- ---- words

-- what functions are handed holds words
abbrev pub IsGivenWords : List Value → Memory → Type 0
IsGivenWords arguments memory = AllBounded arguments × BoundedMemory memory

-- A run of a selected function that comes to the end of the text's function, in words, and is nowhere
-- stuck. Where that has no units left, it has asked for no more heap.
pub record SelectedSo (c : ActivationSetting) (m : Mach) (tree : FunctionTree) (arguments : List Value)
    (memory : Memory) (doings : List Doing) (n : ℕ) (e : Evaluation) : Type 0 where
  pub run : SelectedRun mach.run_of_mach c m tree arguments memory doings n
  pub proper : Proper c m run.steps run.begun (first_tally c doings)
  pub heap : (u : World) (s : mach.State) (t : Tally) → e ≡ Stops OutOfFuel u →
      mach.run_of_mach c m run.steps run.begun (first_tally c doings) ≡ Running s t →
      heap_need s.around.memory ≤ heap_need u.memory

-- Selection has made these functions of those of a file: of each it is known that its runs are so,
-- and its body has at most so many nodes.
pub record IsSelected (file : FileTree) (layout : Layout) (machs : ℕ → Mach) (most : ℕ) : Type 0
  where
    pub nodes : (f : ℕ) (tree : FunctionTree) → slice_get (functions file) f ≡ Some tree →
        nodes_in tree.body ≤ most
    pub runs : (f : ℕ) (tree : FunctionTree) → slice_get (functions file) f ≡ Some tree →
        (arguments : List Value) →
        fit_parameters (data_end file) (comps_of tree) arguments ≡ true → (below : ℕ)
        (memory : Memory) (doings : List Doing) (n : ℕ) → IsGivenWords arguments memory →
        BoundedDoings doings →
        let c : ActivationSetting = activation_in file layout f below in
        let e : Evaluation = alone_in file c tree arguments memory doings n in
        IsProperEnd e → SelectedSo c (machs f) tree arguments memory doings n e

-- A file begins with words: those of its data and its symbols; its functions are no wider than
-- selection counts, and what is selected of them holds words.
pub record HoldsWords (file : FileTree) : Type 0 where
  pub memory : BoundedMemory (first_memory file)
  pub symbols : BoundedSymbols (setting_in file)
  pub width : (f : ℕ) (tree : FunctionTree) → slice_get (functions file) f ≡ Some tree →
      width tree.body < 2 ^ 60
  pub code : (f : ℕ) (tree : FunctionTree) → slice_get (functions file) f ≡ Some tree →
      BoundedCode (selected tree).code
