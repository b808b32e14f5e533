-- What is shown of an image, for every stack, heap, schedule and entry, so that it is correct for
-- its file.
use Rattle.std.specs.Prelude.{◌≡◌, ℕ, ◌+◌, ◌≤◌, true, List, [], Option, Some, None, map, length, option_map, slice_get}
use Rattle.std.specs.List.{AllByRecursion}
use Rattle.bs_words.specs.Fits.{fits}
use Rattle.bs_words.specs.Memory.{Memory}
use Rattle.bs_words.specs.declared.types.Ret.{Ret}
use Rattle.bs_words.specs.declared.types.Ty.TheVariants as ty
use Rattle.bs_words.specs.declared.values.Value.{Value}
use Rattle.bs_words.specs.declared.values.Value.TheVariants.{Word}
use Rattle.cmm_data.specs.Contents.{first_memory}
use Rattle.cmm_data.specs.Placement.{data_end}
use Rattle.cmm_tree.specs.Tree.{FunctionTree, FileTree, functions, comps_of}
use Rattle.cmm_meaning.specs.Layout.{Layout, observed}
use Rattle.cmm_meaning.specs.Evaluation.{OutOfFuel, Asking, Evaluation, Gives, Raises, Stops, fit_parameters}
use Rattle.cmm_meaning.specs.State.{Doing, Gave, Threw, Asked}
use Rattle.correctness.specs.Setting.{layout_of, AreRowsOf, IsWord, AreWords, Entered}
use Rattle.guarded_machine.specs.Guarded.{guarded_of}
use Rattle.image_form.specs.Tables.{Tables, Func}
use Rattle.meaning_laws.specs.Fitting.{FitsResult}
use Rattle.rv_machine.specs.Loading.{IsRoom}
use Rattle.rv_machine.specs.Run.{Schedule, Seen, seen, begun}
use Rattle.rv_machine.specs.Services.{Now}
use Rattle.rv_machine.specs.Services as machine
use Rattle.linking.specs.Program.{Program, activation_in, IsRegularProgram}
use Rattle.linking.specs.Pace.{Words, ProgramGoesForward}
use Rattle.linking.specs.Keeps.{ProgramKeeps, alone_in}
use Rattle.linking.specs.Carries.{Outer, EventuallyHolds, Near, Carries}

-- ---- where a run begins and ends

-- The stub: two instructions after the return, or the raise, of the entry the run is over.
pub record IsStub (X : Type 0) (next : X → X) (see : X → Seen) (stack heap : ℕ) (layout : Layout)
    (end : ℕ) (result : Ret) (Back : Doing → Outer → X → Type 0) : Type 0 where
  pub returned : (v : Option Value) (memory : Memory) (o : Outer) (x : X) →
      FitsResult end result v → Back (Gave v memory) o x →
      EventuallyHolds X next see stack heap 0 0 o.made
      (Near 0 2 (λ y. see y ≡ record {
        calls = o.made;
        end = machine.Returned (option_map (observed layout) v);
      })) x
  pub raised : (v : Value) (memory : Memory) (o : Outer) (x : X) → fits end ty.Val v ≡ true →
      Back (Threw v memory) o x →
      EventuallyHolds X next see stack heap 0 0 o.made
      (Near 0 2 (λ y. see y ≡ record { calls = o.made; end = machine.Raised (observed layout v) }))
      x

-- ---- what is known of all that is handed to functions and back

module _ (IsGiven : List Value → Memory → Type 0) (IsDone : Doing → Type 0) where
  abbrev pub IsKnownAsked : Asked → Type 0
  IsKnownAsked call = IsGiven call.arguments call.memory

  -- what a function did alone: its calls, and its end
  abbrev pub IsKnownEvaluation : Evaluation → Type 0
  IsKnownEvaluation (Gives v h w) = AllByRecursion IsKnownAsked w.asked × IsDone (Gave v w.memory)
  IsKnownEvaluation (Raises v h w) = AllByRecursion IsKnownAsked w.asked × IsDone (Threw v w.memory)
  IsKnownEvaluation (Stops (Asking call) w) = AllByRecursion IsKnownAsked w.asked × IsKnownAsked call
  IsKnownEvaluation (Stops OutOfFuel w) = AllByRecursion IsKnownAsked w.asked
  IsKnownEvaluation _ = Unit {0}

  -- What is known of all that is handed to a function is known of what it hands to others and back:
  -- that it holds words, say. It is known of what an entry is handed, and of answers.
  pub record IsPassedOn (file : FileTree) (layout : Layout) : Type 0 where
    pub entry : (words : List ℕ) → AreWords words → IsGiven (map Word words) (first_memory file)
    pub alone : (f : ℕ) (tree : FunctionTree) → slice_get (functions file) f ≡ Some tree →
        (arguments : List Value) →
        fit_parameters (data_end file) (comps_of tree) arguments ≡ true → (below : ℕ)
        (memory : Memory) (doings : List Doing) (n : ℕ) → IsGiven arguments memory →
        AllByRecursion IsDone doings →
        IsKnownEvaluation (alone_in file (activation_in file layout f below) tree arguments memory doings n)
    pub nothing : (arguments : List Value) (memory : Memory) → IsGiven arguments memory →
        IsDone (Gave None memory)
    pub answer : (arguments : List Value) (memory : Memory) (a : ℕ) → IsGiven arguments memory →
        IsWord a → IsDone (Gave (Some (Word a)) memory) × IsDone (Threw (Word a) memory)

-- ---- an image

-- A run of an image: on so many bytes, under this schedule, from the entry of this row.
pub record Setup : Type 0 where
  pub stack : ℕ
  pub heap : ℕ
  pub stack_room : IsRoom stack
  pub heap_room : IsRoom heap
  pub schedule : Schedule
  pub row : Func

module _ (S : Type 0) (p : Program S) (w : Words S) (most words : ℕ) (file : FileTree)
    (image : Tables) (IsGiven : List Value → Memory → Type 0) (IsDone : Doing → Type 0)
    (Below : Type 0) (At : Setup → Below → ℕ → ℕ → S → Outer → Now → Type 0)
    (Entry : Setup → Below → ℕ → ℕ → List Value → Memory → Outer → Now → Type 0)
    (Back : Setup → Below → Doing → Outer → Now → Type 0) where
  pub record Assembled : Type 0 where
    pub rows : AreRowsOf (functions file) image.funcs
    pub words_fit : words + 1 ≤ length image.code
    -- each function does what the text says
    pub keeps : ProgramKeeps S p file (layout_of image) most IsGiven IsDone
    pub passed : IsPassedOn IsGiven IsDone file (layout_of image)
    pub regular : IsRegularProgram S p
    -- and takes no more instructions between two units than the code has words
    pub forward : ProgramGoesForward S p w words
    -- where the entry is begun, below it there is only the stub
    pub bottom : Below
    pub start : (run : Setup) (entry : ℕ) (args answers : List ℕ) (f : FunctionTree) →
        Entered file image entry f run.row args answers →
        Entry run bottom entry 0 (map Word args) (first_memory file)
        (record { made = []; answers = answers })
        (begun image run.row args answers run.stack run.heap)
    -- the machine carries the program out, and refuses no allocation on its way: each is asked in need
    pub carries : (run : Setup) →
        Carries S p w file (layout_of image) Now (guarded_of run.schedule) seen run.stack run.heap
        Below (At run) (Entry run) (Back run)
    pub stub : (run : Setup) (entry : ℕ) → slice_get image.funcs entry ≡ Some run.row →
        IsStub Now (guarded_of run.schedule) seen run.stack run.heap (layout_of image) (data_end file)
        run.row.result (λ d o x. Back run bottom d o x)
