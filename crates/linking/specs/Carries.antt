-- A machine that carries out a program. Its states only stand for those of the program: how, is
-- known by predicates, which may hide where blocks lie, and when the mover asks.
--
-- A callee's place below its caller is what the machine gives when it is entered. So no stack of suspended
-- callers is part of any statement of linking.
use Rattle.std.specs.Prelude.{◌≡◌, ℕ, suc, ◌+◌, ◌-◌, ◌*◌, ◌≤◌, ◌<◌, ◌⊎◌, List, Some}
use Rattle.bs_words.specs.Memory.{Memory, heap_need}
use Rattle.bs_words.specs.Observed.{Made}
use Rattle.bs_words.specs.declared.types.Ret.{Ret}
use Rattle.bs_words.specs.declared.values.Value.{Value}
use Rattle.cmm_data.specs.Placement.{data_end}
use Rattle.cmm_tree.specs.Tree.{FileTree}
use Rattle.cmm_meaning.specs.Layout.{Layout}
use Rattle.cmm_meaning.specs.Run.{outside}
use Rattle.cmm_meaning.specs.State.{Doing, Gave, Threw, Asked, Callee, Inside, Outside, World}
use Rattle.cmm_meaning.specs.Evaluation.{OutOfFuel, NoAnswer, Evaluation, Gives, Raises, Stops}
use Rattle.machine_laws.specs.Steps.{moments, IsFrontOf}
use Rattle.mach_ir.specs.Runs.{kept_of, Step, Continues, Pays, Deepens, Waits, FinishesBy, Finishes, FinishesRaising, IsStuck}
use Rattle.rv_machine.specs.Run.{Seen}
use Rattle.rv_machine.specs.Services.{Running, StackOut, HeapOut}
use Rattle.rv_machine.specs.Services as machine
use Rattle.linking.specs.Program.{Program, activation_in}
use Rattle.linking.specs.Pace.{Words, IsReached}

-- What a run has with the outside: the calls that were made, and the answers that are left.
pub record Outer : Type 0 where
  pub made : List Made
  pub answers : List ℕ

abbrev pub outer_of : World → Outer
outer_of w = record { made = w.made; answers = w.answers }

-- ---- how a machine comes to a state

module _ (X : Type 0) (next : X → X) (see : X → Seen) (stack heap : ℕ) where
  -- There was no room: some need was greater than what there is.
  pub data Out (stack_need heap_need : ℕ) (made : List Made) (x : X) : Type 0 where
    no_stack : stack < stack_need → (see x).end ≡ StackOut → IsFrontOf (see x).calls made →
        Out stack_need heap_need made x
    no_heap : heap < heap_need → (see x).end ≡ HeapOut → IsFrontOf (see x).calls made →
        Out stack_need heap_need made x

  -- After some instructions this holds, or there was no room.
  pub record EventuallyHolds (stack_need heap_need : ℕ) (made : List Made) (P : ℕ → X → Type 0) (x : X)
      : Type 0 where
    pub count : ℕ
    pub at : P count (moments next count x) ⊎ Out stack_need heap_need made (moments next count x)

-- at least so many instructions, and at most so many
pub record Near {X : Type 0} (least most : ℕ) (P : X → Type 0) (count : ℕ) (x : X) : Type 0 where
  pub lower : least ≤ count
  pub upper : count ≤ most
  pub at : P x

-- ---- one step

module _ (S : Type 0) (p : Program S) (w : Words S) (file : FileTree) (layout : Layout)
    (X : Type 0) (next : X → X) (see : X → Seen) (stack heap : ℕ)
    -- what lies below a function on the stack
    (Below : Type 0)
    -- a function, by its number and on so many stack bytes, is before a step
    (At : Below → ℕ → ℕ → S → Outer → X → Type 0)
    -- it is about to begin
    (Entry : Below → ℕ → ℕ → List Value → Memory → Outer → X → Type 0)
    -- it has done so
    (Back : Below → Doing → Outer → X → Type 0) where
  -- where a step has come to that makes no call
  abbrev pub IsAfterStep : Below → (f below : ℕ) → Step S → Outer → X → Type 0
  IsAfterStep a f below (Continues u) o x = At a f below u o x
  IsAfterStep a f below (Pays u) o x = At a f below u o x
  IsAfterStep a f below (Deepens bytes u) o x = At a f below u o x
  IsAfterStep a f below (Waits call go) o x = ⊥
  IsAfterStep a f below (FinishesBy call kept) o x = ⊥
  IsAfterStep a f below (Finishes d) o x = Back a d o x
  IsAfterStep a f below (FinishesRaising d) o x = Back a d o x
  IsAfterStep a f below IsStuck o x = Unit {0}

  -- A callee begins above its caller, and whatever it does, the caller goes on after it.
  pub record CarriesCall (most : ℕ) (f below : ℕ) (a : Below) (callee : ℕ) (call : Asked)
      (go : Doing → Step S) (o : Outer) (x : X) : Type 0 where
    pub above : Below
    pub enters : EventuallyHolds X next see stack heap 0 0 o.made
        (Near 1 most (Entry above callee call.below call.arguments call.memory o)) x
    pub resumes : (d : Doing) (v : Outer) (y : X) → Back above d v y → IsAfterStep a f below (go d) v y

  -- What an external call does in the run of a text, the machine does.
  abbrev pub CarriesOutside : ℕ → (f below : ℕ) → Below → (Doing → Step S) → X → Evaluation →
      Type 0
  CarriesOutside most f below a go x (Gives v h u) =
      EventuallyHolds X next see stack heap 0 (heap_need u.memory) u.made
      (Near 1 most (IsAfterStep a f below (go (Gave v u.memory)) (outer_of u))) x
  CarriesOutside most f below a go x (Raises v h u) =
      EventuallyHolds X next see stack heap 0 (heap_need u.memory) u.made
      (Near 1 most (IsAfterStep a f below (go (Threw v u.memory)) (outer_of u))) x
  CarriesOutside most f below a go x (Stops (NoAnswer call) u) =
      EventuallyHolds X next see stack heap 0 (heap_need u.memory) u.made
      (Near 0 most (λ y. see y ≡ record { calls = u.made; end = machine.Asks call })) x
  CarriesOutside most f below a go x _ = Unit {0}

  abbrev pub CarriesAsked : ℕ → (f below : ℕ) → Below → Asked → (Doing → Step S) → Callee →
      Outer → X → Type 0
  CarriesAsked most f below a call go (Inside callee) o x =
      CarriesCall most f below a callee call go o x
  CarriesAsked most f below a call go (Outside row frame) o x =
      (v : World) → v.memory ≡ call.memory → outer_of v ≡ o →
      CarriesOutside most f below a go x (outside (data_end file) layout row frame call.arguments v)

  -- a call that takes the function's place begins where the function began
  abbrev pub CarriesTail : ℕ → Below → Asked → Callee → Outer → X → Type 0
  CarriesTail most a call (Inside callee) o x =
      EventuallyHolds X next see stack heap 0 0 o.made
      (Near 1 most (Entry a callee call.below call.arguments call.memory o)) x
  CarriesTail most a call (Outside row frame) o x = ⊥

  -- At least one instruction for each unit that was owed or is counted, but for those that are owed
  -- where the step leads.
  abbrev pub CarriesStep : (owed most : ℕ) → (f below : ℕ) → Below → Step S → Outer → X → Type 0
  CarriesStep owed most f below a (Continues u) o x =
      EventuallyHolds X next see stack heap (p.stack (activation_in file layout f below) u) (p.heap u) o.made
      (Near (owed - w.owed f u) most (At a f below u o)) x
  CarriesStep owed most f below a (Pays u) o x =
      EventuallyHolds X next see stack heap (p.stack (activation_in file layout f below) u) (p.heap u) o.made
      (Near (suc owed - w.owed f u) most (At a f below u o)) x
  CarriesStep owed most f below a (Deepens bytes u) o x =
      EventuallyHolds X next see stack heap (p.stack (activation_in file layout f below) u) (p.heap u) o.made
      (Near (owed - w.owed f u) most (At a f below u o)) x
  CarriesStep owed most f below a (Waits call go) o x =
      (owed ≡ 0) × CarriesAsked most f below a call go call.callee o x
  CarriesStep owed most f below a (FinishesBy call kept) o x =
      (owed ≡ 0) × CarriesTail most a call call.callee o x
  CarriesStep owed most f below a (Finishes d) o x =
      (owed ≡ 0) × EventuallyHolds X next see stack heap 0 0 o.made (Near 0 most (Back a d o)) x
  CarriesStep owed most f below a (FinishesRaising d) o x =
      (owed ≡ 0) × EventuallyHolds X next see stack heap 0 0 o.made (Near 1 most (Back a d o)) x
  CarriesStep owed most f below a IsStuck o x = Unit {0}

  -- What is shown of the machine for each step of the program, and for each entry.
  pub record Carries : Type 0 where
    pub steps : (a : Below) (f below : ℕ) (s : S) (o : Outer) (x : X) →
        IsReached S p f (activation_in file layout f below) s → At a f below s o x →
        CarriesStep (w.owed f s) (w.cost f s) f below a
        (p.step f (activation_in file layout f below) s) o x
    -- what took a function's place leaves less
    pub kept : (a : Below) (kept : Ret) (d : Doing) (o : Outer) (x : X) → Back a d o x →
        Back a (kept_of kept d) o x
    -- a function begins where its frame fits
    pub enters : (a : Below) (f below : ℕ) (arguments : List Value) (memory : Memory) (s : S)
        (o : Outer) (x : X) → p.start f (activation_in file layout f below) arguments memory ≡ Some s →
        Entry a f below arguments memory o x →
        EventuallyHolds X next see stack heap (p.stack (activation_in file layout f below) s) (p.heap s) o.made
        (Near 0 (w.entry f) (At a f below s o)) x
    pub runs : (a : Below) (f below : ℕ) (s : S) (o : Outer) (x : X) → At a f below s o x →
        see x ≡ record { calls = o.made; end = Running }

-- ---- a whole call

-- The units of a whole call that had n units and has so many left, and its instructions, but for so
-- many that are owed.
pub record Spends {X : Type 0} (owed most words n left : ℕ) (P : X → Type 0) (count : ℕ) (x : X)
    : Type 0 where
  pub units : ℕ
  pub no_more : units + left ≤ n
  pub enough : n ≤ left + most * (2 * units + 1)
  pub lower : units ≤ count + owed
  pub upper : count ≤ words * (2 * units + 1)
  pub at : P x

module _ (X : Type 0) (next : X → X) (see : X → Seen) (stack heap most words : ℕ)
    (Back : Doing → Outer → X → Type 0) where
  -- the machine does what a call of a function does in the whole run
  abbrev pub DoesCall : World → X → Evaluation → Type 0
  DoesCall w x (Gives v h u) =
      EventuallyHolds X next see stack heap u.stack_need (heap_need u.memory) u.made
      (Spends 0 most words w.left u.left (Back (Gave v u.memory) (outer_of u))) x
  DoesCall w x (Raises v h u) =
      EventuallyHolds X next see stack heap u.stack_need (heap_need u.memory) u.made
      (Spends 0 most words w.left u.left (Back (Threw v u.memory) (outer_of u))) x
  DoesCall w x (Stops OutOfFuel u) =
      EventuallyHolds X next see stack heap u.stack_need (heap_need u.memory) u.made
      (Spends 1 most words w.left u.left
      (λ (y : X). see y ≡ record { calls = u.made; end = Running })) x
  DoesCall w x (Stops (NoAnswer call) u) =
      EventuallyHolds X next see stack heap u.stack_need (heap_need u.memory) u.made
      (Spends 0 most words w.left u.left
      (λ (y : X). see y ≡ record { calls = u.made; end = machine.Asks call })) x
  DoesCall w x _ = Unit {0}
