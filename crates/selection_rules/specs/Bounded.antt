-- Words are below 2 ^ 64. The meaning of an operator is given for every number, and a quotient by a
-- power of two is its shifts for words alone. So runs are looked at in which each number is a word:
-- what is handed in, what registers and memory hold, and what is asked for and given.
use Rattle.std.specs.Prelude.{◌≡◌, ℕ, ◌<◌, ◌^◌, List, [], ◌∷◌, Option, Some, None, Result, Ok, Err}
use Rattle.bs_words.specs.Memory.{Memory, Cell, value_in_cell}
use Rattle.bs_words.specs.declared.values.Kind.{Kind}
use Rattle.bs_words.specs.declared.values.Value.{Value}
use Rattle.bs_words.specs.declared.values.Value.TheVariants as value
use Rattle.cmm_meaning.specs.State.{Doing, Gave, Threw, Asked}
use Rattle.cmm_meaning.specs.Evaluation.{Evaluation, Gives, Raises, Stops, Asking, OutOfFuel}
use Rattle.cmm_meaning.specs.Setting.{Setting}
use Rattle.mach_ir.specs.Acts.{Around}
use Rattle.mach_ir.specs.Runs.{Step, Continues, Pays, Deepens, Waits, FinishesBy, Finishes, FinishesRaising, IsStuck}
use Rattle.mach_ir.specs.Meaning.{State, File, Held}
use Rattle.mach_ir.specs.declared.blocks.NewBlock.{NewBlock}
use Rattle.mach_ir.specs.declared.op.Access.TheVariants as access
use Rattle.mach_ir.specs.declared.op.Op.TheVariants as op
use Rattle.mach_ir.specs.declared.op.Pure.TheVariants as pure
use Rattle.mach_ir.specs.declared.op.Right.TheVariants as right
use Rattle.mach_ir.specs.declared.mach.Instr.{Instr}
use Rattle.mach_ir.specs.declared.mach.MachOp.{MachOp}
use Rattle.mach_ir.specs.declared.mach.MachOp.TheVariants as mach

-- ---- values

abbrev pub Bounded : Value → Type 0
Bounded (value.Word w) = w < 2 ^ 64
Bounded (value.Block serial offset) = Unit {0}
Bounded (value.Function f) = Unit {0}

abbrev pub AllBounded : List Value → Type 0
AllBounded [] = Unit {0}
AllBounded (v ∷ vs) = Bounded v × AllBounded vs

abbrev pub MaybeBounded : Option Value → Type 0
MaybeBounded None = Unit {0}
MaybeBounded (Some v) = Bounded v

-- ---- states

pub record BoundedMemory (m : Memory) : Type 0 where
  pub each : (cell : Cell) → Bounded (value_in_cell m cell)

pub record BoundedFile (f : File) : Type 0 where
  pub each : (n : ℕ) (h : Held) → f n ≡ Some h → Bounded h.value

pub record BoundedAround (a : Around) : Type 0 where
  pub memory : BoundedMemory a.memory
  pub raised : MaybeBounded a.raised

-- the constants of code
abbrev pub BoundedHeaders : List NewBlock → Type 0
BoundedHeaders [] = Unit {0}
BoundedHeaders (b ∷ blocks) = (b.header < 2 ^ 64) × BoundedHeaders blocks

abbrev pub BoundedOp : MachOp → Type 0
BoundedOp (mach.Op (op.Pure (pure.Constant w))) = w < 2 ^ 64
BoundedOp (mach.Op (op.Pure (pure.Operator f (right.Constant w)))) = w < 2 ^ 64
BoundedOp (mach.Op (op.Access (access.Alloc blocks))) = BoundedHeaders blocks
BoundedOp _ = Unit {0}

abbrev pub BoundedCode : List Instr → Type 0
BoundedCode [] = Unit {0}
BoundedCode (i ∷ code) = BoundedOp i.op × BoundedCode code

pub record BoundedState (s : State) : Type 0 where
  pub rest : BoundedCode s.rest
  pub file : BoundedFile s.file
  pub around : BoundedAround s.around

-- ---- what is done, asked and handed in

abbrev pub BoundedDoing : Doing → Type 0
BoundedDoing (Gave v memory) = MaybeBounded v × BoundedMemory memory
BoundedDoing (Threw v memory) = Bounded v × BoundedMemory memory

abbrev pub BoundedDoings : List Doing → Type 0
BoundedDoings [] = Unit {0}
BoundedDoings (d ∷ doings) = BoundedDoing d × BoundedDoings doings

pub record BoundedAsked (a : Asked) : Type 0 where
  pub arguments : AllBounded a.arguments
  pub memory : BoundedMemory a.memory

abbrev pub AllAsked : List Asked → Type 0
AllAsked [] = Unit {0}
AllAsked (call ∷ calls) = BoundedAsked call × AllAsked calls

-- what a function did alone, as far as it is proper
abbrev pub BoundedEvaluation : Evaluation → Type 0
BoundedEvaluation (Gives v h w) = MaybeBounded v × (BoundedMemory w.memory × AllAsked w.asked)
BoundedEvaluation (Raises v h w) = Bounded v × (BoundedMemory w.memory × AllAsked w.asked)
BoundedEvaluation (Stops (Asking call) w) = BoundedAsked call × AllAsked w.asked
BoundedEvaluation (Stops OutOfFuel w) = AllAsked w.asked
BoundedEvaluation _ = Unit {0}

abbrev pub BoundedStep : Step State → Type 0
BoundedStep (Continues s) = BoundedState s
BoundedStep (Pays s) = BoundedState s
BoundedStep (Deepens bytes s) = BoundedState s
BoundedStep (Waits call go) = BoundedAsked call × ((d : Doing) → BoundedDoing d → BoundedStep (go d))
BoundedStep (FinishesBy call kept) = BoundedAsked call
BoundedStep (Finishes d) = BoundedDoing d
BoundedStep (FinishesRaising d) = BoundedDoing d
BoundedStep IsStuck = Unit {0}

-- the values of the symbols of a file
pub record BoundedSymbols (c : Setting) : Type 0 where
  pub each : (name : List ℕ) (v : Value) → c.symbol name ≡ Some v → Bounded v

abbrev pub BoundedResult : Result Value Kind → Type 0
BoundedResult (Ok v) = Bounded v
BoundedResult (Err kind) = Unit {0}
