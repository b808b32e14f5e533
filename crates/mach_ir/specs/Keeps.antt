-- When one Mach function does what another does.
--
-- Slots are kept per register and origin. That each new slot is numbered as its register's origin does not
-- compose where it is said of the function as a whole.
--
-- There are two halves: where the first function is not stuck, the second comes to a state that has
-- allocated no less, and to one that has allocated no more. With one half a function that allocates what
-- the first never does would pass.
use Rattle.std.specs.Prelude.{◌≡◌, ◌≢◌, ◌⊎◌, ℕ, suc, ◌<◌, Bool, true, List, [], ◌∷◌, ◌++◌, Option, Some, None, Contains, map}
use Rattle.bs_words.specs.External.{External}
use Rattle.bs_words.specs.Memory.{Memory}
use Rattle.bs_words.specs.declared.types.Comp.TheVariants as comp
use Rattle.bs_words.specs.declared.types.Loc.TheVariants as loc
use Rattle.bs_words.specs.declared.values.Value.{Value}
use Rattle.cmm_meaning.specs.State.{Doing, Asked}
use Rattle.cmm_meaning.specs.Extends.{Shape, shape_of}
use Rattle.mach_ir.specs.Acts.{Around, with_block, external_row}
use Rattle.mach_ir.specs.Runs.{ActivationSetting, Tally, RunProgress, Running, Asking, Ended, Wrong, first_tally}
use Rattle.mach_ir.specs.Meaning.{Held, State, mach_start, run_of_mach, passes_frame, registers_written}
use Rattle.mach_ir.specs.Walks.{AmongRegisters, Live, LiveAcross, IsRegister, NoAddrLive}
use Rattle.mach_ir.specs.declared.blocks.NewBlock.{NewBlock}
use Rattle.mach_ir.specs.declared.op.External as declared
use Rattle.mach_ir.specs.declared.op.Op.TheVariants as op
use Rattle.mach_ir.specs.declared.op.Pure.TheVariants as pure
use Rattle.mach_ir.specs.declared.op.Callee.TheVariants as callee
use Rattle.mach_ir.specs.declared.op.Calling.TheVariants as calling
use Rattle.mach_ir.specs.declared.reg.Reg.{Reg}
use Rattle.mach_ir.specs.declared.mach.MachOp.{MachOp}
use Rattle.mach_ir.specs.declared.mach.MachOp.TheVariants as mach
use Rattle.mach_ir.specs.declared.mach.Instr.{Instr}
use Rattle.mach_ir.specs.declared.mach.Mach.{Mach}

-- ---- where a function is not stuck
--
-- A step that ends in `Wrong` is stuck. So is one at a frame point where a val that is live after
-- it has not been written, and one that comes to a place where registers of one origin differ.
-- These two speak of walks, and no step computes them.

-- At a frame point each val register that is live after it has been written.
pub record ValsWritten (m : Mach) (s : State) : Type 0 where
  pub written : (i : Instr) (next : List Instr) → s.rest ≡ i ∷ next → passes_frame i.op ≡ true →
      (r : Reg) → IsRegister m r → r.comp ≡ comp.Val → LiveAcross m r.number i next →
      s.file r.number ≢ None

-- Two registers of one origin, each live here or just written, hold no different values.
pub record OriginsAgree (m : Mach) (just_written : List Reg) (s : State) : Type 0 where
  pub agree : (r q : Reg) → IsRegister m r → IsRegister m q → r.origin ≡ q.origin →
      Live m r.number s.rest ⊎ AmongRegisters r.number just_written →
      Live m q.number s.rest ⊎ AmongRegisters q.number just_written →
      (x y : Held) → s.file r.number ≡ Some x → s.file q.number ≡ Some y → x.value ≡ y.value

-- what the step from one state to another has written: nothing on the way to a handler
abbrev pub wrote_unless : Option Value → List Reg → List Reg
wrote_unless None rs = rs
wrote_unless (Some raised) rs = []

abbrev pub wrote_at : Mach → List Instr → List Reg
wrote_at m [] = []
wrote_at m (i ∷ next) = registers_written m i

abbrev pub just_written : Mach → State → State → List Reg
just_written m s u = wrote_unless u.around.raised (wrote_at m s.rest)

-- A run of n steps from a state is nowhere stuck.
pub record Proper (c : ActivationSetting) (m : Mach) (n : ℕ) (s : State) (t : Tally) : Type 0 where
  pub goes : run_of_mach c m n s t ≢ Wrong
  pub vals : (k : ℕ) → k < n → (u : State) (y : Tally) → run_of_mach c m k s t ≡ Running u y →
      ValsWritten m u
  pub origins : (k : ℕ) → k < n → (u v : State) (y z : Tally) → run_of_mach c m k s t ≡ Running u y →
      run_of_mach c m (suc k) s t ≡ Running v z → OriginsAgree m (just_written m u v) v

-- ---- the same

-- these blocks are allocated, the first one first
abbrev pub ahead : List NewBlock → Around → Around
ahead [] a = a
ahead (b ∷ blocks) a = ahead blocks (with_block b a)

-- The second has allocated blocks that the first has not yet, after all that the first has. So it
-- is between calls only: at a call nothing is unwritten, and the memories are the same.
pub record Ahead (x y : Around) : Type 0 where
  pub blocks : List NewBlock
  pub same : y ≡ ahead blocks x

-- The second has allocated no block that the first has not: its blocks are the first ones of the
-- first's, in their shapes.
pub record Trails (x y : Around) : Type 0 where
  pub tries : x.tries ≡ y.tries
  pub more : List Shape
  pub blocks : map shape_of x.memory.blocks ≡ map shape_of y.memory.blocks ++ more

-- The second run, of the same language or the next, reports what the first does: calls and their
-- memories, end, units, and stack bytes; and running states suit each other.
pub data RunsAlike {S U : Type 0} (Suit : S → U → Type 0) : RunProgress S → RunProgress U → Type 0 where
  both_running : {s : S} {u : U} {t : Tally} → Suit s u → RunsAlike Suit (Running s t) (Running u t)
  both_asking : {call : Asked} {t : Tally} → RunsAlike Suit (Asking call t) (Asking call t)
  both_ended : {doing : Doing} {t : Tally} → RunsAlike Suit (Ended doing t) (Ended doing t)

-- what is round two states suits
abbrev pub SuitRound : (Around → Around → Type 0) → State → State → Type 0
SuitRound Suit s u = Suit s.around u.around

-- some number of steps of a function comes to such a run, and is nowhere stuck
pub record Comes (Suit : Around → Around → Type 0) (r : RunProgress State) (c : ActivationSetting) (m : Mach)
    (s : State) (t : Tally) : Type 0 where
  pub steps : ℕ
  pub alike : RunsAlike (SuitRound Suit) r (run_of_mach c m steps s t)
  pub proper : Proper c m steps s t

-- Wherever the first is not stuck in n steps, the second comes to a run that has allocated no less,
-- and to one that has allocated no more: so both allocate the same blocks.
pub record Follows (c : ActivationSetting) (p q : Mach) (s u : State) (t : Tally) (n : ℕ) : Type 0 where
  pub no_less : Comes Ahead (run_of_mach c p n s t) c q u t
  pub no_more : Comes Trails (run_of_mach c p n s t) c q u t

-- the second begins where the first does, and follows it from there
pub record Begins (c : ActivationSetting) (p q : Mach) (arguments : List Value) (memory : Memory)
    (doings : List Doing) (s : State) : Type 0 where
  pub state : State
  pub begins : mach_start c q arguments memory ≡ Some state
  pub follows : (n : ℕ) → Proper c p n s (first_tally c doings) →
      Follows c p q s state (first_tally c doings) n

abbrev pub MachSimulation : Mach → Mach → Type 0
MachSimulation p q =
    (c : ActivationSetting) (arguments : List Value) (memory : Memory) (doings : List Doing) (s : State) →
    mach_start c p arguments memory ≡ Some s → Begins c p q arguments memory doings s

-- ---- the static parts

-- a register whose place is open, or a slot
pub data IsLoose (r : Reg) : Type 0 where
  is_open : r.loc ≡ loc.Unset → IsLoose r
  is_slot : {k : ℕ} → r.loc ≡ loc.Slot k → IsLoose r

-- some loose register has this origin
pub record HasOrigin (m : Mach) (origin : ℕ) : Type 0 where
  pub register : Reg
  pub among : IsRegister m register
  pub loose : IsLoose register
  pub same : register.origin ≡ origin

-- some register of this origin is in this slot
pub record HasSlot (m : Mach) (slot origin : ℕ) : Type 0 where
  pub register : Reg
  pub among : IsRegister m register
  pub stands : register.loc ≡ loc.Slot slot
  pub same : register.origin ≡ origin

-- an operation names a symbol
pub data NamesSymbol (name : List ℕ) : MachOp → Type 0 where
  its_value : NamesSymbol name (mach.Op (op.Pure (pure.Symbol name)))
  calls : {result : _} →
      NamesSymbol name (mach.Op (op.Calling (calling.Call (callee.Symbol name) result)))
  tail_calls : {result : _} →
      NamesSymbol name (mach.Op (op.Calling (calling.TailCall (callee.Symbol name) result)))

-- or an external call, by its row
pub data NamesExternal (row : External) : MachOp → Type 0 where
  calls_out : {e : declared.External} {frame : Bool} → external_row e ≡ row →
      NamesExternal row (mach.Op (op.Calling (calling.External e frame)))

-- some instruction of the function names it
pub record IsNamedIn (Named : MachOp → Type 0) (m : Mach) : Type 0 where
  pub instr : Instr
  pub among : Contains m.code instr
  pub named : Named instr.op

-- ---- keeps

pub record Keeps (p q : Mach) : Type 0 where
  -- its name, and what it is written with
  pub name : q.name ≡ p.name
  pub result : q.result ≡ p.result
  -- calls, memories, blocks, tries, end and units are the same wherever the first is not stuck
  pub does : MachSimulation p q
  -- no new origin among the registers that are open or are in slots
  pub origins : (r : Reg) → IsRegister q r → IsLoose r → HasOrigin p r.origin
  -- A new slot is numbered as its register's origin; so is one that the first has for other origins
  -- alone.
  pub slots : (r : Reg) (k : ℕ) → IsRegister q r → r.loc ≡ loc.Slot k →
      HasSlot p k r.origin ⊎ (k ≡ r.origin)
  -- no new symbol, and no new external call
  pub symbols : (name : List ℕ) → IsNamedIn (NamesSymbol name) q →
      IsNamedIn (NamesSymbol name) p
  pub externals : (row : External) → IsNamedIn (NamesExternal row) q →
      IsNamedIn (NamesExternal row) p
  pub addrs : NoAddrLive p → NoAddrLive q
