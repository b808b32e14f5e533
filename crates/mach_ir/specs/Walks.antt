-- Walks of a Mach function: what is live, and which registers are joined.
--
-- A raise passes no write: what a call writes interferes with what is live after the call, and not with
-- what only its handler reads.
--
-- No address is live at a frame point that is reached; in Linear at none at all, since linearisation leaves
-- out what no walk reaches.
use Rattle.std.specs.Prelude.{◌≡◌, ◌≢◌, ℕ, Bool, true, false, List, [], ◌∷◌, map, Contains}
use Rattle.bs_words.specs.declared.types.Comp.TheVariants as comp
use Rattle.mach_ir.specs.Acts.{Target, On, At}
use Rattle.mach_ir.specs.Acts as acts
use Rattle.mach_ir.specs.Meaning.{registers_written, passes_frame, code_at, from_handler, tries_at}
use Rattle.mach_ir.specs.declared.op.Op.TheVariants as op
use Rattle.mach_ir.specs.declared.op.CopyKind.TheVariants as copy
use Rattle.mach_ir.specs.declared.op.Pure.TheVariants as pure
use Rattle.mach_ir.specs.declared.reg.Reg.{Reg}
use Rattle.mach_ir.specs.declared.mach.Mark.TheVariants as mark
use Rattle.mach_ir.specs.declared.mach.MachOp.{MachOp}
use Rattle.mach_ir.specs.declared.mach.MachOp.TheVariants as mach
use Rattle.mach_ir.specs.declared.mach.Instr.{Instr}
use Rattle.mach_ir.specs.declared.mach.Mach.{Mach}

-- a register of this number is among these
pub data AmongRegisters (n : ℕ) : List Reg → Type 0 where
  first : {r : Reg} {rs : List Reg} → r.number ≡ n → AmongRegisters n (r ∷ rs)
  later : {r : Reg} {rs : List Reg} → AmongRegisters n rs → AmongRegisters n (r ∷ rs)

pub data OneOf (t : Target) : List Target → Type 0 where
  this : {ts : List Target} → OneOf t (t ∷ ts)
  other : {u : Target} {ts : List Target} → OneOf t ts → OneOf t (u ∷ ts)

-- ---- where control may go, conditions ignored

abbrev pub next_if : Bool → List Target
next_if true = On ∷ []
next_if false = []

abbrev pub targets : MachOp → List Target
targets (mach.Op f) = next_if (acts.falls_through f)
targets (mach.Mark (mark.Exit l n)) = At l ∷ []
targets (mach.Mark (mark.If test l)) = On ∷ At l ∷ []
targets (mach.Mark (mark.Else l end)) = At end ∷ []
targets (mach.Mark (mark.Switch labels)) = map At labels
targets (mach.Mark (mark.Case indexes l end)) = At end ∷ []
targets (mach.Mark mark.Catch) = On ∷ []
targets (mach.Mark (mark.With l end)) = At end ∷ []
targets (mach.Mark (mark.Try l)) = On ∷ []
targets (mach.Mark (mark.Leave l end)) = At end ∷ []
targets (mach.Mark (mark.Handler l)) = On ∷ []
targets (mach.Mark (mark.End l)) = On ∷ []

abbrev pub may_raise : MachOp → Bool
may_raise (mach.Op f) = acts.may_raise f
may_raise (mach.Mark f) = false

-- A step of a walk from an instruction, before this code, to the code where it goes on.
pub data WalkStep (m : Mach) (i : Instr) (next : List Instr) : List Instr → Type 0 where
  goes : (t : Target) → OneOf t (targets i.op) → WalkStep m i next (code_at m.code next t)

-- a raise edge, to the innermost handler
pub data Raises (m : Mach) (i : Instr) (next : List Instr) : List Instr → Type 0 where
  raises : {l : ℕ} {tries : List ℕ} → may_raise i.op ≡ true → tries_at (i ∷ next) ≡ l ∷ tries →
      Raises m i next (from_handler l m.code)

-- the code from a place on to which some walk from the entry leads
pub data Reached (m : Mach) : List Instr → Type 0 where
  at_entry : Reached m m.code
  by_step : {i : Instr} {next to : List Instr} → Reached m (i ∷ next) → WalkStep m i next to →
      Reached m to
  by_raise : {i : Instr} {next to : List Instr} → Reached m (i ∷ next) → Raises m i next to →
      Reached m to

-- ---- what is live

abbrev pub Writes : Mach → Instr → ℕ → Type 0
Writes m i n = AmongRegisters n (registers_written m i)

-- Some walk from this code on reads the register before it writes it. A raise edge passes no write.
pub data Live (m : Mach) (n : ℕ) : List Instr → Type 0 where
  read : {i : Instr} {next : List Instr} → AmongRegisters n i.args → Live m n (i ∷ next)
  on : {i : Instr} {next to : List Instr} → (Writes m i n → ⊥) → WalkStep m i next to → Live m n to →
      Live m n (i ∷ next)
  aside : {i : Instr} {next to : List Instr} → Raises m i next to → Live m n to →
      Live m n (i ∷ next)

-- live where an instruction goes on, once it has written
pub data LiveAfter (m : Mach) (n : ℕ) (i : Instr) (next : List Instr) : Type 0 where
  after_step : {to : List Instr} → WalkStep m i next to → Live m n to → LiveAfter m n i next

-- Live after an instruction, from before it: it does not write it, or a raise edge leads to where
-- it is read.
pub data LiveAcross (m : Mach) (n : ℕ) (i : Instr) (next : List Instr) : Type 0 where
  across_step : {to : List Instr} → (Writes m i n → ⊥) → WalkStep m i next to → Live m n to →
      LiveAcross m n i next
  across_raise : {to : List Instr} → Raises m i next to → Live m n to → LiveAcross m n i next

-- ---- registers of a function

-- those that its code reads or writes
pub data InCode (r : Reg) : List Instr → Type 0 where
  in_args : {i : Instr} {is : List Instr} → Contains i.args r → InCode r (i ∷ is)
  in_results : {i : Instr} {is : List Instr} → Contains i.results r → InCode r (i ∷ is)
  further : {i : Instr} {is : List Instr} → InCode r is → InCode r (i ∷ is)

pub data IsRegister (m : Mach) (r : Reg) : Type 0 where
  is_param : Contains m.params r → IsRegister m r
  is_colour : Contains m.colours r → IsRegister m r
  is_in_code : InCode r m.code → IsRegister m r

-- an instruction of this code, and the code after it
pub data StandsAsInstr (i : Instr) (next : List Instr) : List Instr → Type 0 where
  here : StandsAsInstr i next (i ∷ next)
  below : {j : Instr} {is : List Instr} → StandsAsInstr i next is → StandsAsInstr i next (j ∷ is)

-- No addr is live after a frame point that some walk reaches.
pub record NoAddrLive (m : Mach) : Type 0 where
  pub none : (i : Instr) (next : List Instr) → Reached m (i ∷ next) → passes_frame i.op ≡ true →
      (r : Reg) → IsRegister m r → r.comp ≡ comp.Addr → LiveAcross m r.number i next → ⊥

-- ---- the graph

-- a move from a register to another
pub data IsMove (from to : ℕ) : Instr → Type 0 where
  is_move : {r q : Reg} → r.number ≡ from → q.number ≡ to →
      IsMove from to
      (record { op = mach.Op (op.Pure (pure.Copy copy.Move)); args = r ∷ []; results = q ∷ [] })

-- One is written while the other is live after the write, a move's source and target excepted. The
-- entry writes the parameters.
pub data Meets (m : Mach) (n k : ℕ) : Type 0 where
  at_write : (i : Instr) (next : List Instr) → StandsAsInstr i next m.code → Writes m i n →
      LiveAfter m k i next →
      (IsMove k n i → ⊥) → Meets m n k
  at_params : AmongRegisters n m.params → Live m k m.code → Meets m n k

-- two registers, by number, that the graph joins
pub data Joined (m : Mach) (n k : ℕ) : Type 0 where
  one_way : n ≢ k → Meets m n k → Joined m n k
  other_way : n ≢ k → Meets m k n → Joined m n k
