-- Mach functions without the instructions that only compute what nothing uses.
use Rattle.std.specs.Prelude.{◌≡◌, ℕ, Bool, true, false, cond, ◌&&◌, List, [], ◌∷◌, length}
use Rattle.mach_ir.specs.Placed.{AllocatesFresh}
use Rattle.mach_ir.specs.Walks.{AmongRegisters, Writes, WalkStep, Raises, LiveAfter, StandsAsInstr}
use Rattle.mach_ir.specs.declared.op.CopyKind.TheVariants as copy
use Rattle.mach_ir.specs.declared.op.Op.TheVariants as op
use Rattle.mach_ir.specs.declared.op.Pure.{Pure}
use Rattle.mach_ir.specs.declared.op.Pure.TheVariants as pure
use Rattle.mach_ir.specs.declared.mach.MachOp.{MachOp}
use Rattle.mach_ir.specs.declared.mach.MachOp.TheVariants as mach
use Rattle.mach_ir.specs.declared.mach.Instr.{Instr}
use Rattle.mach_ir.specs.declared.mach.Mach.{Mach}
use Rattle.mach_laws.specs.Expand.{expand}
use Rattle.mach_laws.specs.Passes.{IsPassKept, IsNoLarger}

-- constants, symbols, moves and integer operators; a spill or a reload stays
abbrev pub only_computes : Pure → Bool
only_computes (pure.Copy copy.Move) = true
only_computes (pure.Copy copy.Spill) = false
only_computes (pure.Copy copy.Reload) = false
only_computes (pure.Constant w) = true
only_computes (pure.Symbol name) = true
only_computes (pure.Operator f right) = true

-- what may go where nothing uses its result: a load stays
abbrev pub may_go : MachOp → Bool
may_go (mach.Op (op.Pure f)) = only_computes f
may_go (mach.Op (op.Access f)) = false
may_go (mach.Op (op.Calling f)) = false
may_go (mach.Op (op.Leaving f)) = false
may_go (mach.Mark f) = false

-- Some walk from this code on uses the register before it writes it. What may go uses what it reads
-- only where its own result is used.
pub data IsUsed (m : Mach) : ℕ → List Instr → Type 0 where
  read : {n : ℕ} {i : Instr} {next : List Instr} → may_go i.op ≡ false → AmongRegisters n i.args →
      IsUsed m n (i ∷ next)
  read_for : {n k : ℕ} {i : Instr} {next : List Instr} → may_go i.op ≡ true → AmongRegisters n i.args →
      AmongRegisters k i.results → IsUsed m k next → IsUsed m n (i ∷ next)
  on : {n : ℕ} {i : Instr} {next to : List Instr} → (Writes m i n → ⊥) → WalkStep m i next to →
      IsUsed m n to → IsUsed m n (i ∷ next)
  aside : {n : ℕ} {i : Instr} {next to : List Instr} → Raises m i next to → IsUsed m n to →
      IsUsed m n (i ∷ next)

-- the result of an instruction, before this code, is used
pub record HasUse (m : Mach) (i : Instr) (next : List Instr) : Type 0 where
  pub number : ℕ
  pub among : AmongRegisters number i.results
  pub used : IsUsed m number next

-- an instruction, which so many come after, or none in its place
abbrev pub unless_dropped : (ℕ → Bool) → ℕ → Instr → List Instr
unless_dropped drops k i = cond (may_go i.op && drops k) [] (i ∷ [])

-- The function without the instructions that may go and of which this is said, by how many come
-- after them. All else is as it was.
abbrev pub dropped : (ℕ → Bool) → Mach → Mach
dropped drops m = record m { code = expand (unless_dropped drops) m.code }

-- exactly those go whose results nothing uses
pub record AreDead (m : Mach) (drops : ℕ → Bool) : Type 0 where
  pub dead : (i : Instr) (next : List Instr) → StandsAsInstr i next m.code → may_go i.op ≡ true →
      drops (length next) ≡ true → HasUse m i next → ⊥
  pub wanted : (i : Instr) (next : List Instr) → StandsAsInstr i next m.code → may_go i.op ≡ true →
      drops (length next) ≡ false → HasUse m i next

-- The second is the first without exactly the instructions that only compute what nothing uses.
pub record IsDropped (m q : Mach) : Type 0 where
  pub drops : ℕ → Bool
  pub dead : AreDead m drops
  pub is : q ≡ dropped drops m

-- a result of it is live after it
pub record HasLiveResult (q : Mach) (i : Instr) (next : List Instr) : Type 0 where
  pub number : ℕ
  pub among : AmongRegisters number i.results
  pub live : LiveAfter q number i next

-- What a function without its dead instructions keeps.
pub record IsDropKept (p q : Mach) : Type 0 where
  pub pass : IsPassKept p q
  pub no_larger : IsNoLarger p q
  pub fresh : AllocatesFresh p → AllocatesFresh q
  -- what may go and is left has a result that is live after it
  pub none_left : (i : Instr) (next : List Instr) → StandsAsInstr i next q.code → may_go i.op ≡ true →
      HasLiveResult q i next
