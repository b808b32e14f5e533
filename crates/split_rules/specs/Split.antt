-- What splitting makes of a function.
use Rattle.std.specs.Prelude.{◌≡◌, ◌≢◌, ◌↔◌, ℕ, ◌+◌, ◌<◌, ◌≤◌, List, ◌∷◌, length}
use Rattle.bs_words.specs.declared.types.Loc.TheVariants as loc
use Rattle.mach_ir.specs.Sizes.{Size, HasSize}
use Rattle.mach_ir.specs.Walks.{AmongRegisters, StandsAsInstr, IsRegister}
use Rattle.mach_ir.specs.declared.reg.Reg.{Reg}
use Rattle.mach_ir.specs.declared.mach.Instr.{Instr}
use Rattle.mach_ir.specs.declared.mach.Mach.{Mach}
use Rattle.split_rules.specs.Order.{IsNumberOfWeb}
use Rattle.split_rules.specs.Renamed.{Naming, renamed}
use Rattle.split_rules.specs.Writes.{WriteReaches, Chained, IsWrite}
use Rattle.mach_laws.specs.Passes.{IsPassKept}

-- What numbers owe for a function to do what it did.
pub record IsNaming (m : Mach) (names : Naming) : Type 0 where
  -- an operand has the number of each write that comes to it
  pub agree : (i : Instr) (next from : List Instr) (n : ℕ) → StandsAsInstr i next m.code →
      AmongRegisters n i.args → WriteReaches m n from (i ∷ next) →
      names.read (length next) n ≡ names.write (length from) n
  -- a new number is that of one old register
  pub back : ℕ → ℕ
  pub read_back : (r : Reg) → IsRegister m r → (k : ℕ) → back (names.read k r.number) ≡ r.number
  pub write_back : (r : Reg) → IsRegister m r → (k : ℕ) →
      back (names.write k r.number) ≡ r.number
  -- a register whose place is fixed keeps its number, and so does what the entry writes
  pub read_fixed : (r : Reg) → IsRegister m r → r.loc ≢ loc.Unset → (k : ℕ) →
      names.read k r.number ≡ r.number
  pub write_fixed : (r : Reg) → IsRegister m r → r.loc ≢ loc.Unset → (k : ℕ) →
      names.write k r.number ≡ r.number
  pub entry : (n : ℕ) → AmongRegisters n m.params → names.write (length m.code) n ≡ n

-- Writes of an open register have one number exactly where they are joined.
pub record JoinsExactly (m : Mach) (names : Naming) : Type 0 where
  pub exact : (r : Reg) → IsRegister m r → r.loc ≡ loc.Unset → (from to : List Instr) →
      IsWrite m r.number from → IsWrite m r.number to →
      (names.write (length from) r.number ≡ names.write (length to) r.number)
      ↔ Chained m r.number from to

-- each number is below that of registers, operands and parameters together
pub record IsDense (m : Mach) (names : Naming) : Type 0 where
  pub read : (s : Size) → HasSize m s → (r : Reg) → IsRegister m r → (k : ℕ) →
      names.read k r.number < s.registers + (s.operands + length m.params)
  pub write : (s : Size) → HasSize m s → (r : Reg) → IsRegister m r → (k : ℕ) →
      names.write k r.number < s.registers + (s.operands + length m.params)

-- The web of a register's first write keeps the register's number, and each other web has the index
-- of its first write, from the first free number on. An operand to which no write comes keeps its own.
-- So splitting has one result: which web keeps the register's number is settled by the order of first
-- writes, in which the entry's come first.
pub record AreByFirst (m : Mach) (names : Naming) : Type 0 where
  pub free : ℕ
  pub above : (r : Reg) → IsRegister m r → r.number < free
  pub least : (b : ℕ) → ((r : Reg) → IsRegister m r → r.number < b) → free ≤ b
  pub written : (r : Reg) → IsRegister m r → r.loc ≡ loc.Unset → (from : List Instr) →
      IsWrite m r.number from → IsNumberOfWeb m free r.number from (names.write (length from) r.number)
  pub unwritten : (i : Instr) (next : List Instr) (n : ℕ) → StandsAsInstr i next m.code → AmongRegisters n i.args →
      ((from : List Instr) → WriteReaches m n from (i ∷ next) → ⊥) → names.read (length next) n ≡ n

-- Nothing but numbers of open registers has changed, writes have one number exactly where they are
-- joined, and which number is known by the first of them.
pub record IsSplit (m q : Mach) : Type 0 where
  pub names : Naming
  pub is : q ≡ renamed names m
  pub naming : IsNaming m names
  pub joins : JoinsExactly m names
  pub by_first : AreByFirst m names
  pub dense : IsDense m names

-- All writes of an open register are joined: what a reload writes is joined with nothing but what
-- reaches a use with it.
pub record IsOneWeb (q : Mach) : Type 0 where
  pub one : (r : Reg) → IsRegister q r → r.loc ≡ loc.Unset → (from to : List Instr) →
      IsWrite q r.number from → IsWrite q r.number to → Chained q r.number from to

-- The bounds on a split function, by those on the one that it is made of, and the number of its
-- parameters: there are as many instructions, operands and labels, and at most a register more for each
-- operand and each parameter.
abbrev pub split_size : ℕ → Size → Size
split_size parameters s = record s { registers = s.registers + (s.operands + parameters) }

-- What a split function keeps.
pub record IsSplitKept (p q : Mach) : Type 0 where
  pub pass : IsPassKept p q
  pub size : (s : Size) → HasSize p s → HasSize q (split_size (length p.params) s)
