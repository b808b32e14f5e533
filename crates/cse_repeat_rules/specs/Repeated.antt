-- Mach functions in which an integer operator that repeats an earlier one is a move from its result.
use Rattle.std.specs.Prelude.{◌≡◌, ◌≢◌, ℕ, Bool, true, false, cond, List, [], ◌∷◌, ◌++◌, Option, Some, None, length, Contains}
use Rattle.bs_words.specs.declared.types.Comp.TheVariants as comp
use Rattle.bs_words.specs.declared.types.Loc.TheVariants as loc
use Rattle.mach_ir.specs.Formed.{WellFormed}
use Rattle.mach_ir.specs.Placed.{AreStraight}
use Rattle.mach_ir.specs.Seats.{Seated}
use Rattle.mach_ir.specs.declared.op.Access.TheVariants as access
use Rattle.mach_ir.specs.declared.op.CopyKind.TheVariants as copy
use Rattle.mach_ir.specs.declared.op.Op.TheVariants as op
use Rattle.mach_ir.specs.declared.op.Pure.TheVariants as pure
use Rattle.mach_ir.specs.declared.reg.Reg.{Reg}
use Rattle.mach_ir.specs.declared.mach.MachOp.{MachOp}
use Rattle.mach_ir.specs.declared.mach.MachOp.TheVariants as mach
use Rattle.mach_ir.specs.declared.mach.Instr.{Instr}
use Rattle.mach_ir.specs.declared.mach.Mach.{Mach}
use Rattle.mach_laws.specs.Expand.{expand}
use Rattle.mach_laws.specs.Passes.{IsNoLarger}

abbrev pub is_operator : MachOp → Bool
is_operator (mach.Op (op.Pure (pure.Operator f right))) = true
is_operator (mach.Op (op.Pure (pure.Copy kind))) = false
is_operator (mach.Op (op.Pure (pure.Constant w))) = false
is_operator (mach.Op (op.Pure (pure.Symbol name))) = false
is_operator (mach.Op (op.Access f)) = false
is_operator (mach.Op (op.Calling f)) = false
is_operator (mach.Op (op.Leaving f)) = false
is_operator (mach.Mark f) = false

abbrev pub allocates : MachOp → Bool
allocates (mach.Op (op.Access (access.Alloc blocks))) = true
allocates (mach.Op (op.Access (access.Load chunk offset))) = false
allocates (mach.Op (op.Access (access.Store chunk offset))) = false
allocates (mach.Op (op.Pure f)) = false
allocates (mach.Op (op.Calling f)) = false
allocates (mach.Op (op.Leaving f)) = false
allocates (mach.Mark f) = false

-- A write of the second ends what the first holds: it is that register, or another of its fixed place
-- or of its origin.
pub data EndsHeldValue (r w : Reg) : Type 0 where
  itself : w.number ≡ r.number → EndsHeldValue r w
  same_place : w.loc ≡ r.loc → r.loc ≢ loc.Unset → EndsHeldValue r w
  same_origin : w.origin ≡ r.origin → EndsHeldValue r w

-- What an operator computed is still held at the end of this code: only instructions of its straight
-- run come after it, they write no operand of it, and end its result nowhere.
pub record StillStands (before : List Instr) (j : Instr) (r : Reg) : Type 0 where
  pub others : List Instr
  pub run : List Instr
  pub within : before ≡ others ++ j ∷ run
  pub straight : AreStraight run
  pub operates : is_operator j.op ≡ true
  pub result : j.results ≡ r ∷ []
  -- nor does it write an operand itself
  pub operands : (i : Instr) → Contains (j ∷ run) i → (w k : Reg) → Contains i.results w →
      Contains j.args k → w.number ≢ k.number
  pub stands : (i : Instr) → Contains run i → (w : Reg) → Contains i.results w → EndsHeldValue r w → ⊥
  -- an addr is lost at an allocation
  pub kept : r.comp ≡ comp.Addr → (i : Instr) → Contains run i → allocates i.op ≡ false

-- An operator after this code computes what an earlier one did, whose operands and result still hold what
-- they held then.
-- An addr repeats none from before an allocation, where its value is lost.
pub record RepeatsEarlier (before : List Instr) (i : Instr) (r : Reg) : Type 0 where
  pub earlier : Instr
  pub stands : StillStands before earlier r
  pub same_op : earlier.op ≡ i.op
  pub same_args : earlier.args ≡ i.args

-- ---- the function

-- a move from this register in place of an operator
abbrev pub from_earlier : Option Reg → Instr → Instr
from_earlier None i = i
from_earlier (Some r) i =
    record {
      op = mach.Op (op.Pure (pure.Copy copy.Move));
      args = r ∷ [];
      results = i.results;
    }

-- in place of an operator, by how many instructions come after it
abbrev pub instr_with_earlier : (ℕ → Option Reg) → ℕ → Instr → Instr
instr_with_earlier plan k i = cond (is_operator i.op) (from_earlier (plan k) i) i

abbrev pub alone_with_earlier : (ℕ → Option Reg) → ℕ → Instr → List Instr
alone_with_earlier plan k i = instr_with_earlier plan k i ∷ []

abbrev pub with_moves : (ℕ → Option Reg) → List Instr → List Instr
with_moves plan code = expand (alone_with_earlier plan) code

-- The code before an instruction of a function, as it is with its moves.
pub record IsRepeatedBefore (plan : ℕ → Option Reg) (m : Mach) (i : Instr) (next made : List Instr) :
    Type 0 where
  pub before : List Instr
  pub whole : m.code ≡ before ++ i ∷ next
  pub made_so : with_moves plan m.code
      ≡ made ++ instr_with_earlier plan (length next) i ∷ with_moves plan next

-- Exactly those operators are moves that repeat one of those that are left before them.
-- What a repeat repeats is looked for in the code that is left, so one walk from the front finds all. The
-- work is then dead code's and colouring's.
pub record IsRepeated (m q : Mach) : Type 0 where
  pub plan : ℕ → Option Reg
  pub is : q ≡ record m { code = with_moves plan m.code }
  pub moves : (i : Instr) (next made : List Instr) → IsRepeatedBefore plan m i next made →
      is_operator i.op ≡ true → (r : Reg) → plan (length next) ≡ Some r → RepeatsEarlier made i r
  pub stays : (i : Instr) (next made : List Instr) → IsRepeatedBefore plan m i next made →
      plan (length next) ≡ None → (r : Reg) → RepeatsEarlier made i r → ⊥

-- What is kept of the form of a function.
pub record IsFormKept (p q : Mach) : Type 0 where
  pub formed : WellFormed q
  pub seated : Seated p → Seated q
  pub no_larger : IsNoLarger p q
  -- no operator repeats an earlier one
  pub none_left : (made : List Instr) (i : Instr) (next : List Instr) →
      q.code ≡ made ++ i ∷ next → (r : Reg) → RepeatsEarlier made i r → ⊥
