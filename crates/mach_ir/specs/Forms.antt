-- The forms of operations: which operands and results go with each, by their components. Mach and
-- Linear have this in common.
--
-- A constant operand is on the right side alone, where the machine has an immediate for it.
use Rattle.std.specs.Prelude.{◌≡◌, ◌≢◌, ℕ, ◌<◌, ◌≤◌, Bool, true, false, ◌&&◌, ◌||◌, nat_le, nat_lt, List, [], ◌∷◌, ◌++◌, length, All}
use Rattle.bs_words.specs.declared.operators.CmpOp.TheVariants as compare
use Rattle.bs_words.specs.declared.operators.IntOp.{IntOp}
use Rattle.bs_words.specs.declared.operators.IntOp.TheVariants as operator
use Rattle.bs_words.specs.declared.types.Chunk.{Chunk}
use Rattle.bs_words.specs.declared.types.Comp.{Comp}
use Rattle.bs_words.specs.declared.types.Ret.{Ret}
use Rattle.bs_words.specs.declared.types.Ret.TheVariants as ret
use Rattle.cmm_types.specs.Faults.{is_header}
use Rattle.mach_ir.specs.Blocks.{total_block_bytes}
use Rattle.mach_ir.specs.declared.op.Right.{Right}
use Rattle.mach_ir.specs.declared.op.Right.TheVariants as right
use Rattle.mach_ir.specs.declared.op.CopyKind.{CopyKind}
use Rattle.mach_ir.specs.declared.op.Pure.TheVariants as pure
use Rattle.mach_ir.specs.declared.blocks.NewBlock.{NewBlock}
use Rattle.mach_ir.specs.declared.op.Access.TheVariants as access
use Rattle.mach_ir.specs.declared.op.Callee.{Callee}
use Rattle.mach_ir.specs.declared.op.Callee.TheVariants as callee
use Rattle.mach_ir.specs.declared.op.External as declared
use Rattle.mach_ir.specs.declared.op.Calling.TheVariants as calling
use Rattle.mach_ir.specs.declared.op.Leaving.TheVariants as leaving
use Rattle.mach_ir.specs.declared.op.Op.{Op}
use Rattle.mach_ir.specs.declared.op.Op.TheVariants as op
use Rattle.mach_ir.specs.declared.mach.Test.{Test}
use Rattle.mach_ir.specs.declared.mach.Test.TheVariants as test

-- ---- immediates

-- a word that twelve bits hold, the highest of them spread over the word (RISC-V Unprivileged ISA
-- manual, "RV32I")
abbrev pub is_immediate_12 : ℕ → Bool
is_immediate_12 w =
    nat_lt w 2048 || (nat_le 0xFFFFFFFFFFFFF800 w && nat_lt w 0x10000000000000000)

-- the word whose opposite is such a word
abbrev pub is_opposite_immediate_12 : ℕ → Bool
is_opposite_immediate_12 w =
    nat_le w 2048 || (nat_lt 0xFFFFFFFFFFFFF800 w && nat_lt w 0x10000000000000000)

-- whether the machine has an immediate for this right operand; a difference adds the opposite
abbrev pub is_immediate : IntOp → ℕ → Bool
is_immediate operator.Add w = is_immediate_12 w
is_immediate operator.AddV w = is_immediate_12 w
is_immediate operator.AddA w = is_immediate_12 w
is_immediate operator.Sub w = is_opposite_immediate_12 w
is_immediate operator.And w = is_immediate_12 w
is_immediate operator.Or w = is_immediate_12 w
is_immediate operator.Xor w = is_immediate_12 w
is_immediate operator.Shl w = nat_lt w 64
is_immediate operator.Shr w = nat_lt w 64
is_immediate operator.Sar w = nat_lt w 64
is_immediate (operator.Cmp f) w = is_immediate_12 w
is_immediate (operator.CmpU f) w = is_immediate_12 w
is_immediate operator.Mul w = false
is_immediate operator.Mulh w = false
is_immediate operator.Div w = false
is_immediate operator.Mod w = false

-- ---- operands and results

-- the components that stand for a right operand: one, or none where it is a constant
pub data IsRight (f : IntOp) : Right → List Comp → Type 0 where
  a_register : {t : Comp} → IsRight f right.Register (t ∷ [])
  a_constant : {w : ℕ} → is_immediate f w ≡ true → IsRight f (right.Constant w) []

-- the results of what is written with this type
abbrev pub results_of_type : Ret → List Comp
results_of_type ret.Unit = []
results_of_type (ret.Comp t) = t ∷ []

-- what a callee takes before the arguments
pub data IsCallee : Callee → List Comp → Type 0 where
  by_symbol : {name : List ℕ} → IsCallee (callee.Symbol name) []
  by_register : {t : Comp} → IsCallee callee.Register (t ∷ [])

-- a block of an allocation: a header that fits its cells
abbrev pub IsBlock : NewBlock → Type 0
IsBlock b = is_header b.header b.cells ≡ true

-- the most bytes of one allocation
abbrev pub reservation_most : ℕ
reservation_most = 2056

-- The components of the operands and of the results that go with an operation.
pub data HasForm : Op → List Comp → List Comp → Type 0 where
  copies : {kind : CopyKind} {from to : Comp} →
      HasForm (op.Pure (pure.Copy kind)) (from ∷ []) (to ∷ [])
  constant : {w : ℕ} {to : Comp} → w < 0x10000000000000000 →
      HasForm (op.Pure (pure.Constant w)) [] (to ∷ [])
  symbol : {name : List ℕ} {to : Comp} → HasForm (op.Pure (pure.Symbol name)) [] (to ∷ [])
  operates : {f : IntOp} {r : Right} {rest : List Comp} {left to : Comp} → IsRight f r rest →
      HasForm (op.Pure (pure.Operator f r)) (left ∷ rest) (to ∷ [])
  loads : {k : Chunk} {offset : ℕ} {address to : Comp} →
      HasForm (op.Access (access.Load k offset)) (address ∷ []) (to ∷ [])
  stores : {k : Chunk} {offset : ℕ} {address value : Comp} →
      HasForm (op.Access (access.Store k offset)) (address ∷ value ∷ []) []
  allocates : {blocks : List NewBlock} {results : List Comp} → blocks ≢ [] → All IsBlock blocks →
      total_block_bytes blocks ≤ reservation_most → length results ≡ length blocks →
      HasForm (op.Access (access.Alloc blocks)) [] results
  calls : {whom : Callee} {result : Ret} {first : List Comp} (arguments : List Comp) →
      IsCallee whom first →
      HasForm (op.Calling (calling.Call whom result)) (first ++ arguments) (results_of_type result)
  tail_calls : {whom : Callee} {result : Ret} {first : List Comp} (arguments : List Comp) →
      IsCallee whom first →
      HasForm (op.Calling (calling.TailCall whom result)) (first ++ arguments) []
  calls_out : {row : declared.External} {frame : Bool} →
      HasForm (op.Calling (calling.External row frame)) row.params (results_of_type row.result)
  checks : {r : Right} {rest : List Comp} {bound : Comp} →
      IsRight (operator.CmpU compare.Lt) r rest →
      HasForm (op.Leaving (leaving.Checkbound r)) (bound ∷ rest) []
  raises : {raised : Comp} → HasForm (op.Leaving leaving.Raise) (raised ∷ []) []
  returns : (result : Ret) → HasForm (op.Leaving leaving.Return) (results_of_type result) []

-- the components of the operands that go with a test
pub data IsTested : Test → List Comp → Type 0 where
  holds : {t : Comp} → IsTested test.Holds (t ∷ [])
  fails : {t : Comp} → IsTested test.Fails (t ∷ [])
  signed : {f : _} {r : Right} {rest : List Comp} {left : Comp} → IsRight (operator.Cmp f) r rest →
      IsTested (test.Signed f r) (left ∷ rest)
  unsigned : {f : _} {r : Right} {rest : List Comp} {left : Comp} →
      IsRight (operator.CmpU f) r rest → IsTested (test.Unsigned f r) (left ∷ rest)
