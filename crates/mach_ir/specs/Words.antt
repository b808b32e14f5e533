-- The words in which functions of both languages are printed.
--
-- A test prints `not` where a branch goes where it fails: a branch of Linear goes to its label where its
-- test holds. An `if` prints the word of its comparison first, since two comparisons of the same operands
-- must differ.
--
-- Constants and offsets print by their signed reading; `case`, `else` and `with` at the level of their
-- structure.
use Rattle.std.specs.Prelude.{ℕ, ◌+◌, ◌-◌, Bool, true, false, cond, ◌&&◌, nat_le, List, [], ◌++◌, codes}
use Rattle.std.specs.Fmt.{decimal, signed_decimal}
use Rattle.bs_words.specs.Word.{signed_of}
use Rattle.bs_words.specs.declared.operators.CmpOp.{CmpOp}
use Rattle.bs_words.specs.declared.operators.CmpOp.TheVariants as compare
use Rattle.bs_words.specs.declared.operators.IntOp.{IntOp}
use Rattle.bs_words.specs.declared.operators.IntOp.TheVariants as operator
use Rattle.bs_words.specs.declared.types.Chunk.{Chunk}
use Rattle.bs_words.specs.declared.types.Chunk.TheVariants as chunk
use Rattle.bs_words.specs.declared.types.Comp.{Comp}
use Rattle.bs_words.specs.declared.types.Comp.TheVariants as comp
use Rattle.bs_words.specs.declared.types.Loc.{Loc}
use Rattle.bs_words.specs.declared.types.Loc.TheVariants as loc
use Rattle.rv_isa.specs.Registers.{register_number}
use Rattle.rv_isa.specs.declared.register.Register.TheVariants.{T0, T2, S0, S1, A0, A7, S2, S11, T3, T6}
use Rattle.mach_ir.specs.Blocks.{total_block_bytes}
use Rattle.mach_ir.specs.declared.op.Right.{Right}
use Rattle.mach_ir.specs.declared.op.Right.TheVariants as right
use Rattle.mach_ir.specs.declared.op.CopyKind.{CopyKind}
use Rattle.mach_ir.specs.declared.op.CopyKind.TheVariants as copy
use Rattle.mach_ir.specs.declared.op.Pure.{Pure}
use Rattle.mach_ir.specs.declared.op.Pure.TheVariants as pure
use Rattle.mach_ir.specs.declared.op.Access.{Access}
use Rattle.mach_ir.specs.declared.op.Access.TheVariants as access
use Rattle.mach_ir.specs.declared.op.Callee.{Callee}
use Rattle.mach_ir.specs.declared.op.Callee.TheVariants as callee
use Rattle.mach_ir.specs.declared.op.Calling.{Calling}
use Rattle.mach_ir.specs.declared.op.Calling.TheVariants as calling
use Rattle.mach_ir.specs.declared.op.Leaving.{Leaving}
use Rattle.mach_ir.specs.declared.op.Leaving.TheVariants as leaving
use Rattle.mach_ir.specs.declared.op.Op.{Op}
use Rattle.mach_ir.specs.declared.op.Op.TheVariants as op
use Rattle.mach_ir.specs.declared.mach.Test.{Test}
use Rattle.mach_ir.specs.declared.mach.Test.TheVariants as test

-- ---- places

abbrev pub comp_letter : Comp → List ℕ
comp_letter comp.Int = codes "i"
comp_letter comp.Val = codes "v"
comp_letter comp.Addr = codes "a"
comp_letter comp.Float = codes "f"

abbrev pub is_from_to : ℕ → ℕ → ℕ → Bool
is_from_to low high n = nat_le low n && nat_le n high

-- The name of a register of the machine: t0 to t6, s0 to s11 and a0 to a7; the others have their
-- number after an x (RISC-V ABIs specification, "Integer Register Convention").
abbrev pub register_name : ℕ → List ℕ
register_name n =
    cond (is_from_to (register_number T0) (register_number T2) n) (codes "t" ++ decimal (n - register_number T0))
    (cond (is_from_to (register_number S0) (register_number S1) n) (codes "s" ++ decimal (n - register_number S0))
    (cond (is_from_to (register_number A0) (register_number A7) n) (codes "a" ++ decimal (n - register_number A0))
    (cond (is_from_to (register_number S2) (register_number S11) n) (codes "s" ++ decimal (2 + (n - register_number S2)))
    (cond (is_from_to (register_number T3) (register_number T6) n) (codes "t" ++ decimal (3 + (n - register_number T3)))
    (codes "x" ++ decimal n)))))

-- a place; what has none yet prints as given
abbrev pub location_text : List ℕ → Loc → List ℕ
location_text unset loc.Unset = unset
location_text unset (loc.Machine n) = register_name n
location_text unset (loc.Slot k) = codes "[" ++ decimal k ++ codes "]"

abbrev pub label_text : ℕ → List ℕ
label_text l = codes "L" ++ decimal l

-- a word by its signed reading
abbrev pub word_text : ℕ → List ℕ
word_text w = signed_decimal (signed_of w)

-- what is before an operand: a space before the first, and a comma between
abbrev pub separator : Bool → List ℕ
separator true = codes " "
separator false = codes ", "

-- ---- words

abbrev pub signed_word : CmpOp → List ℕ
signed_word compare.Eq = codes "eq"
signed_word compare.Ne = codes "ne"
signed_word compare.Lt = codes "lt"
signed_word compare.Le = codes "le"
signed_word compare.Gt = codes "gt"
signed_word compare.Ge = codes "ge"

abbrev pub unsigned_word : CmpOp → List ℕ
unsigned_word compare.Eq = codes "eqa"
unsigned_word compare.Ne = codes "nea"
unsigned_word compare.Lt = codes "ltu"
unsigned_word compare.Le = codes "leu"
unsigned_word compare.Gt = codes "gtu"
unsigned_word compare.Ge = codes "geu"

abbrev pub operator_word : IntOp → List ℕ
operator_word operator.Add = codes "add"
operator_word operator.AddV = codes "add"
operator_word operator.AddA = codes "add"
operator_word operator.Sub = codes "sub"
operator_word operator.Mul = codes "mul"
operator_word operator.Mulh = codes "mulh"
operator_word operator.Div = codes "div"
operator_word operator.Mod = codes "mod"
operator_word operator.And = codes "and"
operator_word operator.Or = codes "or"
operator_word operator.Xor = codes "xor"
operator_word operator.Shl = codes "shl"
operator_word operator.Shr = codes "shr"
operator_word operator.Sar = codes "sar"
operator_word (operator.Cmp f) = signed_word f
operator_word (operator.CmpU f) = unsigned_word f

abbrev pub chunk_word : Chunk → List ℕ
chunk_word chunk.U8 = codes "u8"
chunk_word chunk.I8 = codes "i8"
chunk_word chunk.U16 = codes "u16"
chunk_word chunk.I16 = codes "i16"
chunk_word chunk.U32 = codes "u32"
chunk_word chunk.I32 = codes "i32"
chunk_word chunk.Int = codes "int"
chunk_word chunk.Val = codes "val"

abbrev pub copy_word : CopyKind → List ℕ
copy_word copy.Move = codes "move"
copy_word copy.Spill = codes "spill"
copy_word copy.Reload = codes "reload"

abbrev pub pure_word : Pure → List ℕ
pure_word (pure.Copy kind) = copy_word kind
pure_word (pure.Constant w) = codes "const"
pure_word (pure.Symbol name) = codes "symbol"
pure_word (pure.Operator f r) = operator_word f

abbrev pub access_word : Access → List ℕ
access_word (access.Load k offset) = codes "load." ++ chunk_word k
access_word (access.Store k offset) = codes "store." ++ chunk_word k
access_word (access.Alloc blocks) = codes "alloc"

abbrev pub calling_word : Calling → List ℕ
calling_word (calling.Call (callee.Symbol name) result) = codes "call"
calling_word (calling.Call callee.Register result) = codes "callreg"
calling_word (calling.TailCall (callee.Symbol name) result) = codes "tailcall"
calling_word (calling.TailCall callee.Register result) = codes "tailcallreg"
calling_word (calling.External row false) = codes "extcall"
calling_word (calling.External row true) = codes "extcallframe"

abbrev pub leaving_word : Leaving → List ℕ
leaving_word (leaving.Checkbound r) = codes "checkbound"
leaving_word leaving.Raise = codes "raise"
leaving_word leaving.Return = codes "return"

abbrev pub op_word : Op → List ℕ
op_word (op.Pure f) = pure_word f
op_word (op.Access f) = access_word f
op_word (op.Calling f) = calling_word f
op_word (op.Leaving f) = leaving_word f

-- The word of a test, after that of what tests: a comparison has its own, since two comparisons of
-- the same operands must differ.
abbrev pub test_word : Test → List ℕ
test_word test.Holds = codes ""
test_word test.Fails = codes " not"
test_word (test.Signed f r) = codes " " ++ signed_word f
test_word (test.Unsigned f r) = codes " " ++ unsigned_word f

-- ---- operands that are no registers, the first of all operands or not

abbrev pub right_text : Bool → Right → List ℕ
right_text first right.Register = []
right_text first (right.Constant w) = separator first ++ word_text w

abbrev pub test_right : Test → Right
test_right test.Holds = right.Register
test_right test.Fails = right.Register
test_right (test.Signed f r) = r
test_right (test.Unsigned f r) = r

abbrev pub pure_text : Bool → Pure → List ℕ
pure_text first (pure.Copy kind) = []
pure_text first (pure.Constant w) = separator first ++ word_text w
pure_text first (pure.Symbol name) = separator first ++ name
pure_text first (pure.Operator f r) = right_text first r

abbrev pub access_text : Bool → Access → List ℕ
access_text first (access.Load k offset) = separator first ++ word_text offset
access_text first (access.Store k offset) = separator first ++ word_text offset
access_text first (access.Alloc blocks) = separator first ++ decimal (total_block_bytes blocks)

abbrev pub callee_text : Bool → Callee → List ℕ
callee_text first (callee.Symbol name) = separator first ++ name
callee_text first callee.Register = []

abbrev pub calling_text : Bool → Calling → List ℕ
calling_text first (calling.Call whom result) = callee_text first whom
calling_text first (calling.TailCall whom result) = callee_text first whom
calling_text first (calling.External row frame) = separator first ++ row.name

abbrev pub leaving_text : Bool → Leaving → List ℕ
leaving_text first (leaving.Checkbound r) = right_text first r
leaving_text first leaving.Raise = []
leaving_text first leaving.Return = []

abbrev pub op_text : Bool → Op → List ℕ
op_text first (op.Pure f) = pure_text first f
op_text first (op.Access f) = access_text first f
op_text first (op.Calling f) = calling_text first f
op_text first (op.Leaving f) = leaving_text first f
