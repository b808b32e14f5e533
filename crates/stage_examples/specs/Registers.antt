-- Mach functions made by hand.
use Rattle.std.specs.Prelude.{ℕ, true, List, [], ◌∷◌, ◌++◌, codes}
use Rattle.bs_words.specs.declared.operators.CmpOp.TheVariants as compare
use Rattle.bs_words.specs.declared.operators.IntOp.{IntOp}
use Rattle.bs_words.specs.declared.operators.IntOp.TheVariants as operator
use Rattle.bs_words.specs.declared.types.Chunk.{Chunk}
use Rattle.bs_words.specs.declared.types.Chunk.TheVariants as chunk
use Rattle.bs_words.specs.declared.types.Comp.{Comp}
use Rattle.bs_words.specs.declared.types.Comp.TheVariants as comp
use Rattle.bs_words.specs.declared.types.Loc.{Loc}
use Rattle.bs_words.specs.declared.types.Loc.TheVariants as loc
use Rattle.bs_words.specs.declared.types.Ret.TheVariants as ret
use Rattle.mach_ir.specs.declared.op.Access.TheVariants as access
use Rattle.mach_ir.specs.declared.op.Callee.TheVariants as callee
use Rattle.mach_ir.specs.declared.op.Calling.TheVariants as calling
use Rattle.mach_ir.specs.declared.op.CopyKind.TheVariants as copy
use Rattle.mach_ir.specs.declared.op.Leaving.TheVariants as leaving
use Rattle.mach_ir.specs.declared.op.Op.{Op}
use Rattle.mach_ir.specs.declared.op.Op.TheVariants as op
use Rattle.mach_ir.specs.declared.op.Pure.TheVariants as pure
use Rattle.mach_ir.specs.declared.op.Right.{Right}
use Rattle.mach_ir.specs.declared.op.Right.TheVariants as right
use Rattle.mach_ir.specs.declared.mach.Instr.{Instr}
use Rattle.mach_ir.specs.declared.mach.Mach.{Mach}
use Rattle.mach_ir.specs.declared.mach.MachOp.TheVariants as mach
use Rattle.mach_ir.specs.declared.mach.Mark.{Mark}
use Rattle.mach_ir.specs.declared.mach.Mark.TheVariants as mark
use Rattle.mach_ir.specs.declared.mach.Test.TheVariants as test
use Rattle.mach_ir.specs.declared.reg.Reg.{Reg}
use Rattle.rv_isa.specs.Registers.{register_number}
use Rattle.rv_isa.specs.declared.register.Register.TheVariants.{A1, S2}

-- ---- operations of both languages

abbrev pub move_operation : Op
move_operation = op.Pure (pure.Copy copy.Move)

abbrev pub constant_operation : ℕ → Op
constant_operation w = op.Pure (pure.Constant w)

abbrev pub computes : IntOp → Right → Op
computes f r = op.Pure (pure.Operator f r)

abbrev pub load_operation : Chunk → ℕ → Op
load_operation k offset = op.Access (access.Load k offset)

abbrev pub store_operation : Chunk → ℕ → Op
store_operation k offset = op.Access (access.Store k offset)

-- a scanned block of two cells
abbrev pub header : ℕ
header = 2048

abbrev pub allocate : Op
allocate = op.Access (access.Alloc (record { header = header; cells = 2 } ∷ []))

-- a call of the function of one int, which gives an int
abbrev pub example_call : Op
example_call = op.Calling (calling.Call (callee.Symbol (codes "f")) (ret.Comp comp.Int))

abbrev pub tail_calls : Op
tail_calls = op.Calling (calling.TailCall (callee.Symbol (codes "f")) (ret.Comp comp.Int))

-- a frame call with no argument, which gives a val
abbrev pub example_frame_call : Op
example_frame_call =
    op.Calling (calling.External
    (record { name = codes "gc"; params = []; result = ret.Comp comp.Val }) true)

abbrev pub raise : Op
raise = op.Leaving leaving.Raise

-- of an index that is a register
abbrev pub register_checkbound : Op
register_checkbound = op.Leaving (leaving.Checkbound right.Register)

abbrev pub return_operation : Op
return_operation = op.Leaving leaving.Return

-- offset -8
abbrev pub minus_eight : ℕ
minus_eight = 0xFFFFFFFFFFFFFFF8

-- ---- registers

abbrev pub at : ℕ → Comp → Loc → Reg
at n c l = record { number = n; comp = c; loc = l; origin = n }

abbrev pub int : ℕ → Reg
int n = at n comp.Int loc.Unset

abbrev pub val : ℕ → Reg
val n = at n comp.Val loc.Unset

abbrev pub addr : ℕ → Reg
addr n = at n comp.Addr loc.Unset

-- registers that are at a1, which an external call destroys, and at s2, which it keeps
abbrev pub at_a1 : Reg
at_a1 = at 20 comp.Int (loc.Machine (register_number A1))

abbrev pub at_s2 : Reg
at_s2 = at 21 comp.Int (loc.Machine (register_number S2))

abbrev pub instr : Op → List Reg → List Reg → Instr
instr f args results = record { op = mach.Op f; args = args; results = results }

abbrev pub mark_instruction : Mark → List Reg → List Reg → Instr
mark_instruction f args results = record { op = mach.Mark f; args = args; results = results }

abbrev pub mach_example : List Reg → List Instr → Mach
mach_example params code =
    record {
      name = codes "g";
      params = params;
      result = ret.Comp comp.Int;
      labels = 9;
      colours = at_a1 ∷ at_s2 ∷ [];
      code = code;
    }

-- ---- functions

-- the sum of the numbers up to n: a loop is a catch to which an exit goes back
abbrev pub sum : Mach
sum =
    mach_example (int 0 ∷ [])
    (instr (constant_operation 0) [] (int 1 ∷ [])
    ∷ mark_instruction mark.Catch [] []
    ∷ mark_instruction (mark.Exit 1 0) [] []
    ∷ mark_instruction (mark.With 1 2) [] []
    ∷ mark_instruction (mark.If (test.Signed compare.Gt (right.Constant 0)) 3) (int 0 ∷ []) []
    ∷ instr (computes operator.Add right.Register) (int 1 ∷ int 0 ∷ []) (int 1 ∷ [])
    ∷ instr (computes operator.Sub (right.Constant 1)) (int 0 ∷ []) (int 0 ∷ [])
    ∷ mark_instruction (mark.Exit 1 0) [] []
    ∷ mark_instruction (mark.End 3) [] []
    ∷ mark_instruction (mark.End 2) [] []
    ∷ instr return_operation (int 1 ∷ []) [] ∷ [])

-- in a try, whose handler gives what was raised
abbrev pub guarded : List Instr → Mach
guarded body =
    mach_example (int 0 ∷ [])
    (mark_instruction (mark.Try 1) [] []
    ∷ (body
    ++ (mark_instruction (mark.Leave 1 2) [] []
    ∷ mark_instruction (mark.Handler 1) [] (val 3 ∷ [])
    ∷ instr return_operation (val 3 ∷ []) []
    ∷ mark_instruction (mark.End 2) [] []
    ∷ instr return_operation (int 1 ∷ []) [] ∷ [])))

abbrev pub guards_call : Mach
guards_call = guarded (instr example_call (int 0 ∷ []) (int 1 ∷ []) ∷ [])

abbrev pub guards_raise : Mach
guards_raise = guarded (instr move_operation (int 0 ∷ []) (val 2 ∷ []) ∷ instr raise (val 2 ∷ []) [] ∷ [])

abbrev pub guards_bound : Mach
guards_bound =
    guarded
    (instr (constant_operation 3) [] (int 2 ∷ [])
    ∷ instr register_checkbound (int 2 ∷ int 0 ∷ []) []
    ∷ instr move_operation (int 0 ∷ []) (int 1 ∷ []) ∷ [])

abbrev pub guards_frame_call : Mach
guards_frame_call =
    guarded
    (instr example_frame_call [] (val 2 ∷ [])
    ∷ instr move_operation (val 2 ∷ []) (int 1 ∷ []) ∷ [])

-- a block, its header, its cells
abbrev pub headed : List Instr
headed =
    instr (constant_operation header) [] (int 2 ∷ [])
    ∷ instr (store_operation chunk.Int minus_eight) (val 1 ∷ int 2 ∷ []) [] ∷ []

abbrev pub filled_block : List Instr
filled_block =
    instr (store_operation chunk.Val 0) (val 1 ∷ int 0 ∷ []) []
    ∷ instr (store_operation chunk.Val 8) (val 1 ∷ int 0 ∷ []) [] ∷ []

abbrev pub block : List Instr → List Instr → List Instr → Mach
block before_all parts after =
    mach_example (int 0 ∷ [])
    (before_all ++ (instr allocate [] (val 1 ∷ []) ∷ (parts ++ after)))

-- its second cell is given
abbrev pub reads_back : List Instr
reads_back =
    instr (load_operation chunk.Val 8) (val 1 ∷ []) (val 4 ∷ [])
    ∷ instr return_operation (val 4 ∷ []) [] ∷ []

abbrev pub keeps_block : Mach
keeps_block = block [] (headed ++ filled_block) reads_back

abbrev pub has_no_header : Mach
has_no_header = block [] filled_block reads_back

abbrev pub has_no_cells : Mach
has_no_cells = block [] headed reads_back

abbrev pub other_header : Mach
other_header =
    block []
    (instr (constant_operation 1024) [] (int 2 ∷ [])
    ∷ instr (store_operation chunk.Int minus_eight) (val 1 ∷ int 2 ∷ []) [] ∷ filled_block)
    reads_back

-- An address in the block, before and after a call.
abbrev pub address : Instr
address =
    instr (computes operator.AddA (right.Constant 8)) (val 1 ∷ []) (addr 5 ∷ [])

abbrev pub reads_at_address : List Instr
reads_at_address =
    instr (load_operation chunk.Val 0) (addr 5 ∷ []) (val 4 ∷ [])
    ∷ instr return_operation (val 4 ∷ []) [] ∷ []

abbrev pub address_over_call : Mach
address_over_call =
    block [] (headed ++ filled_block)
    (address ∷ instr example_call (int 0 ∷ []) (int 6 ∷ []) ∷ reads_at_address)

abbrev pub address_after_call : Mach
address_after_call =
    block [] (headed ++ filled_block)
    (instr example_call (int 0 ∷ []) (int 6 ∷ []) ∷ address ∷ reads_at_address)

-- a pointer in an int register
abbrev pub hides_pointer : Mach
hides_pointer =
    block [] (headed ++ filled_block)
    (instr move_operation (val 1 ∷ []) (int 6 ∷ []) ∷ instr return_operation (int 6 ∷ []) [] ∷ [])

-- a value over an external call
abbrev pub over_call_out : Reg → Mach
over_call_out r =
    mach_example (int 0 ∷ [])
    (instr move_operation (int 0 ∷ []) (r ∷ [])
    ∷ instr example_frame_call [] (val 2 ∷ [])
    ∷ instr return_operation (r ∷ []) [] ∷ [])

abbrev pub reads_unwritten : Mach
reads_unwritten = mach_example (int 0 ∷ []) (instr return_operation (int 1 ∷ []) [] ∷ [])

abbrev pub calls_last : Mach
calls_last = mach_example (int 0 ∷ []) (instr tail_calls (int 0 ∷ []) [] ∷ [])

-- index 0 and 2 to 10, index 1 to 20
abbrev pub chooses : Mach
chooses =
    mach_example (int 0 ∷ [])
    (mark_instruction (mark.Switch (1 ∷ 2 ∷ 1 ∷ [])) (int 0 ∷ []) []
    ∷ mark_instruction (mark.Case (0 ∷ 2 ∷ []) 1 3) [] []
    ∷ instr (constant_operation 10) [] (int 1 ∷ [])
    ∷ mark_instruction (mark.Case (1 ∷ []) 2 3) [] []
    ∷ instr (constant_operation 20) [] (int 1 ∷ [])
    ∷ mark_instruction (mark.End 3) [] []
    ∷ instr return_operation (int 1 ∷ []) [] ∷ [])
