-- The instructions that selection makes, with their operands and results.
use Rattle.std.specs.Prelude.{ℕ, Bool, List, [], ◌∷◌}
use Rattle.bs_words.specs.declared.operators.IntOp.{IntOp}
use Rattle.bs_words.specs.declared.types.Chunk.{Chunk}
use Rattle.bs_words.specs.declared.types.Comp.{Comp}
use Rattle.bs_words.specs.declared.types.Ret.{Ret}
use Rattle.mach_ir.specs.declared.blocks.NewBlock.{NewBlock}
use Rattle.mach_ir.specs.declared.op.Access.TheVariants as access
use Rattle.mach_ir.specs.declared.op.Callee.{Callee}
use Rattle.mach_ir.specs.declared.op.Calling.TheVariants as calling
use Rattle.mach_ir.specs.declared.op.CopyKind.TheVariants as copy
use Rattle.mach_ir.specs.declared.op.External as declared
use Rattle.mach_ir.specs.declared.op.Leaving.TheVariants as leaving
use Rattle.mach_ir.specs.declared.op.Op.{Op}
use Rattle.mach_ir.specs.declared.op.Op.TheVariants as op
use Rattle.mach_ir.specs.declared.op.Pure.TheVariants as pure
use Rattle.mach_ir.specs.declared.op.Right.{Right}
use Rattle.mach_ir.specs.declared.op.Right.TheVariants as right
use Rattle.mach_ir.specs.declared.mach.Instr.{Instr}
use Rattle.mach_ir.specs.declared.mach.MachOp.TheVariants as mach
use Rattle.mach_ir.specs.declared.mach.Mark.{Mark}
use Rattle.mach_ir.specs.declared.mach.Mark.TheVariants as mark
use Rattle.mach_ir.specs.declared.mach.Test.{Test}
use Rattle.mach_ir.specs.declared.reg.Reg.{Reg}

abbrev pub operation_instr : Op → List Reg → List Reg → Instr
operation_instr f args results = record { op = mach.Op f; args = args; results = results }

abbrev pub bare_mark : Mark → Instr
bare_mark f = record { op = mach.Mark f; args = []; results = [] }

-- ---- what reads registers alone

abbrev pub move : Reg → Reg → Instr
move from to = operation_instr (op.Pure (pure.Copy copy.Move)) (from ∷ []) (to ∷ [])

abbrev pub constant : ℕ → Reg → Instr
constant w to = operation_instr (op.Pure (pure.Constant w)) [] (to ∷ [])

abbrev pub symbol : List ℕ → Reg → Instr
symbol name to = operation_instr (op.Pure (pure.Symbol name)) [] (to ∷ [])

-- the register of a right operand, or none where it is a constant
abbrev pub right_regs : Right → Reg → List Reg
right_regs right.Register y = y ∷ []
right_regs (right.Constant w) y = []

abbrev pub operator : IntOp → Right → List Reg → Reg → Instr
operator f r args to = operation_instr (op.Pure (pure.Operator f r)) args (to ∷ [])

-- ---- memory

abbrev pub load : Chunk → ℕ → Reg → Reg → Instr
load k offset address to = operation_instr (op.Access (access.Load k offset)) (address ∷ []) (to ∷ [])

abbrev pub store : Chunk → ℕ → Reg → Reg → Instr
store k offset address value =
    operation_instr (op.Access (access.Store k offset)) (address ∷ value ∷ []) []

abbrev pub alloc : NewBlock → Reg → Instr
alloc block to = operation_instr (op.Access (access.Alloc (block ∷ []))) [] (to ∷ [])

-- ---- calls

abbrev pub call : Callee → Ret → List Reg → List Reg → Instr
call whom result args results = operation_instr (op.Calling (calling.Call whom result)) args results

abbrev pub tail_call : Callee → Ret → List Reg → Instr
tail_call whom result args = operation_instr (op.Calling (calling.TailCall whom result)) args []

abbrev pub external_instruction : List ℕ → List Comp → Ret → Bool → List Reg → List Reg → Instr
external_instruction name params result frame args results =
    let row : declared.External = record { name = name; params = params; result = result } in
    operation_instr (op.Calling (calling.External row frame)) args results

-- ---- leaving

abbrev pub checkbound_instr : Right → Reg → Reg → Instr
checkbound_instr r bound index =
    operation_instr (op.Leaving (leaving.Checkbound r)) (bound ∷ right_regs r index) []

abbrev pub raising : Reg → Instr
raising value = operation_instr (op.Leaving leaving.Raise) (value ∷ []) []

abbrev pub give_back : List Reg → Instr
give_back values = operation_instr (op.Leaving leaving.Return) values []

-- ---- marks with operands or results

abbrev pub branch : Test → ℕ → List Reg → Instr
branch test otherwise args =
    record { op = mach.Mark (mark.If test otherwise); args = args; results = [] }

abbrev pub choose : List ℕ → Reg → Instr
choose labels index =
    record { op = mach.Mark (mark.Switch labels); args = index ∷ []; results = [] }

abbrev pub handler : ℕ → Reg → Instr
handler label raised =
    record { op = mach.Mark (mark.Handler label); args = []; results = raised ∷ [] }
