-- Operands and results of other instructions than copies are among all.
use Rattle.std.proofs.Common.{◌+◌, ◌≤◌, List, [], ◌∷◌, length, arith}
use Rattle.mach_ir.specs.Sizes.{operand_count}
use Rattle.mach_ir.specs.declared.mach.Instr.{Instr}
use Rattle.mach_ir.specs.declared.mach.MachOp.{MachOp}
use Rattle.mach_ir.specs.declared.mach.MachOp.TheVariants as mach
use Rattle.mach_ir.specs.declared.op.Op.TheVariants as op
use Rattle.mach_ir.specs.declared.op.Pure.TheVariants as pure
use Rattle.mach_ir.specs.declared.reg.Reg.{Reg}
use Rattle.pass_rules.specs.Measures.{operands_with, other_operands}

few_others : (f : MachOp) (args results : List Reg) → operands_with f args results ≤ length args + length results
few_others (mach.Op (op.Pure (pure.Copy kind))) args results = omega arith
few_others (mach.Op (op.Pure (pure.Constant w))) args results = omega arith
few_others (mach.Op (op.Pure (pure.Symbol name))) args results = omega arith
few_others (mach.Op (op.Pure (pure.Operator f right))) args results = omega arith
few_others (mach.Op (op.Access f)) args results = omega arith
few_others (mach.Op (op.Calling f)) args results = omega arith
few_others (mach.Op (op.Leaving f)) args results = omega arith
few_others (mach.Mark f) args results = omega arith

pub others_few : (code : List Instr) → other_operands code ≤ operand_count code
others_few [] = omega arith
others_few (i ∷ is) = let here = few_others i.op i.args i.results in let rest = others_few is in omega (arith, here, rest)
