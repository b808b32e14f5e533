-- Integer operators, comparisons that give 1 or 0 among them.
--
-- A quotient by 0 and a shift past 63 are improper in the text, so that nothing tests for them.
use Rattle.std.specs.Prelude.{ℕ, ◌-◌, ◌%◌, List, [], ◌∷◌, ◌++◌}
use Rattle.bs_words.specs.declared.operators.CmpOp.{CmpOp}
use Rattle.bs_words.specs.declared.operators.CmpOp.TheVariants as compare
use Rattle.bs_words.specs.declared.operators.IntOp.{IntOp}
use Rattle.bs_words.specs.declared.operators.IntOp.TheVariants as operator
use Rattle.rv_isa.specs.declared.instr.AluImmOp.{AluImmOp}
use Rattle.rv_isa.specs.declared.instr.AluImmOp.TheVariants as imm
use Rattle.rv_isa.specs.declared.instr.AluOp.{AluOp}
use Rattle.rv_isa.specs.declared.instr.AluOp.TheVariants as alu
use Rattle.rv_isa.specs.declared.instr.ShiftOp.TheVariants as shifts
use Rattle.rv_isa.specs.declared.register.Register.{Register}
use Rattle.rv_isa.specs.declared.register.Register.TheVariants.{Zero, T2}
use Rattle.rv_pieces.specs.declared.piece.Piece.{Piece}
use Rattle.rv_emit_rules.specs.Instructions.{with_immediate, addi, alu_operation, shift_piece}
use Rattle.rv_emit_rules.specs.Constants.{constant_pieces}

-- ---- truth values

-- 1 becomes 0, and 0 becomes 1
abbrev pub opposed : Register → Piece
opposed to = with_immediate imm.Xori to to 1

-- 1 where the register is 0, else 0
abbrev pub is_none : Register → Piece
is_none to = with_immediate imm.Sltiu to to 1

-- 1 where the register is not 0, else 0
abbrev pub is_some : Register → Piece
is_some to = alu_operation alu.Sltu to Zero to

-- ---- two registers

-- `less` is slt or sltu
abbrev pub compared : (less : AluOp) → CmpOp → (to a b : Register) → List Piece
compared less compare.Eq to a b = alu_operation alu.Xor to a b ∷ is_none to ∷ []
compared less compare.Ne to a b = alu_operation alu.Xor to a b ∷ is_some to ∷ []
compared less compare.Lt to a b = alu_operation less to a b ∷ []
compared less compare.Ge to a b = alu_operation less to a b ∷ opposed to ∷ []
compared less compare.Gt to a b = alu_operation less to b a ∷ []
compared less compare.Le to a b = alu_operation less to b a ∷ opposed to ∷ []

abbrev pub operated : IntOp → (to a b : Register) → List Piece
operated operator.Add to a b = alu_operation alu.Add to a b ∷ []
operated operator.AddV to a b = alu_operation alu.Add to a b ∷ []
operated operator.AddA to a b = alu_operation alu.Add to a b ∷ []
operated operator.Sub to a b = alu_operation alu.Sub to a b ∷ []
operated operator.Mul to a b = alu_operation alu.Mul to a b ∷ []
operated operator.Mulh to a b = alu_operation alu.Mulh to a b ∷ []
operated operator.Div to a b = alu_operation alu.Div to a b ∷ []
operated operator.Mod to a b = alu_operation alu.Rem to a b ∷ []
operated operator.And to a b = alu_operation alu.And to a b ∷ []
operated operator.Or to a b = alu_operation alu.Or to a b ∷ []
operated operator.Xor to a b = alu_operation alu.Xor to a b ∷ []
operated operator.Shl to a b = alu_operation alu.Sll to a b ∷ []
operated operator.Shr to a b = alu_operation alu.Srl to a b ∷ []
operated operator.Sar to a b = alu_operation alu.Sra to a b ∷ []
operated (operator.Cmp f) to a b = compared alu.Slt f to a b
operated (operator.CmpU f) to a b = compared alu.Sltu f to a b

-- ---- a register and a constant

-- through a scratch register
abbrev pub operated_far : IntOp → (to a : Register) → ℕ → List Piece
operated_far f to a w = constant_pieces T2 w ++ operated f to a T2

-- `less` is slti or sltiu
abbrev pub compared_with : (less : AluImmOp) → (far : AluOp) → CmpOp → (to a : Register) → ℕ →
    List Piece
compared_with less far compare.Eq to a w = with_immediate imm.Xori to a w ∷ is_none to ∷ []
compared_with less far compare.Ne to a w = with_immediate imm.Xori to a w ∷ is_some to ∷ []
compared_with less far compare.Lt to a w = with_immediate less to a w ∷ []
compared_with less far compare.Ge to a w = with_immediate less to a w ∷ opposed to ∷ []
compared_with less far compare.Gt to a w = constant_pieces T2 w ++ compared far compare.Gt to a T2
compared_with less far compare.Le to a w = constant_pieces T2 w ++ compared far compare.Le to a T2

abbrev pub operated_with : IntOp → (to a : Register) → ℕ → List Piece
operated_with operator.Add to a w = addi to a w ∷ []
operated_with operator.AddV to a w = addi to a w ∷ []
operated_with operator.AddA to a w = addi to a w ∷ []
-- the opposite is added
operated_with operator.Sub to a w = addi to a (4096 - w % 4096) ∷ []
operated_with operator.And to a w = with_immediate imm.Andi to a w ∷ []
operated_with operator.Or to a w = with_immediate imm.Ori to a w ∷ []
operated_with operator.Xor to a w = with_immediate imm.Xori to a w ∷ []
operated_with operator.Shl to a w = shift_piece shifts.Slli to a w ∷ []
operated_with operator.Shr to a w = shift_piece shifts.Srli to a w ∷ []
operated_with operator.Sar to a w = shift_piece shifts.Srai to a w ∷ []
operated_with (operator.Cmp f) to a w = compared_with imm.Slti alu.Slt f to a w
operated_with (operator.CmpU f) to a w = compared_with imm.Sltiu alu.Sltu f to a w
-- the machine has no immediate for these
operated_with operator.Mul to a w = operated_far operator.Mul to a w
operated_with operator.Mulh to a w = operated_far operator.Mulh to a w
operated_with operator.Div to a w = operated_far operator.Div to a w
operated_with operator.Mod to a w = operated_far operator.Mod to a w
