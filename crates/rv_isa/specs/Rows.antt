-- The table: the opcodes, and the fixed bits of each row of an opcode, as the manual lists them in
-- "RV32/64G Instruction Set Listings".
use Rattle.std.specs.Prelude.{ℕ, List, [], ◌∷◌}
use Rattle.rv_isa.specs.declared.instr.AluOp.{AluOp}
use Rattle.rv_isa.specs.declared.instr.AluOp.TheVariants.{Add, Sub, Sll, Slt, Sltu, Xor, Srl, Sra, Or, And, Mul, Mulh, Mulhsu, Mulhu, Div, Divu, Rem, Remu}
use Rattle.rv_isa.specs.declared.instr.AluWordOp.{AluWordOp}
use Rattle.rv_isa.specs.declared.instr.AluWordOp.TheVariants.{Addw, Subw, Sllw, Srlw, Sraw, Mulw, Divw, Divuw, Remw, Remuw}
use Rattle.rv_isa.specs.declared.instr.AluImmOp.{AluImmOp}
use Rattle.rv_isa.specs.declared.instr.AluImmOp.TheVariants.{Addi, Slti, Sltiu, Xori, Ori, Andi}
use Rattle.rv_isa.specs.declared.instr.ShiftOp.{ShiftOp}
use Rattle.rv_isa.specs.declared.instr.ShiftOp.TheVariants.{Slli, Srli, Srai}
use Rattle.rv_isa.specs.declared.instr.ShiftWordOp.{ShiftWordOp}
use Rattle.rv_isa.specs.declared.instr.ShiftWordOp.TheVariants.{Slliw, Srliw, Sraiw}
use Rattle.rv_isa.specs.declared.instr.LoadWidth.{LoadWidth}
use Rattle.rv_isa.specs.declared.instr.LoadWidth.TheVariants.{Lb, Lh, Lw, Ld, Lbu, Lhu, Lwu}
use Rattle.rv_isa.specs.declared.instr.StoreWidth.{StoreWidth}
use Rattle.rv_isa.specs.declared.instr.StoreWidth.TheVariants.{Sb, Sh, Sw, Sd}
use Rattle.rv_isa.specs.declared.instr.Condition.{Condition}
use Rattle.rv_isa.specs.declared.instr.Condition.TheVariants.{Beq, Bne, Blt, Bge, Bltu, Bgeu}

-- the opcodes under the manual's names
pub data Opcode : Type 0 where
  LOAD : Opcode
  OP-IMM : Opcode
  AUIPC : Opcode
  OP-IMM-32 : Opcode
  STORE : Opcode
  OP : Opcode
  LUI : Opcode
  OP-32 : Opcode
  BRANCH : Opcode
  JALR : Opcode
  JAL : Opcode
  SYSTEM : Opcode

-- bits 6 to 0 of a word
abbrev pub opcode_bits : Opcode → ℕ
opcode_bits LOAD = 0b0000011
opcode_bits OP-IMM = 0b0010011
opcode_bits AUIPC = 0b0010111
opcode_bits OP-IMM-32 = 0b0011011
opcode_bits STORE = 0b0100011
opcode_bits OP = 0b0110011
opcode_bits LUI = 0b0110111
opcode_bits OP-32 = 0b0111011
opcode_bits BRANCH = 0b1100011
opcode_bits JALR = 0b1100111
opcode_bits JAL = 0b1101111
opcode_bits SYSTEM = 0b1110011

abbrev pub opcodes : List Opcode
opcodes =
    LOAD ∷ OP-IMM ∷ AUIPC ∷ OP-IMM-32 ∷ STORE ∷ OP ∷ LUI ∷ OP-32 ∷ BRANCH ∷ JALR ∷ JAL ∷ SYSTEM ∷ []

-- OP: funct7 and funct3
abbrev pub alu_bits : AluOp → ℕ × ℕ
alu_bits Add = (0b0000000, 0b000)
alu_bits Sub = (0b0100000, 0b000)
alu_bits Sll = (0b0000000, 0b001)
alu_bits Slt = (0b0000000, 0b010)
alu_bits Sltu = (0b0000000, 0b011)
alu_bits Xor = (0b0000000, 0b100)
alu_bits Srl = (0b0000000, 0b101)
alu_bits Sra = (0b0100000, 0b101)
alu_bits Or = (0b0000000, 0b110)
alu_bits And = (0b0000000, 0b111)
alu_bits Mul = (0b0000001, 0b000)
alu_bits Mulh = (0b0000001, 0b001)
alu_bits Mulhsu = (0b0000001, 0b010)
alu_bits Mulhu = (0b0000001, 0b011)
alu_bits Div = (0b0000001, 0b100)
alu_bits Divu = (0b0000001, 0b101)
alu_bits Rem = (0b0000001, 0b110)
alu_bits Remu = (0b0000001, 0b111)

abbrev pub alu_rows : List AluOp
alu_rows =
    Add ∷ Sub ∷ Sll ∷ Slt ∷ Sltu ∷ Xor ∷ Srl ∷ Sra ∷ Or ∷ And ∷ Mul ∷ Mulh ∷ Mulhsu ∷ Mulhu ∷ Div ∷ Divu ∷ Rem ∷ Remu ∷ []

-- OP-32: funct7 and funct3
abbrev pub alu_word_bits : AluWordOp → ℕ × ℕ
alu_word_bits Addw = (0b0000000, 0b000)
alu_word_bits Subw = (0b0100000, 0b000)
alu_word_bits Sllw = (0b0000000, 0b001)
alu_word_bits Srlw = (0b0000000, 0b101)
alu_word_bits Sraw = (0b0100000, 0b101)
alu_word_bits Mulw = (0b0000001, 0b000)
alu_word_bits Divw = (0b0000001, 0b100)
alu_word_bits Divuw = (0b0000001, 0b101)
alu_word_bits Remw = (0b0000001, 0b110)
alu_word_bits Remuw = (0b0000001, 0b111)

abbrev pub alu_word_rows : List AluWordOp
alu_word_rows =
    Addw ∷ Subw ∷ Sllw ∷ Srlw ∷ Sraw ∷ Mulw ∷ Divw ∷ Divuw ∷ Remw ∷ Remuw ∷ []

-- OP-IMM with an immediate: funct3
abbrev pub alu_imm_bits : AluImmOp → ℕ
alu_imm_bits Addi = 0b000
alu_imm_bits Slti = 0b010
alu_imm_bits Sltiu = 0b011
alu_imm_bits Xori = 0b100
alu_imm_bits Ori = 0b110
alu_imm_bits Andi = 0b111

abbrev pub alu_imm_rows : List AluImmOp
alu_imm_rows = Addi ∷ Slti ∷ Sltiu ∷ Xori ∷ Ori ∷ Andi ∷ []

-- OP-IMM with an amount: the upper six bits of the word, and funct3
abbrev pub shift_bits : ShiftOp → ℕ × ℕ
shift_bits Slli = (0b000000, 0b001)
shift_bits Srli = (0b000000, 0b101)
shift_bits Srai = (0b010000, 0b101)

abbrev pub shift_rows : List ShiftOp
shift_rows = Slli ∷ Srli ∷ Srai ∷ []

-- OP-IMM-32 with an amount: funct7 and funct3
abbrev pub shift_word_bits : ShiftWordOp → ℕ × ℕ
shift_word_bits Slliw = (0b0000000, 0b001)
shift_word_bits Srliw = (0b0000000, 0b101)
shift_word_bits Sraiw = (0b0100000, 0b101)

abbrev pub shift_word_rows : List ShiftWordOp
shift_word_rows = Slliw ∷ Srliw ∷ Sraiw ∷ []

-- LOAD: funct3
abbrev pub load_bits : LoadWidth → ℕ
load_bits Lb = 0b000
load_bits Lh = 0b001
load_bits Lw = 0b010
load_bits Ld = 0b011
load_bits Lbu = 0b100
load_bits Lhu = 0b101
load_bits Lwu = 0b110

abbrev pub load_rows : List LoadWidth
load_rows = Lb ∷ Lh ∷ Lw ∷ Ld ∷ Lbu ∷ Lhu ∷ Lwu ∷ []

-- STORE: funct3
abbrev pub store_bits : StoreWidth → ℕ
store_bits Sb = 0b000
store_bits Sh = 0b001
store_bits Sw = 0b010
store_bits Sd = 0b011

abbrev pub store_rows : List StoreWidth
store_rows = Sb ∷ Sh ∷ Sw ∷ Sd ∷ []

-- BRANCH: funct3
abbrev pub condition_bits : Condition → ℕ
condition_bits Beq = 0b000
condition_bits Bne = 0b001
condition_bits Blt = 0b100
condition_bits Bge = 0b101
condition_bits Bltu = 0b110
condition_bits Bgeu = 0b111

abbrev pub condition_rows : List Condition
condition_rows = Beq ∷ Bne ∷ Blt ∷ Bge ∷ Bltu ∷ Bgeu ∷ []
