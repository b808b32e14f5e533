-- The word of an instruction.
use Rattle.std.specs.Prelude.{◌≡◌, ℕ, ◌+◌, ◌*◌, ◌/◌, ◌%◌, ◌<◌}
use Rattle.rv_isa.specs.declared.word.Fields.{Fields}
use Rattle.rv_isa.specs.declared.instr.Instr.{Instr}
use Rattle.rv_isa.specs.declared.instr.Instr.TheVariants.{Lui, Auipc, Jal, Jalr, Branch, Load, Store, OpImm, Shift, Op, Addiw, ShiftWord, OpWord, Ecall}
use Rattle.rv_isa.specs.Rows.{LOAD, OP-IMM, AUIPC, OP-IMM-32, STORE, OP, LUI, OP-32, BRANCH, JALR, JAL, SYSTEM, opcode_bits, alu_bits, alu_word_bits, alu_imm_bits, shift_bits, shift_word_bits, load_bits, store_bits, condition_bits}
use Rattle.rv_isa.specs.Word.{word_of_fields}

-- the manual's formats: where each puts the bits of its immediate, an unsigned number

abbrev pub r_type : (opcode funct7 funct3 rd rs1 rs2 : ℕ) → Fields
r_type opcode funct7 funct3 rd rs1 rs2 =
    record { opcode = opcode; rd = rd; funct3 = funct3; rs1 = rs1; rs2 = rs2; funct7 = funct7 }

abbrev pub i_type : (opcode funct3 rd rs1 imm : ℕ) → Fields
i_type opcode funct3 rd rs1 imm = r_type opcode (imm / 32) funct3 rd rs1 (imm % 32)

abbrev pub s_type : (opcode funct3 rs1 rs2 imm : ℕ) → Fields
s_type opcode funct3 rs1 rs2 imm = r_type opcode (imm / 32) funct3 (imm % 32) rs1 rs2

abbrev pub b_type : (opcode funct3 rs1 rs2 imm : ℕ) → Fields
b_type opcode funct3 rs1 rs2 imm =
    r_type opcode (imm / 32 % 64 + 64 * (imm / 4096)) funct3 (imm / 2048 % 2 + 2 * (imm / 2 % 16)) rs1 rs2

abbrev pub u_type : (opcode rd imm : ℕ) → Fields
u_type opcode rd imm = r_type opcode (imm / 8192) (imm % 8) rd (imm / 8 % 32) (imm / 256 % 32)

abbrev pub j_type : (opcode rd imm : ℕ) → Fields
j_type opcode rd imm =
    r_type opcode (imm / 32 % 64 + 64 * (imm / 1048576)) (imm / 4096 % 8) rd (imm / 32768 % 32)
    (imm / 2048 % 2 + 2 * (imm / 2 % 16))

abbrev pub fields_of : Instr → Fields
fields_of (Lui rd imm) = u_type (opcode_bits LUI) rd imm
fields_of (Auipc rd imm) = u_type (opcode_bits AUIPC) rd imm
fields_of (Jal rd offset) = j_type (opcode_bits JAL) rd offset
fields_of (Jalr rd rs1 imm) = i_type (opcode_bits JALR) 0b000 rd rs1 imm
fields_of (Branch condition rs1 rs2 offset) = b_type (opcode_bits BRANCH) (condition_bits condition) rs1 rs2 offset
fields_of (Load width rd rs1 imm) = i_type (opcode_bits LOAD) (load_bits width) rd rs1 imm
fields_of (Store width rs1 rs2 imm) = s_type (opcode_bits STORE) (store_bits width) rs1 rs2 imm
fields_of (OpImm op rd rs1 imm) = i_type (opcode_bits OP-IMM) (alu_imm_bits op) rd rs1 imm
fields_of (Shift op rd rs1 amount) =
    r_type (opcode_bits OP-IMM) (amount / 32 + 2 * (shift_bits op).0) (shift_bits op).1 rd rs1 (amount % 32)
fields_of (Op op rd rs1 rs2) = r_type (opcode_bits OP) (alu_bits op).0 (alu_bits op).1 rd rs1 rs2
fields_of (Addiw rd rs1 imm) = i_type (opcode_bits OP-IMM-32) 0b000 rd rs1 imm
fields_of (ShiftWord op rd rs1 amount) =
    r_type (opcode_bits OP-IMM-32) (shift_word_bits op).0 (shift_word_bits op).1 rd rs1 amount
fields_of (OpWord op rd rs1 rs2) = r_type (opcode_bits OP-32) (alu_word_bits op).0 (alu_word_bits op).1 rd rs1 rs2
fields_of Ecall = r_type (opcode_bits SYSTEM) 0 0 0 0 0

-- the numbers of an instruction fit their fields
abbrev pub InstrFits : Instr → Type 0
InstrFits (Lui rd imm) = (rd < 32) × (imm < 1048576)
InstrFits (Auipc rd imm) = (rd < 32) × (imm < 1048576)
InstrFits (Jal rd offset) = (rd < 32) × (offset < 2097152) × (offset % 2 ≡ 0)
InstrFits (Jalr rd rs1 imm) = (rd < 32) × (rs1 < 32) × (imm < 4096)
InstrFits (Branch _ rs1 rs2 offset) = (rs1 < 32) × (rs2 < 32) × (offset < 8192) × (offset % 2 ≡ 0)
InstrFits (Load _ rd rs1 imm) = (rd < 32) × (rs1 < 32) × (imm < 4096)
InstrFits (Store _ rs1 rs2 imm) = (rs1 < 32) × (rs2 < 32) × (imm < 4096)
InstrFits (OpImm _ rd rs1 imm) = (rd < 32) × (rs1 < 32) × (imm < 4096)
InstrFits (Shift _ rd rs1 amount) = (rd < 32) × (rs1 < 32) × (amount < 64)
InstrFits (Op _ rd rs1 rs2) = (rd < 32) × (rs1 < 32) × (rs2 < 32)
InstrFits (Addiw rd rs1 imm) = (rd < 32) × (rs1 < 32) × (imm < 4096)
InstrFits (ShiftWord _ rd rs1 amount) = (rd < 32) × (rs1 < 32) × (amount < 32)
InstrFits (OpWord _ rd rs1 rs2) = (rd < 32) × (rs1 < 32) × (rs2 < 32)
InstrFits Ecall = Unit {0}

-- the word of an instruction
unfoldable pub encoded : Instr → ℕ
encoded i = word_of_fields (fields_of i)
