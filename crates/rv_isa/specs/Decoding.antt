-- The instruction of a word.
use Rattle.std.specs.Prelude.{ℕ, ◌/◌, List, ◌==◌, ◌&&◌, if◌then◌else◌, Option, Some, None, find}
use Rattle.std.specs.Option.{option_map, option_or, option_and_then}
use Rattle.rv_isa.specs.declared.word.Fields.{Fields}
use Rattle.rv_isa.specs.declared.instr.Instr.{Instr}
use Rattle.rv_isa.specs.declared.instr.Instr.TheVariants.{Lui, Auipc, Jal, Jalr, Branch, Load, Store, OpImm, Shift, Op, Addiw, ShiftWord, OpWord, Ecall}
use Rattle.rv_isa.specs.Rows.{Opcode, LOAD, OP-IMM, AUIPC, OP-IMM-32, STORE, OP, LUI, OP-32, BRANCH, JALR, JAL, SYSTEM, opcode_bits, opcodes, alu_bits, alu_rows, alu_word_bits, alu_word_rows, alu_imm_bits, alu_imm_rows, shift_bits, shift_rows, shift_word_bits, shift_word_rows, load_bits, load_rows, store_bits, store_rows, condition_bits, condition_rows}
use Rattle.rv_isa.specs.Word.{split}
use Rattle.rv_isa.specs.Immediate.{i_raw, s_raw, b_raw, u_raw, j_raw, amount_raw}

-- the row of a list whose fixed bits are these
abbrev pub row_with : {X : Type 0} → (X → ℕ) → List X → ℕ → Option X
row_with bits rows funct3 = find (λ x. funct3 == bits x) rows

-- the same where a row has two groups of fixed bits
abbrev pub row_with2 : {X : Type 0} → (X → ℕ × ℕ) → List X → ℕ → ℕ → Option X
row_with2 bits rows high funct3 = find (λ x. (high == (bits x).0) && (funct3 == (bits x).1)) rows

abbrev pub opcode_of : ℕ → Option Opcode
opcode_of bits = row_with opcode_bits opcodes bits

-- the instruction of an opcode that has these fields
abbrev pub opcode_row : Opcode → Fields → Option Instr
opcode_row LUI f = Some (Lui f.rd (u_raw f))
opcode_row AUIPC f = Some (Auipc f.rd (u_raw f))
opcode_row JAL f = Some (Jal f.rd (j_raw f))
opcode_row JALR f = if f.funct3 == 0b000 then Some (Jalr f.rd f.rs1 (i_raw f)) else None
opcode_row BRANCH f =
    option_map (λ c. Branch c f.rs1 f.rs2 (b_raw f)) (row_with condition_bits condition_rows f.funct3)
opcode_row LOAD f = option_map (λ w. Load w f.rd f.rs1 (i_raw f)) (row_with load_bits load_rows f.funct3)
opcode_row STORE f =
    option_map (λ w. Store w f.rs1 f.rs2 (s_raw f)) (row_with store_bits store_rows f.funct3)
opcode_row OP-IMM f =
    option_or
    (option_map (λ o. OpImm o f.rd f.rs1 (i_raw f)) (row_with alu_imm_bits alu_imm_rows f.funct3))
    (option_map (λ o. Shift o f.rd f.rs1 (amount_raw f))
    (row_with2 shift_bits shift_rows (f.funct7 / 2) f.funct3))
opcode_row OP f =
    option_map (λ o. Op o f.rd f.rs1 f.rs2) (row_with2 alu_bits alu_rows f.funct7 f.funct3)
opcode_row OP-IMM-32 f =
    if f.funct3 == 0b000 then Some (Addiw f.rd f.rs1 (i_raw f))
    else option_map (λ o. ShiftWord o f.rd f.rs1 f.rs2)
    (row_with2 shift_word_bits shift_word_rows f.funct7 f.funct3)
opcode_row OP-32 f =
    option_map (λ o. OpWord o f.rd f.rs1 f.rs2) (row_with2 alu_word_bits alu_word_rows f.funct7 f.funct3)
opcode_row SYSTEM f =
    if (f.rd == 0) && (f.funct3 == 0) && (f.rs1 == 0) && (f.rs2 == 0) && (f.funct7 == 0)
    then Some Ecall else None

-- the instruction that has these fields
abbrev pub row_of_fields : Fields → Option Instr
row_of_fields f = option_and_then (λ o. opcode_row o f) (opcode_of f.opcode)

-- the instruction of a word: its row of the table, or none
unfoldable pub decoded : ℕ → Option Instr
decoded w = row_of_fields (split w)
