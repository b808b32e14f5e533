-- Decoding gives back what was encoded.
use Rattle.std.proofs.Common.{◌≡◌, ℕ, ◌+◌, ◌*◌, ◌/◌, ◌%◌, ◌<◌, ◌==◌, false, Some, None, refl, ap, ◌∙◌, ◌^◌, lit<, arith}
use Rattle.rv_isa.specs.declared.instr.Instr.{Instr}
use Rattle.rv_isa.specs.declared.instr.Instr.TheVariants.{Lui, Auipc, Jal, Jalr, Branch, Load, Store, OpImm, Shift, Op, Addiw, ShiftWord, OpWord, Ecall}
use Rattle.rv_isa.specs.declared.instr.AluOp.{AluOp}
use Rattle.rv_isa.specs.declared.instr.AluOp.TheVariants.{Add}
use Rattle.rv_isa.specs.declared.instr.AluWordOp.{AluWordOp}
use Rattle.rv_isa.specs.declared.instr.AluWordOp.TheVariants.{Addw}
use Rattle.rv_isa.specs.declared.instr.AluImmOp.{AluImmOp}
use Rattle.rv_isa.specs.declared.instr.AluImmOp.TheVariants.{Addi}
use Rattle.rv_isa.specs.declared.instr.ShiftOp.{ShiftOp}
use Rattle.rv_isa.specs.declared.instr.ShiftOp.TheVariants.{Slli}
use Rattle.rv_isa.specs.declared.instr.ShiftWordOp.{ShiftWordOp}
use Rattle.rv_isa.specs.declared.instr.ShiftWordOp.TheVariants.{Slliw}
use Rattle.rv_isa.specs.declared.instr.LoadWidth.{LoadWidth}
use Rattle.rv_isa.specs.declared.instr.LoadWidth.TheVariants.{Lb}
use Rattle.rv_isa.specs.declared.instr.StoreWidth.{StoreWidth}
use Rattle.rv_isa.specs.declared.instr.StoreWidth.TheVariants.{Sb}
use Rattle.rv_isa.specs.declared.instr.Condition.{Condition}
use Rattle.rv_isa.specs.declared.instr.Condition.TheVariants.{Beq}
use Rattle.rv_isa.specs.Rows.{BRANCH, JAL, opcode_bits, alu_bits, alu_rows, alu_word_bits, alu_word_rows, alu_imm_bits, alu_imm_rows, shift_bits, shift_rows, shift_word_bits, shift_word_rows, load_bits, load_rows, store_bits, store_rows, condition_bits, condition_rows}
use Rattle.rv_isa.specs.Decoding.{decoded, row_of_fields, row_with, row_with2}
use Rattle.rv_isa.specs.Encoding.{InstrFits, encoded, fields_of, b_type, j_type}
use Rattle.rv_isa.specs.Word.{FieldsFit}
use Rattle.rv_isa.proofs.WordLaws.{split-joined, joined-below}
use Rattle.rv_isa.specs.Immediate.{b_raw, j_raw}

-- the row that a row's fixed bits find is itself

alu_found : (x : AluOp) → row_with2 alu_bits alu_rows (alu_bits x).0 (alu_bits x).1 ≡ Some x
alu_found Add = refl
alu_found _ = refl

alu_word_found : (x : AluWordOp) → row_with2 alu_word_bits alu_word_rows (alu_word_bits x).0 (alu_word_bits x).1 ≡ Some x
alu_word_found Addw = refl
alu_word_found _ = refl

shift_word_found : (x : ShiftWordOp) → row_with2 shift_word_bits shift_word_rows (shift_word_bits x).0 (shift_word_bits x).1 ≡ Some x
shift_word_found Slliw = refl
shift_word_found _ = refl

alu_imm_found : (x : AluImmOp) → row_with alu_imm_bits alu_imm_rows (alu_imm_bits x) ≡ Some x
alu_imm_found Addi = refl
alu_imm_found _ = refl

load_found : (x : LoadWidth) → row_with load_bits load_rows (load_bits x) ≡ Some x
load_found Lb = refl
load_found _ = refl

store_found : (x : StoreWidth) → row_with store_bits store_rows (store_bits x) ≡ Some x
store_found Sb = refl
store_found _ = refl

condition_found : (x : Condition) → row_with condition_bits condition_rows (condition_bits x) ≡ Some x
condition_found Beq = refl
condition_found _ = refl

shift_found : (x : ShiftOp) → row_with2 shift_bits shift_rows (shift_bits x).0 (shift_bits x).1 ≡ Some x
shift_found Slli = refl
shift_found _ = refl

-- the funct3 of a shift is that of no row with an immediate

shift_is_no_alu_imm : (x : ShiftOp) → row_with alu_imm_bits alu_imm_rows (shift_bits x).1 ≡ None
shift_is_no_alu_imm Slli = refl
shift_is_no_alu_imm _ = refl

shift_word_is_no_addiw : (x : ShiftWordOp) → ((shift_word_bits x).1 == 0) ≡ false
shift_word_is_no_addiw Slliw = refl
shift_word_is_no_addiw _ = refl

-- the formats give back their immediates

low_high : (imm : ℕ) → imm % 32 + 32 * (imm / 32) ≡ imm
low_high imm = omega arith

upper_parts : (imm : ℕ) → imm % 8 + 8 * (imm / 8 % 32 + 32 * (imm / 256 % 32 + 32 * (imm / 8192))) ≡ imm
upper_parts imm = omega arith

b_raw-b_type :
    (opcode funct3 rs1 rs2 offset : ℕ) → offset < 8192 → offset % 2 ≡ 0 →
    b_raw (b_type opcode funct3 rs1 rs2 offset) ≡ offset
b_raw-b_type opcode funct3 rs1 rs2 offset small even = omega arith

j_raw-j_type :
    (opcode rd offset : ℕ) → offset < 2097152 → offset % 2 ≡ 0 → j_raw (j_type opcode rd offset) ≡ offset
j_raw-j_type opcode rd offset small even = omega arith

-- the fields of an instruction have its row
pub row-fields_of : (i : Instr) → InstrFits i → row_of_fields (fields_of i) ≡ Some i
row-fields_of (Lui rd imm) fits = ap (λ x. Some (Lui rd x)) (upper_parts imm)
row-fields_of (Auipc rd imm) fits = ap (λ x. Some (Auipc rd x)) (upper_parts imm)
row-fields_of (Jal rd offset) fits = ap (λ x. Some (Jal rd x)) (j_raw-j_type (opcode_bits JAL) rd offset fits.1 fits.2)
row-fields_of (Jalr rd rs1 imm) fits = ap (λ x. Some (Jalr rd rs1 x)) (low_high imm)
row-fields_of (Branch condition rs1 rs2 offset) fits =
    rw (condition_found condition)
    (ap (λ x. Some (Branch condition rs1 rs2 x)) (b_raw-b_type (opcode_bits BRANCH) (condition_bits condition) rs1 rs2 offset fits.2 fits.3))
row-fields_of (Load width rd rs1 imm) fits = rw (load_found width) (ap (λ x. Some (Load width rd rs1 x)) (low_high imm))
row-fields_of (Store width rs1 rs2 imm) fits =
    rw (store_found width) (ap (λ x. Some (Store width rs1 rs2 x)) (low_high imm))
row-fields_of (OpImm op rd rs1 imm) fits = rw (alu_imm_found op) (ap (λ x. Some (OpImm op rd rs1 x)) (low_high imm))
row-fields_of (Shift op rd rs1 amount) fits =
    let upper : (amount / 32 + 2 * (shift_bits op).0) / 2 ≡ (shift_bits op).0 = omega arith in
    let same : amount % 32 + 32 * ((amount / 32 + 2 * (shift_bits op).0) % 2) ≡ amount = omega arith in
    rw (upper, shift_is_no_alu_imm op, shift_found op) (ap (λ x. Some (Shift op rd rs1 x)) same)
row-fields_of (Op op rd rs1 rs2) fits = rw (alu_found op)
row-fields_of (Addiw rd rs1 imm) fits = ap (λ x. Some (Addiw rd rs1 x)) (low_high imm)
row-fields_of (ShiftWord op rd rs1 amount) fits = rw (shift_word_is_no_addiw op, shift_word_found op)
row-fields_of (OpWord op rd rs1 rs2) fits = rw (alu_word_found op)
row-fields_of Ecall fits = refl

-- the fixed bits of each row fit

alu_bits_fit : (x : AluOp) → ((alu_bits x).0 < 128) × ((alu_bits x).1 < 8)
alu_bits_fit Add = (lit< tt, lit< tt)
alu_bits_fit _ = (lit< tt, lit< tt)

alu_word_bits_fit : (x : AluWordOp) → ((alu_word_bits x).0 < 128) × ((alu_word_bits x).1 < 8)
alu_word_bits_fit Addw = (lit< tt, lit< tt)
alu_word_bits_fit _ = (lit< tt, lit< tt)

shift_word_bits_fit : (x : ShiftWordOp) → ((shift_word_bits x).0 < 128) × ((shift_word_bits x).1 < 8)
shift_word_bits_fit Slliw = (lit< tt, lit< tt)
shift_word_bits_fit _ = (lit< tt, lit< tt)

shift_bits_fit : (x : ShiftOp) → ((shift_bits x).0 < 64) × ((shift_bits x).1 < 8)
shift_bits_fit Slli = (lit< tt, lit< tt)
shift_bits_fit _ = (lit< tt, lit< tt)

alu_imm_bits_fit : (x : AluImmOp) → alu_imm_bits x < 8
alu_imm_bits_fit Addi = lit< tt
alu_imm_bits_fit _ = lit< tt

load_bits_fit : (x : LoadWidth) → load_bits x < 8
load_bits_fit Lb = lit< tt
load_bits_fit _ = lit< tt

store_bits_fit : (x : StoreWidth) → store_bits x < 8
store_bits_fit Sb = lit< tt
store_bits_fit _ = lit< tt

condition_bits_fit : (x : Condition) → condition_bits x < 8
condition_bits_fit Beq = lit< tt
condition_bits_fit _ = lit< tt

-- the fields of an instruction fit, if its numbers do
pub FieldsFit-fields_of : (i : Instr) → InstrFits i → FieldsFit (fields_of i)
FieldsFit-fields_of (Lui rd imm) fits = (lit< tt, omega arith, omega arith, omega arith, omega arith, omega arith)
FieldsFit-fields_of (Auipc rd imm) fits = (lit< tt, omega arith, omega arith, omega arith, omega arith, omega arith)
FieldsFit-fields_of (Jal rd offset) fits = (lit< tt, omega arith, omega arith, omega arith, omega arith, omega arith)
FieldsFit-fields_of (Jalr rd rs1 imm) fits = (lit< tt, omega arith, lit< tt, omega arith, omega arith, omega arith)
FieldsFit-fields_of (Branch condition rs1 rs2 offset) fits =
    (lit< tt, omega arith, condition_bits_fit condition, omega arith, omega arith, omega arith)
FieldsFit-fields_of (Load width rd rs1 imm) fits =
    (lit< tt, omega arith, load_bits_fit width, omega arith, omega arith, omega arith)
FieldsFit-fields_of (Store width rs1 rs2 imm) fits =
    (lit< tt, omega arith, store_bits_fit width, omega arith, omega arith, omega arith)
FieldsFit-fields_of (OpImm op rd rs1 imm) fits =
    (lit< tt, omega arith, alu_imm_bits_fit op, omega arith, omega arith, omega arith)
FieldsFit-fields_of (Shift op rd rs1 amount) fits =
    let bits = shift_bits_fit op in
    (lit< tt, omega arith, bits.1, omega arith, omega arith, omega arith)
FieldsFit-fields_of (Op op rd rs1 rs2) fits =
    (lit< tt, fits.0, (alu_bits_fit op).1, fits.1, fits.2, (alu_bits_fit op).0)
FieldsFit-fields_of (Addiw rd rs1 imm) fits = (lit< tt, omega arith, lit< tt, omega arith, omega arith, omega arith)
FieldsFit-fields_of (ShiftWord op rd rs1 amount) fits =
    (lit< tt, fits.0, (shift_word_bits_fit op).1, fits.1, fits.2, (shift_word_bits_fit op).0)
FieldsFit-fields_of (OpWord op rd rs1 rs2) fits =
    (lit< tt, fits.0, (alu_word_bits_fit op).1, fits.1, fits.2, (alu_word_bits_fit op).0)
FieldsFit-fields_of Ecall fits = (lit< tt, lit< tt, lit< tt, lit< tt, lit< tt, lit< tt)

-- the word of an instruction decodes to it
pub decoded-encoded : (i : Instr) → InstrFits i → decoded (encoded i) ≡ Some i
unfolding decoded encoded
decoded-encoded i fits = ap row_of_fields (split-joined (fields_of i) (FieldsFit-fields_of i fits)) ∙ row-fields_of i fits

-- and is a word of 32 bits
pub encoded-below : (i : Instr) → InstrFits i → encoded i < 2 ^ 32
unfolding encoded
encoded-below i fits = joined-below (fields_of i) (FieldsFit-fields_of i fits)
