-- Every row of the instruction table leaves a word.
use Rattle.std.proofs.Common.{ℕ, ◌*◌, ◌/◌, ◌%◌, ◌^◌, ◌<◌, inl, inr, Bool, true, false, cond, ◌==◌, refl, arith}
use Rattle.std.proofs.Math.Nat.{div-le_self, mod-le}
use Rattle.std.proofs.lemmas.Nat.{and_le_l, mul-lt, or_lt, xor_lt}
use Rattle.bs_words.proofs.Below.{word_of-below, add_word-below, sub_word-below, mul_word-below, mulh_word-below, div_word-below, rem_word-below, shl_word-below, shr_word-below, sar_word-below, sext_word-below}
use Rattle.rv_isa.specs.declared.instr.AluOp.{AluOp}
use Rattle.rv_isa.specs.declared.instr.AluOp.TheVariants.{Add, Sub, Sll, Slt, Sltu, Xor, Srl, Sra, Or, And, Mul, Mulh, Mulhsu, Mulhu, Div, Divu, Rem, Remu}
use Rattle.rv_isa.specs.declared.instr.AluWordOp.{AluWordOp}
use Rattle.rv_isa.specs.declared.instr.AluWordOp.TheVariants.{Addw, Subw, Sllw, Srlw, Sraw, Mulw, Divw, Divuw, Remw, Remuw}
use Rattle.rv_isa.specs.declared.instr.AluImmOp.{AluImmOp}
use Rattle.rv_isa.specs.declared.instr.AluImmOp.TheVariants.{Addi, Slti, Sltiu, Xori, Ori, Andi}
use Rattle.rv_isa.specs.declared.instr.LoadWidth.{LoadWidth}
use Rattle.rv_isa.specs.declared.instr.LoadWidth.TheVariants.{Lb, Lh, Lw, Ld, Lbu, Lhu, Lwu}
use Rattle.rv_isa.specs.declared.instr.ShiftOp.{ShiftOp}
use Rattle.rv_isa.specs.declared.instr.ShiftOp.TheVariants.{Slli, Srli, Srai}
use Rattle.rv_isa.specs.declared.instr.ShiftWordOp.{ShiftWordOp}
use Rattle.rv_isa.specs.declared.instr.ShiftWordOp.TheVariants.{Slliw, Srliw, Sraiw}
use Rattle.rv_isa.specs.declared.instr.StoreWidth.{StoreWidth}
use Rattle.rv_isa.specs.declared.instr.StoreWidth.TheVariants.{Sb, Sh, Sw, Sd}
use Rattle.rv_machine.specs.Arithmetic.{alu, alu_imm, alu_word, bit_of, imm_i, low, ones, shift, shift_word}
use Rattle.rv_machine.specs.Hart.{bytes_loaded, bytes_stored, register_loaded}
use Rattle.bs_words.specs.Memory.{IsWidth}

bit-below : (b : Bool) → bit_of b < 2 ^ 64
bit-below true = omega arith
bit-below false = omega arith

either-below : (b : Bool) (x y : ℕ) → x < 2 ^ 64 → y < 2 ^ 64 → cond b x y < 2 ^ 64
either-below true x y h k = h
either-below false x y h k = k

-- the high half of a product
high-below : (a b : ℕ) → a < 2 ^ 64 → b < 2 ^ 64 → a * b / 2 ^ 64 < 2 ^ 64
high-below a b h k = let p : a * b < 2 ^ 64 * 2 ^ 64 = mul-lt a b (2 ^ 64) (2 ^ 64) h k in omega (arith, p)

divu-below : (a b : ℕ) → a < 2 ^ 64 → a / b < 2 ^ 64
divu-below a b h = omega (arith, div-le_self a b)

remu-below : (a b : ℕ) → a < 2 ^ 64 → a % b < 2 ^ 64
remu-below a b h = omega (arith, mod-le a b)

pub alu-below : (op : AluOp) (a b : ℕ) → a < 2 ^ 64 → b < 2 ^ 64 → alu op a b < 2 ^ 64
alu-below Add a b h k = add_word-below a b
alu-below Sub a b h k = sub_word-below a b
alu-below Sll a b h k = shl_word-below a (b % 64)
alu-below Slt a b h k = bit-below _
alu-below Sltu a b h k = bit-below _
alu-below Xor a b h k = xor_lt 64 a b h k
alu-below Srl a b h k = shr_word-below a (b % 64) h
alu-below Sra a b h k = sar_word-below a (b % 64)
alu-below Or a b h k = or_lt 64 a b h k
alu-below And a b h k = omega (arith, and_le_l a b)
alu-below Mul a b h k = mul_word-below a b
alu-below Mulh a b h k = mulh_word-below a b
alu-below Mulhsu a b h k = word_of-below _
alu-below Mulhu a b h k = high-below a b h k
alu-below Div a b h k = either-below (b == 0) ones _ (omega arith) (div_word-below a b)
alu-below Divu a b h k = either-below (b == 0) ones _ (omega arith) (divu-below a b h)
alu-below Rem a b h k = either-below (b == 0) a _ h (rem_word-below a b)
alu-below Remu a b h k = either-below (b == 0) a _ h (remu-below a b h)

pub alu_imm-below : (op : AluImmOp) (a imm : ℕ) → a < 2 ^ 64 → alu_imm op a imm < 2 ^ 64
alu_imm-below Addi a imm h = add_word-below a (imm_i imm)
alu_imm-below Slti a imm h = bit-below _
alu_imm-below Sltiu a imm h = bit-below _
alu_imm-below Xori a imm h = xor_lt 64 a (imm_i imm) h (sext_word-below imm 12)
alu_imm-below Ori a imm h = or_lt 64 a (imm_i imm) h (sext_word-below imm 12)
alu_imm-below Andi a imm h = omega (arith, and_le_l a (imm_i imm))

pub shift-below : (op : ShiftOp) (a amount : ℕ) → a < 2 ^ 64 → shift op a amount < 2 ^ 64
shift-below Slli a amount h = shl_word-below a amount
shift-below Srli a amount h = shr_word-below a amount h
shift-below Srai a amount h = sar_word-below a amount

pub alu_word-below : (op : AluWordOp) (a b : ℕ) → alu_word op a b < 2 ^ 64
alu_word-below Addw a b = sext_word-below _ 32
alu_word-below Subw a b = sext_word-below _ 32
alu_word-below Sllw a b = sext_word-below _ 32
alu_word-below Srlw a b = sext_word-below _ 32
alu_word-below Sraw a b = word_of-below _
alu_word-below Mulw a b = sext_word-below _ 32
alu_word-below Divw a b = either-below (low b == 0) ones _ (omega arith) (sext_word-below _ 32)
alu_word-below Divuw a b = either-below (low b == 0) ones _ (omega arith) (sext_word-below _ 32)
alu_word-below Remw a b = either-below (low b == 0) _ _ (sext_word-below _ 32) (sext_word-below _ 32)
alu_word-below Remuw a b = either-below (low b == 0) _ _ (sext_word-below _ 32) (sext_word-below _ 32)

pub shift_word-below : (op : ShiftWordOp) (a amount : ℕ) → shift_word op a amount < 2 ^ 64
shift_word-below Slliw a amount = sext_word-below _ 32
shift_word-below Srliw a amount = sext_word-below _ 32
shift_word-below Sraiw a amount = word_of-below _

pub loaded_word : (width : LoadWidth) (n : ℕ) → n < 2 ^ (8 * bytes_loaded width) → register_loaded width n < 2 ^ 64
loaded_word Lb n h = sext_word-below n 8
loaded_word Lh n h = sext_word-below n 16
loaded_word Lw n h = sext_word-below n 32
loaded_word Ld n h = h
loaded_word Lbu n h = let small : n < 2 ^ 8 = h in omega arith
loaded_word Lhu n h = let small : n < 2 ^ 16 = h in omega arith
loaded_word Lwu n h = let small : n < 2 ^ 32 = h in omega arith

pub stored_width : (width : StoreWidth) → IsWidth (bytes_stored width)
stored_width Sb = inl refl
stored_width Sh = inr (inl refl)
stored_width Sw = inr (inr (inl refl))
stored_width Sd = inr (inr (inr refl))
