-- What the rows of the instruction table compute (RISC-V Unprivileged ISA manual, "RV64I" and "M").
use Rattle.std.specs.Prelude.{ℕ, ◌-◌, ◌*◌, ◌/◌, ◌%◌, ◌^◌, Bool, cond, not, ◌==◌, nat_lt, ℤ, pos, ◌*ℤ◌, int_div, int_rem, int_lt, bit_and, bit_or, bit_xor}
use Rattle.std.specs.Int.{int_div_euclid}
use Rattle.bs_words.specs.Word.{signed_of, signed_in, word_of, add_word, sub_word, mul_word, mulh_word, div_word, rem_word, shl_word, shr_word, sar_word, sext_word}
use Rattle.rv_isa.specs.declared.instr.AluOp.{AluOp}
use Rattle.rv_isa.specs.declared.instr.AluOp.TheVariants.{Add, Sub, Sll, Slt, Sltu, Xor, Srl, Sra, Or, And, Mul, Mulh, Mulhsu, Mulhu, Div, Divu, Rem, Remu}
use Rattle.rv_isa.specs.declared.instr.AluWordOp.{AluWordOp}
use Rattle.rv_isa.specs.declared.instr.AluWordOp.TheVariants.{Addw, Subw, Sllw, Srlw, Sraw, Mulw, Divw, Divuw, Remw, Remuw}
use Rattle.rv_isa.specs.declared.instr.AluImmOp.{AluImmOp}
use Rattle.rv_isa.specs.declared.instr.AluImmOp.TheVariants.{Addi, Slti, Sltiu, Xori, Ori, Andi}
use Rattle.rv_isa.specs.declared.instr.ShiftOp.{ShiftOp}
use Rattle.rv_isa.specs.declared.instr.ShiftOp.TheVariants.{Slli, Srli, Srai}
use Rattle.rv_isa.specs.declared.instr.ShiftWordOp.{ShiftWordOp}
use Rattle.rv_isa.specs.declared.instr.ShiftWordOp.TheVariants.{Slliw, Srliw, Sraiw}
use Rattle.rv_isa.specs.declared.instr.Condition.{Condition}
use Rattle.rv_isa.specs.declared.instr.Condition.TheVariants.{Beq, Bne, Blt, Bge, Bltu, Bgeu}

abbrev pub bit_of : Bool → ℕ
bit_of b = cond b 1 0

-- a word of all ones
abbrev pub ones : ℕ
ones = 2 ^ 64 - 1

-- ---- immediates, extended by their sign: 12 bits of I and S, 13 of B, 21 of J, and the upper 20 of 32 bits of U

abbrev pub imm_i : ℕ → ℕ
imm_i x = sext_word x 12

abbrev pub imm_b : ℕ → ℕ
imm_b x = sext_word x 13

abbrev pub imm_j : ℕ → ℕ
imm_j x = sext_word x 21

abbrev pub imm_u : ℕ → ℕ
imm_u x = sext_word (4096 * x) 32

-- ---- on 64 bits

abbrev pub is_less : ℕ → ℕ → Bool
is_less a b = int_lt (signed_of a) (signed_of b)

-- a quotient or a remainder, and what stands for it where the divisor is 0
abbrev pub divided : (ℕ → ℕ → ℕ) → ℕ → ℕ → ℕ → ℕ
divided f at_zero a b = cond (b == 0) at_zero (f a b)

abbrev pub alu : AluOp → ℕ → ℕ → ℕ
alu Add a b = add_word a b
alu Sub a b = sub_word a b
alu Sll a b = shl_word a (b % 64)
alu Slt a b = bit_of (is_less a b)
alu Sltu a b = bit_of (nat_lt a b)
alu Xor a b = bit_xor a b
alu Srl a b = shr_word a (b % 64)
alu Sra a b = sar_word a (b % 64)
alu Or a b = bit_or a b
alu And a b = bit_and a b
alu Mul a b = mul_word a b
alu Mulh a b = mulh_word a b
alu Mulhsu a b = word_of (int_div_euclid (signed_of a *ℤ pos b) (pos (2 ^ 64)))
alu Mulhu a b = a * b / 2 ^ 64
alu Div a b = divided div_word ones a b
alu Divu a b = divided (λ m n. m / n) ones a b
alu Rem a b = divided rem_word a a b
alu Remu a b = divided (λ m n. m % n) a a b

-- with an immediate of 12 bits
abbrev pub alu_imm : AluImmOp → ℕ → ℕ → ℕ
alu_imm Addi a imm = add_word a (imm_i imm)
alu_imm Slti a imm = bit_of (is_less a (imm_i imm))
alu_imm Sltiu a imm = bit_of (nat_lt a (imm_i imm))
alu_imm Xori a imm = bit_xor a (imm_i imm)
alu_imm Ori a imm = bit_or a (imm_i imm)
alu_imm Andi a imm = bit_and a (imm_i imm)

abbrev pub shift : ShiftOp → ℕ → ℕ → ℕ
shift Slli a amount = shl_word a amount
shift Srli a amount = shr_word a amount
shift Srai a amount = sar_word a amount

-- ---- on the low 32 bits, the result extended by its sign

abbrev pub low : ℕ → ℕ
low a = a % 2 ^ 32

-- the lowest 32 bits of a number, extended by their sign
abbrev pub sign_extended : ℕ → ℕ
sign_extended n = sext_word n 32

-- the low half, read with its sign
abbrev pub low_signed : ℕ → ℤ
low_signed a = signed_in 32 (low a)

-- the low half shifted to the right by k, with its sign
abbrev pub sar_low : ℕ → ℕ → ℕ
sar_low a k = word_of (int_div_euclid (low_signed a) (pos (2 ^ k)))

abbrev pub alu_word : AluWordOp → ℕ → ℕ → ℕ
alu_word Addw a b = sign_extended (add_word a b)
alu_word Subw a b = sign_extended (sub_word a b)
alu_word Sllw a b = sign_extended (a * 2 ^ (b % 32))
alu_word Srlw a b = sign_extended (low a / 2 ^ (b % 32))
alu_word Sraw a b = sar_low a (b % 32)
alu_word Mulw a b = sign_extended (a * b)
alu_word Divw a b =
    cond (low b == 0) ones (sign_extended (word_of (int_div (low_signed a) (low_signed b))))
alu_word Divuw a b = cond (low b == 0) ones (sign_extended (low a / low b))
alu_word Remw a b =
    cond (low b == 0) (sign_extended a) (sign_extended (word_of (int_rem (low_signed a) (low_signed b))))
alu_word Remuw a b = cond (low b == 0) (sign_extended a) (sign_extended (low a % low b))

abbrev pub shift_word : ShiftWordOp → ℕ → ℕ → ℕ
shift_word Slliw a amount = sign_extended (a * 2 ^ amount)
shift_word Srliw a amount = sign_extended (low a / 2 ^ amount)
shift_word Sraiw a amount = sar_low a amount

-- ---- branches

abbrev pub is_taken : Condition → ℕ → ℕ → Bool
is_taken Beq a b = a == b
is_taken Bne a b = not (a == b)
is_taken Blt a b = is_less a b
is_taken Bge a b = not (is_less a b)
is_taken Bltu a b = nat_lt a b
is_taken Bgeu a b = not (nat_lt a b)
