-- What rows of the instruction table compute on given numbers: each row is computed.
use Rattle.std.proofs.Common.{◌≡◌, ℕ, ◌-◌, ◌^◌, true, false, refl, Some, None, List, [], ◌∷◌}
use Rattle.bs_words.specs.Word.{signed_of, signed_in, word_of, sext_word, add_word, sub_word, mulh_word, div_word, rem_word, shl_word, shr_word, sar_word}
use Rattle.rv_isa.specs.declared.instr.AluOp.TheVariants.{Add, Sll, Slt, Sltu, Srl, Sra, Mulh, Mulhsu, Mulhu, Div, Divu, Rem, Remu}
use Rattle.rv_isa.specs.declared.instr.AluWordOp.TheVariants.{Addw, Subw, Sllw, Srlw, Sraw, Mulw, Divw, Divuw, Remw, Remuw}
use Rattle.rv_isa.specs.declared.instr.AluImmOp.TheVariants.{Addi, Slti, Sltiu, Xori}
use Rattle.rv_isa.specs.declared.instr.ShiftOp.TheVariants.{Slli, Srai}
use Rattle.rv_isa.specs.declared.instr.ShiftWordOp.TheVariants.{Slliw, Srliw, Sraiw}
use Rattle.rv_isa.specs.declared.instr.Condition.TheVariants.{Blt, Bge, Bltu, Bgeu}
use Rattle.rv_machine.specs.Arithmetic.{imm_i, imm_b, imm_j, imm_u, alu, alu_imm, shift, alu_word, shift_word, is_taken}
use Rattle.rv_machine.specs.Memory.{Region, loaded_number, stored_number}

-- the word of -n, the least number, and the least number of 32 bits
abbrev minus : ℕ → ℕ
minus n = 2 ^ 64 - n

abbrev least : ℕ
least = 2 ^ 63

abbrev least_low : ℕ
least_low = minus (2 ^ 31)

-- ---- sums, shifts and comparisons of 64 bits

sum_wraps : alu Add (minus 1) 2 ≡ 1
unfolding add_word
sum_wraps = refl

-- only the lowest six bits of the amount count
amount_of_six_bits : alu Sll 3 (127) ≡ least
unfolding shl_word
amount_of_six_bits = refl

zeros_come_in : alu Srl (minus 1) 63 ≡ 1
unfolding shr_word
zeros_come_in = refl

signs_come_in : alu Sra least 63 ≡ minus 1
unfolding sar_word signed_of word_of
signs_come_in = refl

signed_comparison : alu Slt (minus 1) 0 ≡ 1
unfolding signed_of
signed_comparison = refl

unsigned_comparison : alu Sltu (minus 1) 0 ≡ 0
unsigned_comparison = refl

-- ---- high halves

high_of_least : alu Mulh least least ≡ 2 ^ 62
unfolding mulh_word signed_of word_of
high_of_least = refl

high_of_minus_ones : alu Mulh (minus 1) (minus 1) ≡ 0
unfolding mulh_word signed_of word_of
high_of_minus_ones = refl

high_unsigned : alu Mulhu (minus 1) (minus 1) ≡ minus 2
high_unsigned = refl

-- the left factor has a sign, the right one none
high_mixed : alu Mulhsu (minus 1) (minus 1) ≡ minus 1
unfolding signed_of word_of
high_mixed = refl

high_mixed_least : alu Mulhsu least (minus 1) ≡ least
unfolding signed_of word_of
high_mixed_least = refl

high_mixed_positive : alu Mulhsu 1 (minus 1) ≡ 0
unfolding signed_of word_of
high_mixed_positive = refl

-- ---- division: no divisor traps

quotient_by_zero : alu Div 7 0 ≡ minus 1
unfolding div_word signed_of word_of
quotient_by_zero = refl

unsigned_quotient_by_zero : alu Divu 7 0 ≡ minus 1
unsigned_quotient_by_zero = refl

remainder_by_zero : alu Rem (minus 7) 0 ≡ minus 7
unfolding rem_word signed_of word_of
remainder_by_zero = refl

unsigned_remainder_by_zero : alu Remu 7 0 ≡ 7
unsigned_remainder_by_zero = refl

quotient_overflows : alu Div least (minus 1) ≡ least
unfolding div_word signed_of word_of
quotient_overflows = refl

remainder_overflows : alu Rem least (minus 1) ≡ 0
unfolding rem_word signed_of word_of
remainder_overflows = refl

quotient_toward_zero : alu Div (minus 7) 2 ≡ minus 3
unfolding div_word signed_of word_of
quotient_toward_zero = refl

remainder_of_dividend : alu Rem (minus 7) 2 ≡ minus 1
unfolding rem_word signed_of word_of
remainder_of_dividend = refl

-- ---- the low 32 bits

low_sum_has_sign : alu_word Addw 0x7FFFFFFF 1 ≡ least_low
unfolding add_word sext_word signed_in word_of
low_sum_has_sign = refl

low_difference : alu_word Subw 0 1 ≡ minus 1
unfolding sub_word sext_word signed_in word_of
low_difference = refl

-- only the lowest five bits of the amount count
amount_of_five_bits : alu_word Sllw 1 63 ≡ least_low
unfolding sext_word signed_in word_of
amount_of_five_bits = refl

high_half_is_dropped : alu_word Srlw 0x1FFFFFFFF 31 ≡ 1
unfolding sext_word signed_in word_of
high_half_is_dropped = refl

low_signs_come_in : alu_word Sraw 0x80000000 31 ≡ minus 1
unfolding signed_in word_of sext_word
low_signs_come_in = refl

low_product : alu_word Mulw 0x10000 0x8000 ≡ least_low
unfolding sext_word signed_in word_of
low_product = refl

-- a divisor whose low half is 0
low_quotient_by_zero : alu_word Divw 7 0x100000000 ≡ minus 1
unfolding signed_in word_of sext_word
low_quotient_by_zero = refl

low_unsigned_quotient_by_zero : alu_word Divuw 7 0 ≡ minus 1
unfolding sext_word signed_in word_of
low_unsigned_quotient_by_zero = refl

low_remainder_by_zero : alu_word Remw 0x180000000 0 ≡ least_low
unfolding signed_in word_of sext_word
low_remainder_by_zero = refl

low_unsigned_remainder_by_zero : alu_word Remuw 0x80000000 0 ≡ least_low
unfolding sext_word signed_in word_of
low_unsigned_remainder_by_zero = refl

low_quotient_overflows : alu_word Divw 0x80000000 (minus 1) ≡ least_low
unfolding signed_in word_of sext_word
low_quotient_overflows = refl

low_remainder_overflows : alu_word Remw 0x80000000 (minus 1) ≡ 0
unfolding signed_in word_of sext_word
low_remainder_overflows = refl

low_unsigned_quotient : alu_word Divuw (minus 1) 1 ≡ minus 1
unfolding sext_word signed_in word_of
low_unsigned_quotient = refl

-- the result has its sign also where nothing was shifted
low_shift_zeros : shift_word Srliw (minus 1) 0 ≡ minus 1
unfolding sext_word signed_in word_of
low_shift_zeros = refl

low_shift_left : shift_word Slliw 3 31 ≡ least_low
unfolding sext_word signed_in word_of
low_shift_left = refl

low_shift_sign : shift_word Sraiw 0x80000000 31 ≡ minus 1
unfolding signed_in word_of sext_word
low_shift_sign = refl

-- ---- immediates

minus_sixteen : imm_i 0xFF0 ≡ 2 ^ 64 - 16
unfolding sext_word signed_in word_of
minus_sixteen = refl

minus_four : imm_b 0x1FFC ≡ 2 ^ 64 - 4
unfolding sext_word signed_in word_of
minus_four = refl

minus_a_megabyte : imm_j 0x100000 ≡ 2 ^ 64 - 1048576
unfolding sext_word signed_in word_of
minus_a_megabyte = refl

upper_has_sign : imm_u 0x80000 ≡ 0xFFFFFFFF80000000
unfolding sext_word signed_in word_of
upper_has_sign = refl

immediate_has_sign : alu_imm Addi 0 0x800 ≡ minus 2048
unfolding add_word sext_word signed_in word_of
immediate_has_sign = refl

greatest_immediate : alu_imm Addi 0 0x7FF ≡ 2047
unfolding add_word sext_word signed_in word_of
greatest_immediate = refl

signed_with_immediate : alu_imm Slti (minus 2) 0xFFF ≡ 1
unfolding signed_of sext_word signed_in word_of
signed_with_immediate = refl

-- the immediate is extended by its sign and compared as unsigned
unsigned_with_immediate : alu_imm Sltiu 5 0xFFF ≡ 1
unfolding sext_word signed_in word_of
unsigned_with_immediate = refl

complement : alu_imm Xori 0 0xFFF ≡ minus 1
unfolding sext_word signed_in word_of
complement = refl

shift_of_63 : shift Slli 3 63 ≡ least
unfolding shl_word
shift_of_63 = refl

shift_of_63_sign : shift Srai least 63 ≡ minus 1
unfolding sar_word signed_of word_of
shift_of_63_sign = refl

-- ---- branches

less : is_taken Blt (minus 1) 0 ≡ true
unfolding signed_of
less = refl

not_less : is_taken Bge (minus 1) 0 ≡ false
unfolding signed_of
not_less = refl

equal_is_not_less : is_taken Bge least least ≡ true
unfolding signed_of
equal_is_not_less = refl

below : is_taken Bltu (minus 1) 0 ≡ false
below = refl

not_below : is_taken Bgeu (minus 1) 0 ≡ true
not_below = refl

-- ---- accesses

-- two regions; the last word of the first reaches past its end
abbrev holding : ℕ → List Region
holding word =
    record { start = 0x1000; bytes = 12; words = word ∷ 0xF4F3F2F1 ∷ [] } ∷ record { start = 0x2000; bytes = 8; words = 7 ∷ [] } ∷ []

abbrev regions : List Region
regions = holding 0x0807060504030201

lowest_byte_first : loaded_number regions 0x1000 1 ≡ Some 1
lowest_byte_first = refl

highest_byte_last : loaded_number regions 0x1007 1 ≡ Some 8
highest_byte_last = refl

half_word : loaded_number regions 0x1006 2 ≡ Some 0x0807
half_word = refl

low_word : loaded_number regions 0x1008 4 ≡ Some 0xF4F3F2F1
low_word = refl

whole_word : loaded_number regions 0x2000 8 ≡ Some 7
whole_word = refl

misaligned : loaded_number regions 0x1002 4 ≡ None
misaligned = refl

-- an access lies whole inside one region
past_a_region : loaded_number regions 0x1008 8 ≡ None
past_a_region = refl

last_byte : loaded_number regions 0x100B 1 ≡ Some 0xF4
last_byte = refl

behind_a_region : loaded_number regions 0x100C 1 ≡ None
behind_a_region = refl

before_a_region : loaded_number regions 0x0FFF 1 ≡ None
before_a_region = refl

last_address : loaded_number regions (minus 8) 8 ≡ None
last_address = refl

-- a store takes the lowest bytes and leaves the others
byte_stored : stored_number regions 0x1007 1 0x12FF ≡ Some (holding 0xFF07060504030201)
byte_stored = refl

half_stored : stored_number regions 0x1002 2 0xABCDEF ≡ Some (holding 0x08070605CDEF0201)
half_stored = refl

word_stored : stored_number regions 0x1004 4 0x11223344AABBCCDD ≡ Some (holding 0xAABBCCDD04030201)
word_stored = refl

double_stored : stored_number regions 0x1000 8 9 ≡ Some (holding 9)
double_stored = refl

stored_nowhere : stored_number regions 0x1008 8 9 ≡ None
stored_nowhere = refl
