-- What given words decode to, as an assembler makes them: each row is computed.
use Rattle.std.proofs.Common.{◌≡◌, refl, Some, None}
use Rattle.rv_isa.specs.Decoding.{decoded}
use Rattle.rv_isa.specs.Encoding.{encoded}
use Rattle.rv_isa.specs.declared.instr.Instr.TheVariants.{Lui, Jal, Jalr, Branch, Load, Store, OpImm, Shift, ShiftWord, OpWord, Ecall}
use Rattle.rv_isa.specs.declared.instr.AluWordOp.TheVariants.{Mulw}
use Rattle.rv_isa.specs.declared.instr.AluImmOp.TheVariants.{Addi}
use Rattle.rv_isa.specs.declared.instr.ShiftOp.TheVariants.{Slli, Srai}
use Rattle.rv_isa.specs.declared.instr.ShiftWordOp.TheVariants.{Sraiw}
use Rattle.rv_isa.specs.declared.instr.LoadWidth.TheVariants.{Lwu}
use Rattle.rv_isa.specs.declared.instr.StoreWidth.TheVariants.{Sd}
use Rattle.rv_isa.specs.declared.instr.Condition.TheVariants.{Beq, Bne}

-- addi t2, zero, 1
small_constant : decoded 0x00100393 ≡ Some (OpImm Addi 7 0 1)
unfolding decoded
small_constant = refl

-- addi sp, sp, -16
lowers_sp : decoded 0xFF010113 ≡ Some (OpImm Addi 2 2 0xFF0)
unfolding decoded
lowers_sp = refl

-- sd ra, 8(sp)
saves_ra : decoded 0x00113423 ≡ Some (Store Sd 2 1 8)
unfolding decoded
saves_ra = refl

saves_ra_back : encoded (Store Sd 2 1 8) ≡ 0x00113423
unfolding encoded
saves_ra_back = refl

-- sd a1, -8(a0)
stores_below : decoded 0xFEB53C23 ≡ Some (Store Sd 10 11 0xFF8)
unfolding decoded
stores_below = refl

-- jalr zero, 0(ra)
returns : encoded (Jalr 0 1 0) ≡ 0x00008067
unfolding encoded
returns = refl

calls_service : decoded 0x00000073 ≡ Some Ecall
unfolding decoded
calls_service = refl

-- ebreak
no_break : decoded 0x00100073 ≡ None
unfolding decoded
no_break = refl

-- fence
no_fence : decoded 0x0FF0000F ≡ None
unfolding decoded
no_fence = refl

no_zeros : decoded 0 ≡ None
unfolding decoded
no_zeros = refl

-- ---- branches and jumps: where the bits of the offset are

-- beq a0, a1, -4
back_by_one : decoded 0xFEB50EE3 ≡ Some (Branch Beq 10 11 0x1FFC)
unfolding decoded
back_by_one = refl

-- bne a0, a1, 4094
farthest_branch : decoded 0x7EB51FE3 ≡ Some (Branch Bne 10 11 0xFFE)
unfolding decoded
farthest_branch = refl

-- bne a0, a1, 2048
bit_eleven : decoded 0x00B510E3 ≡ Some (Branch Bne 10 11 2048)
unfolding decoded
bit_eleven = refl

no_such_branch : decoded 0x00B52063 ≡ None
unfolding decoded
no_such_branch = refl

-- jal ra, -1048576
farthest_back : decoded 0x800000EF ≡ Some (Jal 1 0x100000)
unfolding decoded
farthest_back = refl

-- jal ra, 1048574
farthest_on : decoded 0x7FFFF0EF ≡ Some (Jal 1 0xFFFFE)
unfolding decoded
farthest_on = refl

-- jal ra, 2048 and jal ra, 4096
jump_bit_eleven : decoded 0x001000EF ≡ Some (Jal 1 2048)
unfolding decoded
jump_bit_eleven = refl

jump_bit_twelve : decoded 0x000010EF ≡ Some (Jal 1 4096)
unfolding decoded
jump_bit_twelve = refl

-- lui a0, 0x80000
upper : decoded 0x80000537 ≡ Some (Lui 10 0x80000)
unfolding decoded
upper = refl

-- ---- shifts

-- srai a0, a0, 63
whole_shift : decoded 0x43F55513 ≡ Some (Shift Srai 10 10 63)
unfolding decoded
whole_shift = refl

-- slli a0, a0, 32
half_shift : decoded 0x02051513 ≡ Some (Shift Slli 10 10 32)
unfolding decoded
half_shift = refl

-- the bit of srai is no bit of slli
no_such_shift : decoded 0x42051513 ≡ None
unfolding decoded
no_such_shift = refl

-- sraiw a0, a0, 31; an amount of 32 is none for a word
word_shift : decoded 0x41F5551B ≡ Some (ShiftWord Sraiw 10 10 31)
unfolding decoded
word_shift = refl

no_such_word_shift : decoded 0x0205551B ≡ None
unfolding decoded
no_such_word_shift = refl

-- ---- loads and multiplications

-- lwu a0, -1(a0)
unsigned_load : decoded 0xFFF56503 ≡ Some (Load Lwu 10 10 0xFFF)
unfolding decoded
unsigned_load = refl

no_such_load : decoded 0x00057503 ≡ None
unfolding decoded
no_such_load = refl

-- mulw a0, a0, a1; there is no high half for words
word_product : decoded 0x02B5053B ≡ Some (OpWord Mulw 10 10 11)
unfolding decoded
word_product = refl

no_high_half : decoded 0x02B5153B ≡ None
unfolding decoded
no_high_half = refl
