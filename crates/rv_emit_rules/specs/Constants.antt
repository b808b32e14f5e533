-- Constants, and sums of a register and a constant.
--
-- A word of 64 bits is made from the top: its highest 32 bits or fewer by lui and addiw, then 12
-- bits at a time by a shift and addi. Addi and addiw add their 12 bits with their sign, so that
-- what is above is rounded: one more where the highest of the 12 bits is set.
--
-- Zeros at the low end are not stripped: at most nine words, one or two for what fits 12 or 32 bits.
use Rattle.std.specs.Prelude.{ℕ, zero, suc, ◌+◌, ◌-◌, ◌/◌, ◌%◌, Bool, cond, ◌||◌, nat_eq, nat_lt, nat_le, List, [], ◌∷◌, ◌++◌}
use Rattle.mach_ir.specs.Forms.{is_immediate_12}
use Rattle.rv_isa.specs.declared.instr.AluOp.TheVariants as alu
use Rattle.rv_isa.specs.declared.instr.ShiftOp.TheVariants as shifts
use Rattle.rv_isa.specs.declared.register.Register.{Register}
use Rattle.rv_isa.specs.declared.register.Register.TheVariants.{Zero}
use Rattle.rv_pieces.specs.declared.piece.Piece.{Piece}
use Rattle.rv_emit_rules.specs.Instructions.{low_12, addi, addiw, lui, add, alu_operation, shift_piece}

-- ---- words of 32 bits

-- a word whose highest 33 bits are one
abbrev pub is_word_32 : ℕ → Bool
is_word_32 w = nat_lt w 0x80000000 || nat_le 0xFFFFFFFF80000000 w

-- what is above the lowest 12 bits, rounded
abbrev pub above_12 : ℕ → ℕ
above_12 w = w / 4096 + w / 2048 % 2

abbrev pub lower_part : Register → ℕ → List Piece
lower_part r w = cond (nat_eq (low_12 w) 0) [] (addiw r r w ∷ [])

abbrev pub constant_32 : Register → ℕ → List Piece
constant_32 r w =
    cond (is_immediate_12 w) (addi r Zero w ∷ []) (lui r (above_12 w) ∷ lower_part r w)

-- ---- words of 64 bits

-- 52 bits, the highest of them spread over the word
abbrev pub spread_52 : ℕ → ℕ
spread_52 x = cond (nat_lt x 0x8000000000000) x (x + 0xFFF0000000000000)

-- the word above the lowest 12 bits
abbrev pub upper_constant : ℕ → ℕ
upper_constant w = spread_52 (above_12 w % 0x10000000000000)

abbrev pub shifted : Register → ℕ → List Piece
shifted r zero = []
shifted r (suc n) = shift_piece shifts.Slli r r (suc n) ∷ []

-- the word, shifted to the left by so many bits; after so many steps 32 bits are left of it
abbrev pub constant_shifted : ℕ → Register → ℕ → ℕ → List Piece
constant_shifted zero r w amount = constant_32 r w ++ shifted r amount
constant_shifted (suc n) r w amount =
    cond (is_word_32 w) (constant_32 r w ++ shifted r amount)
    (cond (nat_eq (low_12 w) 0) (constant_shifted n r (upper_constant w) (amount + 12))
    (constant_shifted n r (upper_constant w) 12 ++ addi r r w ∷ shifted r amount))

-- the word becomes the register's value
unfoldable pub constant_pieces : Register → ℕ → List Piece
constant_pieces r w = constant_shifted 3 r w 0

-- ---- sums

-- a register becomes the sum of another and so many bytes, fewer than 2^31
abbrev pub sum_to : (scratch to from : Register) → ℕ → List Piece
sum_to scratch to from n =
    cond (nat_lt n 2048) (addi to from n ∷ [])
    (constant_pieces scratch n ++ add to from scratch ∷ [])

-- so many bytes, fewer than 2^31, are taken off a register
abbrev pub bytes_taken_off : (scratch r : Register) → ℕ → List Piece
bytes_taken_off scratch r n =
    cond (nat_le n 2048) (addi r r (4096 - n % 4096) ∷ [])
    (constant_pieces scratch n ++ alu_operation alu.Sub r r scratch ∷ [])
