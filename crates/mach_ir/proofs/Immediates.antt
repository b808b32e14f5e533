-- Constants for which the machine has an immediate are words.
use Rattle.std.proofs.Common.{◌≡◌, ℕ, ◌<◌, ◌^◌, Bool, true, false, ◌||◌, refl, arith, sym}
use Rattle.std.specs.Prelude.{nat_le, nat_lt}
use Rattle.std.proofs.lemmas.Bool.{ltb-true, leb-true, true≢false, and_parts}
use Rattle.bs_words.specs.declared.operators.IntOp.{IntOp}
use Rattle.bs_words.specs.declared.operators.IntOp.TheVariants as operator
use Rattle.mach_ir.specs.Forms.{is_immediate, is_immediate_12, is_opposite_immediate_12}

either_way : (w : ℕ) (a b : Bool) → (a ≡ true → w < 2 ^ 64) → (b ≡ true → w < 2 ^ 64) → a || b ≡ true → w < 2 ^ 64
either_way w true b one other e = one refl
either_way w false b one other e = other e

-- what an immediate of 12 bits is for is a word
pub word_12 : (w : ℕ) → is_immediate_12 w ≡ true → w < 2 ^ 64
word_12 w e =
    either_way w (nat_lt w 2048) _ (λ e. let less : w < 2048 = ltb-true w 2048 e in omega (arith, less))
    (λ e. ltb-true w 0x10000000000000000 (and_parts (nat_le 0xFFFFFFFFFFFFF800 w) (nat_lt w 0x10000000000000000) e).1) e

word_opposite : (w : ℕ) → is_opposite_immediate_12 w ≡ true → w < 2 ^ 64
word_opposite w e =
    either_way w (nat_le w 2048) _ (λ e. let le = leb-true w 2048 e in omega (arith, le))
    (λ e. ltb-true w 0x10000000000000000 (and_parts (nat_lt 0xFFFFFFFFFFFFF800 w) (nat_lt w 0x10000000000000000) e).1) e

word_amount : (w : ℕ) → nat_lt w 64 ≡ true → w < 2 ^ 64
word_amount w e = let less : w < 64 = ltb-true w 64 e in omega (arith, less)

pub immediate_word : (f : IntOp) (w : ℕ) → is_immediate f w ≡ true → w < 2 ^ 64
immediate_word operator.Add w e = word_12 w e
immediate_word operator.AddV w e = word_12 w e
immediate_word operator.AddA w e = word_12 w e
immediate_word operator.Sub w e = word_opposite w e
immediate_word operator.And w e = word_12 w e
immediate_word operator.Or w e = word_12 w e
immediate_word operator.Xor w e = word_12 w e
immediate_word operator.Shl w e = word_amount w e
immediate_word operator.Shr w e = word_amount w e
immediate_word operator.Sar w e = word_amount w e
immediate_word (operator.Cmp f) w e = word_12 w e
immediate_word (operator.CmpU f) w e = word_12 w e
immediate_word operator.Mul w e = absurd (true≢false (sym e))
immediate_word operator.Mulh w e = absurd (true≢false (sym e))
immediate_word operator.Div w e = absurd (true≢false (sym e))
immediate_word operator.Mod w e = absurd (true≢false (sym e))
