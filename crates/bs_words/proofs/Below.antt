-- Each operator leaves a word.
use Rattle.std.proofs.Common.{ℕ, ◌^◌, ◌<◌, arith}
use Rattle.std.specs.Prelude.{ℤ, pos, negsuc}
use Rattle.std.proofs.Math.Nat.{mod-lt, div-le_self}
use Rattle.bs_words.specs.Word.{word_of, add_word, sub_word, mul_word, mulh_word, div_word, rem_word, shl_word, shr_word, sar_word, sext_word}

some : 0 < 2 ^ 64
some = omega arith

pub word_of-below : (z : ℤ) → word_of z < 2 ^ 64
unfolding word_of
word_of-below (pos n) = mod-lt n some
word_of-below (negsuc n) = omega arith

pub add_word-below : (a b : ℕ) → add_word a b < 2 ^ 64
unfolding add_word
add_word-below a b = mod-lt _ some

pub sub_word-below : (a b : ℕ) → sub_word a b < 2 ^ 64
unfolding sub_word
sub_word-below a b = mod-lt _ some

pub mul_word-below : (a b : ℕ) → mul_word a b < 2 ^ 64
unfolding mul_word
mul_word-below a b = mod-lt _ some

pub mulh_word-below : (a b : ℕ) → mulh_word a b < 2 ^ 64
unfolding mulh_word
mulh_word-below a b = word_of-below _

pub div_word-below : (a b : ℕ) → div_word a b < 2 ^ 64
unfolding div_word
div_word-below a b = word_of-below _

pub rem_word-below : (a b : ℕ) → rem_word a b < 2 ^ 64
unfolding rem_word
rem_word-below a b = word_of-below _

pub shl_word-below : (a k : ℕ) → shl_word a k < 2 ^ 64
unfolding shl_word
shl_word-below a k = mod-lt _ some

pub shr_word-below : (a k : ℕ) → a < 2 ^ 64 → shr_word a k < 2 ^ 64
unfolding shr_word
shr_word-below a k h = omega (arith, div-le_self a (2 ^ k))

pub sar_word-below : (a k : ℕ) → sar_word a k < 2 ^ 64
unfolding sar_word
sar_word-below a k = word_of-below _

pub sext_word-below : (w bits : ℕ) → sext_word w bits < 2 ^ 64
unfolding sext_word
sext_word-below w bits = word_of-below _
