-- The signed reading of a low half, and what the rows on 32 bits leave.
use Rattle.std.proofs.Common.{◌≡◌, ◌≢◌, ℕ, ◌+◌, ◌-◌, ◌*◌, ◌/◌, ◌%◌, ◌^◌, ◌<◌, ◌≤◌, Bool, true, false, cond, ltb, refl, ap, arith, ◌∙◌, sym, subst}
use Rattle.std.specs.Prelude.{ℤ, pos, negsuc, ◌*ℤ◌, int_div, int_rem, FitsSigned}
use Rattle.std.specs.Int.{w64, w128, cast_unsigned, cast_signed, int_div_euclid}
use Rattle.std.specs.Int.Signed.{mag, shr_z, nat_abs-le}
use Rattle.std.proofs.lemmas.Bool.{cond-true, lt-ltb}
use Rattle.std.proofs.lemmas.Int.{to_z-of_z, fits_signed_mul}
use Rattle.std.proofs.Math.Pow.{mod-mod-pow, pow_mono}
use Rattle.std.proofs.Math.Nat.{mod-lt, mod-mod, mod-eq_of_lt}
use Rattle.bs_words.specs.Word.{word_of, signed_of, signed_in, sar_word, shl_word, shr_word, mul_word, div_word, rem_word, sext_word}
use Rattle.bs_words.proofs.Word.{word_of-bits, div_euclid-shr, high_below, again128}
use Rattle.rv_machine.specs.Arithmetic.{low, sign_extended, low_signed, sar_low}

-- a number of so many bits, extended by its sign
abbrev pub with_sign : ℕ → ℕ → ℕ
with_sign bits x = cond (ltb x (2 ^ (bits - 1))) x (x + 2 ^ 64 - 2 ^ bits)

pub sext_is : (bits x : ℕ) → bits ≤ 64 → x < 2 ^ bits → sext_word x bits ≡ with_sign bits x
unfolding sext_word signed_in word_of
sext_is bits x few small =
    let same : x % 2 ^ bits ≡ x = mod-eq_of_lt small in
    rw same (by (ltb x (2 ^ (bits - 1))))
  where
    by : (b : Bool) → word_of (cond b (pos x) (negsuc (2 ^ bits - 1 - x))) ≡ cond b x (x + 2 ^ 64 - 2 ^ bits)
    by true = let within : 2 ^ bits ≤ 2 ^ 64 = pow_mono few in mod-eq_of_lt (omega arith)
    by false =
        let within : 2 ^ bits ≤ 2 ^ 64 = pow_mono few in
        let e : (2 ^ bits - 1 - x) % 2 ^ 64 ≡ 2 ^ bits - 1 - x = mod-eq_of_lt (omega arith) in
        omega arith

pub sext_small : (bits x : ℕ) → bits ≤ 64 → 0 < bits → x < 2 ^ (bits - 1) → sext_word x bits ≡ x
sext_small bits x few some small =
    let within : 2 ^ (bits - 1) ≤ 2 ^ bits = (let le : bits - 1 ≤ bits = omega arith in pow_mono le) in
    sext_is bits x few (omega arith) ∙ cond-true _ _ _ (lt-ltb x (2 ^ (bits - 1)) small)

extended_is : (a : ℕ) → sign_extended a ≡ with_sign 32 (low a)
unfolding sext_word
extended_is a =
    let some : 0 < 2 ^ 32 = omega arith in
    ap (λ n. word_of (signed_in 32 n)) (sym (mod-mod a (2 ^ 32))) ∙ sext_is 32 (low a) (omega arith) (mod-lt a some)

-- 32 bits extended by their sign read as the number that they are with their sign
signed_sext : (x : ℕ) → x < 2 ^ 32 → signed_of (with_sign 32 x) ≡ signed_in 32 x
unfolding signed_of signed_in
signed_sext x h = grind arith

pub signed_low : (a : ℕ) → signed_of (sign_extended a) ≡ low_signed a
signed_low a = let some : 0 < 2 ^ 32 = omega arith in ap signed_of (extended_is a) ∙ signed_sext (a % 2 ^ 32) (mod-lt a some)

-- a low half is 0 where its extension is
with_sign_zero : (x : ℕ) → x < 2 ^ 32 → with_sign 32 x ≡ 0 → x ≡ 0
with_sign_zero x small h = grind arith

pub low_zero : (a : ℕ) → sign_extended a ≡ 0 → low a ≡ 0
low_zero a h = let some : 0 < 2 ^ 32 = omega arith in with_sign_zero (low a) (mod-lt a some) (sym (extended_is a) ∙ h)

pub low_nonzero : (a : ℕ) → sign_extended a ≢ 0 → low a ≢ 0
low_nonzero a h e = h (extended_is a ∙ ap (with_sign 32) e)

pub shl_extended : (a k : ℕ) → sign_extended (shl_word a k) ≡ sign_extended (a * 2 ^ k)
unfolding shl_word sext_word
shl_extended a k = ap (λ n. word_of (signed_in 32 n)) (mod-mod-pow (a * 2 ^ k) 32 32)

pub mul_extended : (a b : ℕ) → sign_extended (mul_word a b) ≡ sign_extended (a * b)
unfolding mul_word sext_word
mul_extended a b = ap (λ n. word_of (signed_in 32 n)) (mod-mod-pow (a * b) 32 32)

pub shr_extended : (a k : ℕ) → sign_extended (shr_word (low a) k) ≡ sign_extended (low a / 2 ^ k)
unfolding shr_word
shr_extended a k = refl

pub sar_extended : (a k : ℕ) → sar_word (sign_extended a) k ≡ sar_low a k
unfolding sar_word
sar_extended a k = ap (λ z. word_of (int_div_euclid z (pos (2 ^ k)))) (signed_low a)

pub div_extended : (a b : ℕ) → div_word (sign_extended a) (sign_extended b) ≡ word_of (int_div (low_signed a) (low_signed b))
unfolding div_word
div_extended a b =
    ap (λ z. word_of (int_div z (signed_of (sign_extended b)))) (signed_low a)
    ∙ ap (λ z. word_of (int_div (low_signed a) z)) (signed_low b)

pub rem_extended : (a b : ℕ) → rem_word (sign_extended a) (sign_extended b) ≡ word_of (int_rem (low_signed a) (low_signed b))
unfolding rem_word
rem_extended a b =
    ap (λ z. word_of (int_rem z (signed_of (sign_extended b)))) (signed_low a)
    ∙ ap (λ z. word_of (int_rem (low_signed a) z)) (signed_low b)

-- ---- the high half of a product of one signed word

pub mulhsu-returns : (a b : ℕ) (x y : ℤ) (r : ℕ) → b < 2 ^ 64
    → FitsSigned w64 x → x ≡ signed_of a → y ≡ pos b
    → r ≡ cast_unsigned w64 (cast_signed w64 (cast_unsigned w64 (cast_signed w128 (cast_unsigned w128 (shr_z (cast_signed w128 (cast_unsigned w128 (cast_signed w128 (cast_unsigned w128 x) *ℤ cast_signed w128 (cast_unsigned w128 y)))) (2 ^ 64))))))
    → r ≡ word_of (int_div_euclid (signed_of a *ℤ pos b) (pos (2 ^ 64)))
mulhsu-returns a b x y r small f e k h =
    let fx : FitsSigned w128 x = record { sfits = omega (arith, f.sfits) } in
    let fb : FitsSigned w128 (pos b) = record { sfits = omega arith } in
    let fy : FitsSigned w128 y = subst (FitsSigned w128) (sym k) fb in
    let product : FitsSigned w128 (x *ℤ y) = subst (λ z. FitsSigned w128 (x *ℤ z)) (sym k) (fits_signed_mul w128 x (pos b) (2 ^ 63) (2 ^ 64 - 1) (nat_abs-le x f.sfits) (omega arith) (omega arith)) in
    let high : mag (shr_z (x *ℤ y) (2 ^ 64)) < 2 ^ 63 = high_below (x *ℤ y) product.sfits in
    let wide : FitsSigned w128 (shr_z (x *ℤ y) (2 ^ 64)) = record { sfits = omega arith } in
    let fits : FitsSigned w64 (shr_z (x *ℤ y) (2 ^ 64)) = record { sfits = high } in
    let after : ℤ → ℕ = λ z. cast_unsigned w64 (cast_signed w64 (cast_unsigned w64 (cast_signed w128 (cast_unsigned w128 (shr_z (cast_signed w128 (cast_unsigned w128 z)) (2 ^ 64)))))) in
    h ∙ ap (λ z. after (z *ℤ cast_signed w128 (cast_unsigned w128 y))) (again128 x fx)
    ∙ ap (λ z. after (x *ℤ z)) (again128 y fy)
    ∙ ap (λ z. cast_unsigned w64 (cast_signed w64 (cast_unsigned w64 (cast_signed w128 (cast_unsigned w128 (shr_z z (2 ^ 64))))))) (again128 _ product)
    ∙ ap (λ z. cast_unsigned w64 (cast_signed w64 (cast_unsigned w64 z))) (again128 _ wide)
    ∙ ap (cast_unsigned w64) (to_z-of_z w64 _ fits)
    ∙ sym (word_of-bits (shr_z (x *ℤ y) (2 ^ 64)) (omega arith))
    ∙ ap word_of (sym (div_euclid-shr (x *ℤ y) (2 ^ 64)))
    ∙ ap (λ z. word_of (int_div_euclid (z *ℤ y) (pos (2 ^ 64)))) e
    ∙ ap (λ z. word_of (int_div_euclid (signed_of a *ℤ z) (pos (2 ^ 64)))) k
