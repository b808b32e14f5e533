-- Lemmas on words, and what the conversions in the code of the operators leave.
use Rattle.std.proofs.Common.{◌≡◌, ◌≢◌, ℕ, zero, suc, ◌+◌, ◌-◌, ◌*◌, ◌/◌, ◌%◌, ◌^◌, ◌<◌, ◌≤◌, refl, ap, arith, ◌∙◌, sym, subst, false, cond, nat_lt, ◌⊎◌, inl, inr}
use Rattle.std.specs.Prelude.{ℤ, pos, negsuc, neg_ℤ, ◌*ℤ◌, int_div, int_rem, FitsSigned, unsigned_abs}
use Rattle.std.specs.Int.{w64, w128, cast_unsigned, cast_signed, int_div_euclid, IsNonZero}
use Rattle.std.specs.Int.Signed.{mag, shr_z, mag_shr, mag_rem, nat_abs-le}
use Rattle.std.proofs.lemmas.Int.{to_z-of_z, of_z-to_z, fits_signed_mul}
use Rattle.std.proofs.lemmas.Bool.{lt-ltb}
use Rattle.std.proofs.Math.Nat.{mod-eq_of_lt, mod-lt, div-le_self}
use Rattle.std.proofs.Math.Pow.{pow_mono, pow_pos}
use Rattle.std.proofs.lemmas.Nat.{pow_below}
use Rattle.bs_words.specs.Word.{word_of, signed_of, sar_word, mulh_word, div_word, rem_word, signed_in, sext_word}

-- ---- the word that an integer leaves

-- an integer of at most 64 bits leaves its own bits
pub word_of-bits : (z : ℤ) → mag z < 2 ^ 64 → word_of z ≡ cast_unsigned w64 z
unfolding word_of
word_of-bits (pos n) h = mod-eq_of_lt h
word_of-bits (negsuc n) h = let e : n % 2 ^ 64 ≡ n = mod-eq_of_lt h in omega arith

bits_below : (z : ℤ) → mag z < 2 ^ 64 → cast_unsigned w64 z < 2 ^ 64
bits_below (pos n) h = h
bits_below (negsuc n) h = omega arith

-- ---- sizes of quotients

-- division by a positive number, rounded down, is the shift
pub div_euclid-shr : (z : ℤ) (m : ℕ) → int_div_euclid z (pos m) ≡ shr_z z m
div_euclid-shr (pos n) m = refl
div_euclid-shr (negsuc n) m = refl

mag_neg : (n : ℕ) → mag (neg_ℤ (pos n)) ≤ n
mag_neg zero = omega arith
mag_neg (suc n) = omega arith

mag_quot : (x y : ℤ) → mag (int_div x y) ≤ mag x + 1
mag_quot (pos a) (pos b) = omega (arith, div-le_self a b)
mag_quot (pos a) (negsuc b) = omega (arith, mag_neg (a / suc b), div-le_self a (suc b))
mag_quot (negsuc a) (pos b) = omega (arith, mag_neg (suc a / b), div-le_self (suc a) b)
mag_quot (negsuc a) (negsuc b) = omega (arith, div-le_self (suc a) (suc b))

mag_abs : (z : ℤ) → mag z ≤ unsigned_abs z
mag_abs (pos n) = omega arith
mag_abs (negsuc n) = omega arith

quotient_below : (n : ℕ) → n < 2 ^ 127 → n / 2 ^ 64 < 2 ^ 63
quotient_below n h = omega arith

pub high_below : (z : ℤ) → mag z < 2 ^ 127 → mag (shr_z z (2 ^ 64)) < 2 ^ 63
high_below (pos n) h = quotient_below n h
high_below (negsuc n) h = quotient_below n h

-- ---- what the code's conversions leave

-- to read the bits of a signed number as signed again changes nothing
again : (z : ℤ) → FitsSigned w64 z → cast_signed w64 (cast_unsigned w64 z) ≡ z
again z f = to_z-of_z w64 z f

pub again128 : (z : ℤ) → FitsSigned w128 z → cast_signed w128 (cast_unsigned w128 z) ≡ z
again128 z f = to_z-of_z w128 z f

pub nonzero : (b : ℕ) (t : ℤ) → b < 2 ^ 64 → b ≢ 0 → FitsSigned w64 t → t ≡ signed_of b → IsNonZero w64 (cast_signed w64 (cast_unsigned w64 t))
unfolding signed_of
nonzero b t small ne f e =
    let bits : cast_unsigned w64 (cast_signed w64 (cast_unsigned w64 t)) ≡ b =
    ap (cast_unsigned w64) (again t f) ∙ ap (cast_unsigned w64) e ∙ of_z-to_z w64 b small in
    let above : 0 < b = omega arith in
    subst (λ n. 0 < n) (sym bits) above

pub sar-returns : (a k : ℕ) (s : ℤ) (r : ℕ)
    → FitsSigned w64 s → s ≡ signed_of a
    → r ≡ cast_unsigned w64 (cast_signed w64 (cast_unsigned w64 (shr_z (cast_signed w64 (cast_unsigned w64 s)) (2 ^ k))))
    → r ≡ sar_word a k
unfolding sar_word
sar-returns a k s r f e h =
    let small : FitsSigned w64 (shr_z s (2 ^ k)) = record { sfits = omega (arith, mag_shr s (2 ^ k), f.sfits) } in
    h ∙ ap (λ x. cast_unsigned w64 (cast_signed w64 (cast_unsigned w64 (shr_z x (2 ^ k))))) (again s f)
    ∙ ap (cast_unsigned w64) (again _ small)
    ∙ sym (word_of-bits (shr_z s (2 ^ k)) (omega (arith, small.sfits)))
    ∙ ap word_of (sym (div_euclid-shr s (2 ^ k)) ∙ ap (λ x. int_div_euclid x (pos (2 ^ k))) e)

pub div-returns : (a b : ℕ) (s t d : ℤ) (r : ℕ)
    → FitsSigned w64 s → FitsSigned w64 t → FitsSigned w64 d → s ≡ signed_of a → t ≡ signed_of b
    → d ≡ cast_signed w64 (cast_unsigned w64 (int_div (cast_signed w64 (cast_unsigned w64 s)) (cast_signed w64 (cast_unsigned w64 t))))
    → r ≡ cast_unsigned w64 (cast_signed w64 (cast_unsigned w64 d))
    → r ≡ div_word a b
unfolding div_word
div-returns a b s t d r f g i e k q h =
    let small : mag (int_div s t) < 2 ^ 64 = omega (arith, mag_quot s t, f.sfits) in
    h ∙ ap (cast_unsigned w64) (again d i) ∙ ap (cast_unsigned w64) q
    ∙ ap (λ x. cast_unsigned w64 (cast_signed w64 (cast_unsigned w64 (int_div x (cast_signed w64 (cast_unsigned w64 t)))))) (again s f)
    ∙ ap (λ x. cast_unsigned w64 (cast_signed w64 (cast_unsigned w64 (int_div s x)))) (again t g)
    ∙ of_z-to_z w64 _ (bits_below (int_div s t) small)
    ∙ sym (word_of-bits (int_div s t) small)
    ∙ ap (λ x. word_of (int_div x t)) e ∙ ap (λ x. word_of (int_div (signed_of a) x)) k

pub rem-returns : (a b : ℕ) (s t d : ℤ) (r : ℕ)
    → FitsSigned w64 s → FitsSigned w64 t → FitsSigned w64 d → s ≡ signed_of a → t ≡ signed_of b
    → d ≡ int_rem (cast_signed w64 (cast_unsigned w64 s)) (cast_signed w64 (cast_unsigned w64 t))
    → r ≡ cast_unsigned w64 (cast_signed w64 (cast_unsigned w64 d))
    → r ≡ rem_word a b
unfolding rem_word
rem-returns a b s t d r f g i e k q h =
    h ∙ ap (cast_unsigned w64) (again d i) ∙ ap (cast_unsigned w64) q
    ∙ ap (λ x. cast_unsigned w64 (int_rem x (cast_signed w64 (cast_unsigned w64 t)))) (again s f)
    ∙ ap (λ x. cast_unsigned w64 (int_rem s x)) (again t g)
    ∙ sym (word_of-bits (int_rem s t) (omega (arith, mag_rem s t, f.sfits)))
    ∙ ap (λ x. word_of (int_rem x t)) e ∙ ap (λ x. word_of (int_rem (signed_of a) x)) k

pub mulh-returns : (a b : ℕ) (x y : ℤ) (r : ℕ)
    → FitsSigned w64 x → FitsSigned w64 y → x ≡ signed_of a → y ≡ signed_of b
    → r ≡ cast_unsigned w64 (cast_signed w64 (cast_unsigned w64 (cast_signed w128 (cast_unsigned w128 (shr_z (cast_signed w128 (cast_unsigned w128 (cast_signed w128 (cast_unsigned w128 x) *ℤ cast_signed w128 (cast_unsigned w128 y)))) (2 ^ 64))))))
    → r ≡ mulh_word a b
unfolding mulh_word
mulh-returns a b x y r f g e k h =
    let fx : FitsSigned w128 x = record { sfits = omega (arith, f.sfits) } in
    let fy : FitsSigned w128 y = record { sfits = omega (arith, g.sfits) } in
    let product : FitsSigned w128 (x *ℤ y) = fits_signed_mul w128 x y (2 ^ 63) (2 ^ 63) (nat_abs-le x f.sfits) (nat_abs-le y g.sfits) (omega arith) in
    let high : mag (shr_z (x *ℤ y) (2 ^ 64)) < 2 ^ 63 = high_below (x *ℤ y) product.sfits in
    let wide : FitsSigned w128 (shr_z (x *ℤ y) (2 ^ 64)) = record { sfits = omega arith } in
    let small : FitsSigned w64 (shr_z (x *ℤ y) (2 ^ 64)) = record { sfits = high } in
    let after : ℤ → ℕ = λ z. cast_unsigned w64 (cast_signed w64 (cast_unsigned w64 (cast_signed w128 (cast_unsigned w128 (shr_z (cast_signed w128 (cast_unsigned w128 z)) (2 ^ 64)))))) in
    h ∙ ap (λ z. after (z *ℤ cast_signed w128 (cast_unsigned w128 y))) (again128 x fx)
    ∙ ap (λ z. after (x *ℤ z)) (again128 y fy)
    ∙ ap (λ z. cast_unsigned w64 (cast_signed w64 (cast_unsigned w64 (cast_signed w128 (cast_unsigned w128 (shr_z z (2 ^ 64))))))) (again128 _ product)
    ∙ ap (λ z. cast_unsigned w64 (cast_signed w64 (cast_unsigned w64 z))) (again128 _ wide)
    ∙ ap (cast_unsigned w64) (again _ small)
    ∙ sym (word_of-bits (shr_z (x *ℤ y) (2 ^ 64)) (omega arith))
    ∙ ap word_of (sym (div_euclid-shr (x *ℤ y) (2 ^ 64)))
    ∙ ap (λ z. word_of (int_div_euclid (z *ℤ y) (pos (2 ^ 64)))) e
    ∙ ap (λ z. word_of (int_div_euclid (signed_of a *ℤ z) (pos (2 ^ 64)))) k

-- ---- sign extension

signed_in-low : (bits n : ℕ) → n < 2 ^ (bits - 1) → signed_in bits n ≡ pos n
unfolding signed_in
signed_in-low bits n h = ap (λ t. cond t (pos n) (negsuc (2 ^ bits - 1 - n))) (lt-ltb n (2 ^ (bits - 1)) h)

signed_in-high : (bits n : ℕ) → nat_lt n (2 ^ (bits - 1)) ≡ false → signed_in bits n ≡ negsuc (2 ^ bits - 1 - n)
unfolding signed_in
signed_in-high bits n h = ap (λ t. cond t (pos n) (negsuc (2 ^ bits - 1 - n))) h

pub sext-low : (w bits : ℕ) → bits ≤ 64 → w % 2 ^ bits < 2 ^ (bits - 1) → w % 2 ^ bits ≡ sext_word w bits
unfolding sext_word word_of
sext-low w bits top h =
    let half : bits - 1 ≤ 64 = omega arith in
    let bound : 2 ^ (bits - 1) ≤ 2 ^ 64 = pow_mono half in
    let small : w % 2 ^ bits < 2 ^ 64 = omega arith in
    let same : w % 2 ^ bits % 2 ^ 64 ≡ w % 2 ^ bits = mod-eq_of_lt small in
    sym same ∙ ap word_of (sym (signed_in-low bits (w % 2 ^ bits) h))

pub sext-high : (w bits : ℕ) → bits ≤ 64 → 2 ^ (bits - 1) ≤ w % 2 ^ bits → w % 2 ^ bits + (2 ^ 64 - 2 ^ bits) ≡ sext_word w bits
unfolding sext_word word_of
sext-high w bits top h =
    let bound : 2 ^ bits ≤ 2 ^ 64 = pow_mono top in
    let positive : 0 < 2 ^ bits = pow_pos bits in
    let below : w % 2 ^ bits < 2 ^ bits = mod-lt w positive in
    let rest : 2 ^ bits - 1 - w % 2 ^ bits < 2 ^ 64 = omega arith in
    let same : (2 ^ bits - 1 - w % 2 ^ bits) % 2 ^ 64 ≡ 2 ^ bits - 1 - w % 2 ^ bits = mod-eq_of_lt rest in
    let sum : w % 2 ^ bits + (2 ^ 64 - 2 ^ bits) ≡ 2 ^ 64 - 1 - (2 ^ bits - 1 - w % 2 ^ bits) % 2 ^ 64 = omega arith in
    let test : nat_lt (w % 2 ^ bits) (2 ^ (bits - 1)) ≡ false = grind arith in
    sum ∙ ap word_of (sym (signed_in-high bits (w % 2 ^ bits) test))

shifted : (k : ℕ) → k < 64 → 1 * 2 ^ k % 2 ^ 64 ≡ 2 ^ k
shifted k h = let small : 2 ^ k < 2 ^ 64 = pow_below k 64 h in let one : 1 * 2 ^ k ≡ 2 ^ k = omega arith in rw one (mod-eq_of_lt small)

pub sext-whole : (w bits : ℕ) → w < 2 ^ 64 → bits ≡ 64 → w ≡ sext_word w bits
sext-whole w bits h e =
    let same : w % 2 ^ 64 ≡ w = mod-eq_of_lt h in
    let cases : (2 ^ 63 ≤ w % 2 ^ 64) ⊎ (w % 2 ^ 64 < 2 ^ 63) = grind arith in
    let whole : w ≡ sext_word w 64 =
    elim cases [
      | inl high ↦ (let sum : w ≡ w % 2 ^ 64 + (2 ^ 64 - 2 ^ 64) = omega arith in sum ∙ sext-high w 64 (omega arith) high)
      | inr low ↦ sym same ∙ sext-low w 64 (omega arith) low
    ] in
    whole ∙ ap (sext_word w) (sym e)

pub sext-then : (w bits : ℕ) → 0 < bits → bits < 64
    → w % (1 * 2 ^ bits % 2 ^ 64) < 1 * 2 ^ (bits - 1) % 2 ^ 64
    → w % (1 * 2 ^ bits % 2 ^ 64) ≡ sext_word w bits
sext-then w bits some top h =
    let half : bits - 1 < 64 = omega arith in
    let low : w % 2 ^ bits < 2 ^ (bits - 1) = rw (shifted bits top, shifted (bits - 1) half) at h in
    ap (λ size. w % size) (shifted bits top) ∙ sext-low w bits (omega arith) low

pub sext-else : (w bits : ℕ) → 0 < bits → bits < 64
    → 1 * 2 ^ (bits - 1) % 2 ^ 64 ≤ w % (1 * 2 ^ bits % 2 ^ 64)
    → (w % (1 * 2 ^ bits % 2 ^ 64) + (2 ^ 64 - 1 * 2 ^ bits % 2 ^ 64)) % 2 ^ 64 ≡ sext_word w bits
sext-else w bits some top h =
    let half : bits - 1 < 64 = omega arith in
    let high : 2 ^ (bits - 1) ≤ w % 2 ^ bits = rw (shifted bits top, shifted (bits - 1) half) at h in
    let bound : 2 ^ bits < 2 ^ 64 = pow_below bits 64 top in
    let below : w % 2 ^ bits < 2 ^ bits = mod-lt w (pow_pos bits) in
    let small : w % 2 ^ bits + (2 ^ 64 - 2 ^ bits) < 2 ^ 64 = omega arith in
    ap (λ size. (w % size + (2 ^ 64 - size)) % 2 ^ 64) (shifted bits top)
    ∙ mod-eq_of_lt small ∙ sext-high w bits (omega arith) high
