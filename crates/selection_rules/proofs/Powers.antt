-- A quotient toward zero by a power of two, and the remainder, made by shifts.
use Rattle.std.proofs.Common.{◌≡◌, ℕ, zero, suc, ◌+◌, ◌-◌, ◌*◌, ◌/◌, ◌%◌, ◌^◌, ◌<◌, ◌≤◌, Bool, true, false, refl, sym, ap, ◌∙◌, subst, arith}
use Rattle.std.specs.Prelude.{pos, negsuc, neg_ℤ, nat_lt}
use Rattle.std.specs.Int.{w64}
use Rattle.std.proofs.lemmas.Int.{to_z-of_z}
use Rattle.std.proofs.lemmas.Bool.{ltb-true}
use Rattle.std.proofs.lemmas.Nat.{pow_below, pow-add, div-mul-add, div-add-mod', mod_below}
use Rattle.std.proofs.Math.Nat.{mod-eq_of_lt, add-mul-div_right, add-mul, div-le_self}
use Rattle.std.proofs.Math.Pow.{pow_pos}
use Rattle.bs_words.specs.Word.{word_of, signed_of, add_word, sub_word, div_word, rem_word, shl_word, shr_word, sar_word}

-- the sum that the shift rounds down
abbrev pub rounding : ℕ → ℕ → ℕ
rounding a k = add_word a (shr_word (sar_word a 63) (64 - k))

-- ---- readings

-- a word that is not negative, and one that is: -(n + 1)
pub reads_low : (a : ℕ) → a < 2 ^ 63 → signed_of a ≡ pos a
unfolding signed_of
reads_low a h = to_z-of_z w64 (pos a) (record { sfits = h })

pub reads_high : (n : ℕ) → n < 2 ^ 63 → signed_of (2 ^ 64 - suc n) ≡ negsuc n
unfolding signed_of
reads_high n h = to_z-of_z w64 (negsuc n) (record { sfits = h })

sar_low : (a k : ℕ) → a < 2 ^ 63 → sar_word a k ≡ a / 2 ^ k % 2 ^ 64
unfolding sar_word word_of
sar_low a k h = rw (reads_low a h) refl

sar_high : (n k : ℕ) → n < 2 ^ 63 → sar_word (2 ^ 64 - suc n) k ≡ 2 ^ 64 - 1 - n / 2 ^ k % 2 ^ 64
unfolding sar_word word_of
sar_high n k h = rw (reads_high n h) refl

-- ---- the sum

div_small : (a m : ℕ) → a < m → a / m ≡ 0
div_small a m h = let e : a ≡ 0 * m + a = omega arith in ap (λ x. x / m) e ∙ div-mul-add 0 m a h

-- all ones but the lowest
ones : (k : ℕ) → k ≤ 64 → (2 ^ 64 - 1) / 2 ^ (64 - k) ≡ 2 ^ k - 1
ones k le =
    let whole : 2 ^ 64 ≡ 2 ^ k * 2 ^ (64 - k) = ap (λ n. 2 ^ n) (let e : 64 ≡ k + (64 - k) = omega arith in e) ∙ pow-add 2 k (64 - k) in
    by (2 ^ k) (2 ^ (64 - k)) (pow_pos k) (pow_pos (64 - k)) whole
  where
    by : (m r : ℕ) → 0 < m → 0 < r → 2 ^ 64 ≡ m * r → (2 ^ 64 - 1) / r ≡ m - 1
    by zero r p q e = absurd (omega (arith, p))
    by (suc n) r p q e =
        let split : suc n * r ≡ n * r + r = omega arith in
        let sum : 2 ^ 64 - 1 ≡ n * r + (r - 1) = omega (arith, split, e, q) in
        let less : r - 1 < r = omega (arith, q) in
        let pre : n ≡ suc n - 1 = omega arith in
        ap (λ x. x / r) sum ∙ div-mul-add n r (r - 1) less ∙ pre

rounding_low : (a k : ℕ) → a < 2 ^ 63 → rounding a k ≡ a
unfolding add_word shr_word
rounding_low a k h =
    let none : sar_word a 63 ≡ 0 = sar_low a 63 h ∙ (let e : a / 2 ^ 63 % 2 ^ 64 ≡ 0 = omega (arith, h) in e) in
    let shifted : 0 / 2 ^ (64 - k) ≡ 0 = div_small 0 (2 ^ (64 - k)) (pow_pos (64 - k)) in
    let small : (a + 0) % 2 ^ 64 ≡ a = omega (arith, h) in
    ap (λ n. (a + n / 2 ^ (64 - k)) % 2 ^ 64) none ∙ ap (λ n. (a + n) % 2 ^ 64) shifted ∙ small

rounding_high : (n k : ℕ) → n < 2 ^ 63 → k ≤ 64 → rounding (2 ^ 64 - suc n) k ≡ (2 ^ 64 - suc n + (2 ^ k - 1)) % 2 ^ 64
unfolding add_word shr_word
rounding_high n k h le =
    let none : sar_word (2 ^ 64 - suc n) 63 ≡ 2 ^ 64 - 1 = sar_high n 63 h ∙ (let e : 2 ^ 64 - 1 - n / 2 ^ 63 % 2 ^ 64 ≡ 2 ^ 64 - 1 = omega (arith, h) in e) in
    ap (λ s. (2 ^ 64 - suc n + s / 2 ^ (64 - k)) % 2 ^ 64) none ∙ ap (λ s. (2 ^ 64 - suc n + s) % 2 ^ 64) (ones k le)

-- ---- what the operators give

div_low : (a m : ℕ) → a < 2 ^ 63 → m < 2 ^ 63 → div_word a m ≡ a / m % 2 ^ 64
unfolding div_word word_of
div_low a m h g = rw (reads_low a h, reads_low m g) refl

div_high : (n m : ℕ) → n < 2 ^ 63 → m < 2 ^ 63 → div_word (2 ^ 64 - suc n) m ≡ word_of (neg_ℤ (pos (suc n / m)))
unfolding div_word
div_high n m h g = rw (reads_high n h, reads_low m g) refl

rem_low : (a m : ℕ) → a < 2 ^ 63 → m < 2 ^ 63 → rem_word a m ≡ a % m % 2 ^ 64
unfolding rem_word word_of
rem_low a m h g = rw (reads_low a h, reads_low m g) refl

rem_high : (n m : ℕ) → n < 2 ^ 63 → m < 2 ^ 63 → rem_word (2 ^ 64 - suc n) m ≡ word_of (neg_ℤ (pos (suc n % m)))
unfolding rem_word
rem_high n m h g = rw (reads_high n h, reads_low m g) refl

-- the word of the opposite
opposite : (n : ℕ) → n < 2 ^ 64 → word_of (neg_ℤ (pos n)) ≡ (2 ^ 64 - n) % 2 ^ 64
unfolding word_of
opposite zero h = omega arith
opposite (suc n) h = let e : 2 ^ 64 - 1 - n % 2 ^ 64 ≡ (2 ^ 64 - suc n) % 2 ^ 64 = omega (arith, h) in e

-- ---- quotients

-- a negative dividend: nearer to 0 than the power, or not
data Far (n m : ℕ) : Type 0 where
  near : suc n < m → Far n m
  far : (rest : ℕ) → suc n ≡ rest + m → Far n m

how_far : (n m : ℕ) → Far n m
how_far n m = by (nat_lt (suc n) m) refl
  where
    by : (b : Bool) → nat_lt (suc n) m ≡ b → Far n m
    by true e = near (ltb-true (suc n) m e)
    by false e = let le : m ≤ suc n = grind (arith, e) in far (suc n - m) (omega (arith, le))

rounded_near : (n m : ℕ) → n < 2 ^ 63 → suc n < m → m < 2 ^ 63 → (2 ^ 64 - suc n + (m - 1)) % 2 ^ 64 ≡ m - 1 - suc n
rounded_near n m h less top = omega (arith, h, less, top)

rounded_far : (n m rest : ℕ) → n < 2 ^ 63 → 0 < m → suc n ≡ rest + m → (2 ^ 64 - suc n + (m - 1)) % 2 ^ 64 ≡ 2 ^ 64 - suc rest
rounded_far n m rest h some e = omega (arith, h, some, e)

quotient_near : (n k : ℕ) → n < 2 ^ 63 → k < 63 → suc n < 2 ^ k → sar_word (rounding (2 ^ 64 - suc n) k) k ≡ 0
quotient_near n k h less near' =
    let top : 2 ^ k < 2 ^ 63 = pow_below k 63 less in
    let sum = rounding_high n k h (omega (arith, less)) ∙ rounded_near n (2 ^ k) h near' top in
    let small : 2 ^ k - 1 - suc n < 2 ^ 63 = omega (arith, top) in
    let inside : 2 ^ k - 1 - suc n < 2 ^ k = omega (arith, pow_pos k) in
    ap (λ x. sar_word x k) sum ∙ sar_low (2 ^ k - 1 - suc n) k small ∙ ap (λ x. x % 2 ^ 64) (div_small (2 ^ k - 1 - suc n) (2 ^ k) inside)

quotient_far : (n k rest : ℕ) → n < 2 ^ 63 → k < 63 → suc n ≡ rest + 2 ^ k → sar_word (rounding (2 ^ 64 - suc n) k) k ≡ 2 ^ 64 - 1 - rest / 2 ^ k % 2 ^ 64
quotient_far n k rest h less e =
    let small : rest < 2 ^ 63 = omega (arith, h, e, pow_pos k) in
    ap (λ x. sar_word x k) (rounding_high n k h (omega (arith, less)) ∙ rounded_far n (2 ^ k) rest h (pow_pos k) e) ∙ sar_high rest k small

far_quotient : (n m rest : ℕ) → 0 < m → suc n ≡ rest + m → suc n / m ≡ suc (rest / m)
far_quotient n m rest some e =
    let one : suc n ≡ rest + 1 * m = omega (arith, e) in
    let more : rest / m + 1 ≡ suc (rest / m) = omega arith in
    ap (λ x. x / m) one ∙ add-mul-div_right rest 1 some ∙ more

quotient_negative : (n k : ℕ) → n < 2 ^ 63 → k < 63 → Far n (2 ^ k) → sar_word (rounding (2 ^ 64 - suc n) k) k ≡ div_word (2 ^ 64 - suc n) (2 ^ k)
unfolding word_of
quotient_negative n k l less (near z) =
    quotient_near n k l less z ∙ sym (div_high n (2 ^ k) l (pow_below k 63 less) ∙ ap (λ q. word_of (neg_ℤ (pos q))) (div_small (suc n) (2 ^ k) z))
quotient_negative n k l less (far rest e) =
    quotient_far n k rest l less e
    ∙ sym (div_high n (2 ^ k) l (pow_below k 63 less) ∙ ap (λ q. word_of (neg_ℤ (pos q))) (far_quotient n (2 ^ k) rest (pow_pos k) e))

-- a word is read as one or the other
by_sign : (P : ℕ → Type 0) → ((a : ℕ) → a < 2 ^ 63 → P a) → ((n : ℕ) → n < 2 ^ 63 → P (2 ^ 64 - suc n)) → (a : ℕ) → a < 2 ^ 64 → P a
by_sign P low high a h = by (nat_lt a (2 ^ 63)) refl
  where
    by : (b : Bool) → nat_lt a (2 ^ 63) ≡ b → P a
    by true e = low a (ltb-true a (2 ^ 63) e)
    by false e =
        let le : 2 ^ 63 ≤ a = grind (arith, e) in
        let back : 2 ^ 64 - suc (2 ^ 64 - suc a) ≡ a = omega (arith, h, le) in
        subst P back (high (2 ^ 64 - suc a) (omega (arith, h, le)))

pub quotient : (a k : ℕ) → a < 2 ^ 64 → k < 63 → sar_word (rounding a k) k ≡ div_word a (2 ^ k)
quotient a k h less =
    by_sign (λ a. sar_word (rounding a k) k ≡ div_word a (2 ^ k))
    (λ a l. ap (λ x. sar_word x k) (rounding_low a k l) ∙ sar_low a k l ∙ sym (div_low a (2 ^ k) l (pow_below k 63 less)))
    (λ n l. quotient_negative n k l less (how_far n (2 ^ k))) a h

-- ---- remainders

-- the dividend less the multiple
abbrev pub remaining : ℕ → ℕ → ℕ
remaining a k = sub_word a (shl_word (sar_word (rounding a k) k) k)

taken_low : (a m : ℕ) → a < 2 ^ 63 → (a + (2 ^ 64 - a / m % 2 ^ 64 * m % 2 ^ 64)) % 2 ^ 64 ≡ a % m % 2 ^ 64
taken_low a m h = by (a / m) (a % m) (div-add-mod' a m) (div-le_self a m)
  where
    by : (q r : ℕ) → q * m + r ≡ a → q ≤ a → (a + (2 ^ 64 - q % 2 ^ 64 * m % 2 ^ 64)) % 2 ^ 64 ≡ r % 2 ^ 64
    by q r e le =
        let same : q % 2 ^ 64 ≡ q = omega (arith, le, h) in
        let p : ℕ = q * m in
        let less : (a + (2 ^ 64 - p % 2 ^ 64)) % 2 ^ 64 ≡ r % 2 ^ 64 = omega (arith, e, h) in
        ap (λ x. (a + (2 ^ 64 - x * m % 2 ^ 64)) % 2 ^ 64) same ∙ less

taken_near : (n : ℕ) → n < 2 ^ 63 → (2 ^ 64 - suc n + (2 ^ 64 - 0)) % 2 ^ 64 ≡ (2 ^ 64 - suc n) % 2 ^ 64
taken_near n h = omega (arith, h)

-- a multiple of a power, from the opposite of its factor
multiple : (q m t : ℕ) → q < 2 ^ 63 → 0 < m → suc q * m ≡ t → t ≤ 2 ^ 63 → (2 ^ 64 - 1 - q % 2 ^ 64) * m % 2 ^ 64 ≡ 2 ^ 64 - t
multiple q m t h some e le =
    let x : ℕ = 2 ^ 64 - 1 - q % 2 ^ 64 in
    let whole : x + suc q ≡ 2 ^ 64 = omega (arith, h) in
    let split : 2 ^ 64 * m ≡ x * m + suc q * m = ap (λ y. y * m) (sym whole) ∙ add-mul x (suc q) m in
    let p : ℕ = x * m in
    let positive : m ≤ t = let more : suc q * m ≡ q * m + m = omega arith in omega (arith, more, e) in
    let sum : 2 ^ 64 * m ≡ p + t = split ∙ ap (λ y. p + y) e in
    let result : p % 2 ^ 64 ≡ 2 ^ 64 - t = omega (arith, sum, positive, some, le) in
    result

remaining_far : (n m rest : ℕ) → n < 2 ^ 63 → 0 < m → suc n ≡ rest + m → (2 ^ 64 - suc n + (2 ^ 64 - (2 ^ 64 - 1 - rest / m % 2 ^ 64) * m % 2 ^ 64)) % 2 ^ 64 ≡ (2 ^ 64 - suc n % m) % 2 ^ 64
remaining_far n m rest h some e = by (rest / m) (suc n % m) (far_quotient n m rest some e) (div-le_self rest m)
  where
    by : (q r : ℕ) → suc n / m ≡ suc q → q ≤ rest → (2 ^ 64 - suc n + (2 ^ 64 - (2 ^ 64 - 1 - q % 2 ^ 64) * m % 2 ^ 64)) % 2 ^ 64 ≡ (2 ^ 64 - suc n % m) % 2 ^ 64
    by q r f le =
        let whole : suc q * m + suc n % m ≡ suc n = ap (λ x. x * m + suc n % m) (sym f) ∙ div-add-mod' (suc n) m in
        let t : ℕ = suc q * m in
        let u : ℕ = suc n % m in
        let most : t ≤ 2 ^ 63 = omega (arith, whole, h) in
        let below : q < 2 ^ 63 = omega (arith, le, h, e, some) in
        let left : (2 ^ 64 - suc n + (2 ^ 64 - (2 ^ 64 - t))) % 2 ^ 64 ≡ (2 ^ 64 - u) % 2 ^ 64 = omega (arith, whole, h, most) in
        ap (λ x. (2 ^ 64 - suc n + (2 ^ 64 - x)) % 2 ^ 64) (multiple q m t below some refl most) ∙ left

remainder_near : (n k : ℕ) → n < 2 ^ 63 → k < 63 → suc n < 2 ^ k → remaining (2 ^ 64 - suc n) k ≡ rem_word (2 ^ 64 - suc n) (2 ^ k)
unfolding sub_word shl_word
remainder_near n k l less z =
    let none : 0 * 2 ^ k % 2 ^ 64 ≡ 0 = omega arith in
    let own : suc n % 2 ^ k ≡ suc n = mod-eq_of_lt z in
    ap (λ q. (2 ^ 64 - suc n + (2 ^ 64 - q * 2 ^ k % 2 ^ 64)) % 2 ^ 64) (quotient_near n k l less z) ∙ ap (λ q. (2 ^ 64 - suc n + (2 ^ 64 - q)) % 2 ^ 64) none ∙ taken_near n l
    ∙ sym (rem_high n (2 ^ k) l (pow_below k 63 less) ∙ opposite (suc n % 2 ^ k) (omega (arith, own, l)) ∙ ap (λ q. (2 ^ 64 - q) % 2 ^ 64) own)

remainder_far : (n k rest : ℕ) → n < 2 ^ 63 → k < 63 → suc n ≡ rest + 2 ^ k → remaining (2 ^ 64 - suc n) k ≡ rem_word (2 ^ 64 - suc n) (2 ^ k)
unfolding sub_word shl_word
remainder_far n k rest l less e =
    let top : 2 ^ k < 2 ^ 63 = pow_below k 63 less in
    let below : suc n % 2 ^ k < 2 ^ k = mod_below (suc n) (2 ^ k) (pow_pos k) in
    ap (λ q. (2 ^ 64 - suc n + (2 ^ 64 - q * 2 ^ k % 2 ^ 64)) % 2 ^ 64) (quotient_far n k rest l less e) ∙ remaining_far n (2 ^ k) rest l (pow_pos k) e
    ∙ sym (rem_high n (2 ^ k) l top ∙ opposite (suc n % 2 ^ k) (omega (arith, below, top)))

remainder_negative : (n k : ℕ) → n < 2 ^ 63 → k < 63 → Far n (2 ^ k) → remaining (2 ^ 64 - suc n) k ≡ rem_word (2 ^ 64 - suc n) (2 ^ k)
remainder_negative n k l less (near z) = remainder_near n k l less z
remainder_negative n k l less (far rest e) = remainder_far n k rest l less e

remainder_low : (a k : ℕ) → a < 2 ^ 63 → k < 63 → remaining a k ≡ rem_word a (2 ^ k)
unfolding sub_word shl_word
remainder_low a k l less =
    ap (λ q. (a + (2 ^ 64 - q * 2 ^ k % 2 ^ 64)) % 2 ^ 64) (ap (λ x. sar_word x k) (rounding_low a k l) ∙ sar_low a k l) ∙ taken_low a (2 ^ k) l
    ∙ sym (rem_low a (2 ^ k) l (pow_below k 63 less))

pub remainder : (a k : ℕ) → a < 2 ^ 64 → k < 63 → remaining a k ≡ rem_word a (2 ^ k)
remainder a k h less =
    by_sign (λ a. remaining a k ≡ rem_word a (2 ^ k)) (λ a l. remainder_low a k l less) (λ n l. remainder_negative n k l less (how_far n (2 ^ k))) a h
