-- Immediates extended by their sign, as cases that arithmetic on numbers can go through.
use Rattle.std.proofs.Common.{◌≡◌, ℕ, ◌+◌, ◌-◌, ◌*◌, ◌%◌, ◌^◌, ◌<◌, ◌≤◌, ◌⊎◌, inl, inr, ap, arith, ◌∙◌, sym, ⊎_elim, mod-eq_of_lt}
use Rattle.std.proofs.lemmas.Bool.{cases_lt}
use Rattle.bs_words.specs.Word.{add_word}
use Rattle.bs_words.proofs.Word.{sext-high, sext-low}
use Rattle.rv_machine.specs.Arithmetic.{sign_extended, imm_i, imm_u}

-- a number of so many bits, by the value of its highest bit
abbrev pub Extended : (bound w result : ℕ) → Type 0
Extended bound w result = ((w < bound) × (result ≡ w)) ⊎ ((bound ≤ w) × (result ≡ w + 2 ^ 64 - 2 * bound))

-- ---- 12 bits

pub low_12 : (x : ℕ) → x < 2048 → imm_i x ≡ x
low_12 x l =
    let e : x % 2 ^ 12 ≡ x = omega (arith, l) in
    let h : x % 2 ^ 12 < 2 ^ (12 - 1) = omega (arith, l) in
    sym (sext-low x 12 (omega arith) h) ∙ e

pub high_12 : (x : ℕ) → 2048 ≤ x → x < 4096 → imm_i x ≡ x + 2 ^ 64 - 2 ^ 12
high_12 x l u =
    let e : x % 2 ^ 12 + (2 ^ 64 - 2 ^ 12) ≡ x + 2 ^ 64 - 2 ^ 12 = omega (arith, u) in
    let h : 2 ^ (12 - 1) ≤ x % 2 ^ 12 = omega (arith, l, u) in
    sym (sext-high x 12 (omega arith) h) ∙ e

pub by_12 : (x : ℕ) → x < 4096 → Extended 2048 x (imm_i x)
by_12 x u = ⊎_elim (λ l. inl (l, low_12 x l)) (λ l. inr (l, high_12 x l u)) (cases_lt x 2048)

-- ---- 32 bits

pub low_32 : (x : ℕ) → x % 2 ^ 32 < 2 ^ 31 → sign_extended x ≡ x % 2 ^ 32
low_32 x l = sym (sext-low x 32 (omega arith) l)

pub high_32 : (x : ℕ) → 2 ^ 31 ≤ x % 2 ^ 32 → sign_extended x ≡ x % 2 ^ 32 + (2 ^ 64 - 2 ^ 32)
high_32 x l = sym (sext-high x 32 (omega arith) l)

pub by_32 : (x : ℕ) → ((x % 2 ^ 32 < 2 ^ 31) × (sign_extended x ≡ x % 2 ^ 32)) ⊎ ((2 ^ 31 ≤ x % 2 ^ 32) × (sign_extended x ≡ x % 2 ^ 32 + (2 ^ 64 - 2 ^ 32)))
by_32 x = ⊎_elim (λ l. inl (l, low_32 x l)) (λ l. inr (l, high_32 x l)) (cases_lt (x % 2 ^ 32) (2 ^ 31))

-- the upper 20 of 32 bits
pub by_20 : (x : ℕ) → x < 2 ^ 20 → Extended (2 ^ 31) (4096 * x) (imm_u x)
by_20 x u =
    ⊎_elim
    (λ p. let l = p.0 in let e = p.1 in inl (omega (arith, l, u), omega (arith, e, u)))
    (λ p. let l = p.0 in let e = p.1 in inr (omega (arith, l, u), omega (arith, e, u)))
    (by_32 (4096 * x))

-- ---- sums

pub up : (a b c : ℕ) → a + b ≡ c → c < 2 ^ 64 → add_word a b ≡ c
unfolding add_word
up a b c e l = ap (λ x. x % 2 ^ 64) e ∙ mod-eq_of_lt l

-- a sum that wraps
pub down : (a b c : ℕ) → a + b ≡ c + 2 ^ 64 → c < 2 ^ 64 → add_word a b ≡ c
unfolding add_word
down a b c e l = ap (λ x. x % 2 ^ 64) e ∙ omega (arith, l)
