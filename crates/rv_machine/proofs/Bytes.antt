-- Powers of two up to a word, and a word cut into three runs of bytes.
use Rattle.std.proofs.Common.{◌≡◌, ℕ, ◌+◌, ◌-◌, ◌*◌, ◌/◌, ◌%◌, ◌^◌, ◌<◌, ◌≤◌, arith, ap, sym, ◌∙◌, subst}
use Rattle.std.proofs.Math.Nat.{mod-lt, mod-eq_of_lt, mul-le-mul_right, div-mul-le_self, lt_of_mul-lt-mul_right, div-add-mod', div-div-eq-div-mul}
use Rattle.std.proofs.lemmas.Nat.{pow_pos, pow-add}
use Rattle.bs_words.specs.Memory.{replaced}

-- a number cut at a and at a * b, with v between in place of what was there
three_below : (a b c n v : ℕ) → 0 < a → v < b → n < c * (a * b) → n % a + v * a + n / (a * b) * (a * b) < c * (a * b)
three_below a b c n v pa vb h =
    let low : n % a < a = mod-lt n pa in
    let mid : (v + 1) * a ≤ b * a = mul-le-mul_right a (omega arith) in
    let q : n / (a * b) * (a * b) < c * (a * b) = omega (arith, div-mul-le_self n (a * b)) in
    let q1 : n / (a * b) < c = lt_of_mul-lt-mul_right (a * b) q in
    let high : (n / (a * b) + 1) * (a * b) ≤ c * (a * b) = mul-le-mul_right (a * b) (omega arith) in
    omega (arith, low, mid, high)

-- the bytes below those that are written, those, and the bytes above
abbrev pub spliced : ℕ → ℕ → ℕ → ℕ → ℕ
spliced word from width value =
    word % 2 ^ (8 * from) + value % 2 ^ (8 * width) * 2 ^ (8 * from)
    + word / 2 ^ (8 * (from + width)) * 2 ^ (8 * (from + width))

-- a number is what lies below a, between, and from a * b on
cut : (a b n : ℕ) → n ≡ n % a + n / a % b * a + n / (a * b) * (a * b)
cut a b n =
    let low : n ≡ n / a * a + n % a = sym (div-add-mod' n a) in
    let high : n / a ≡ n / a / b * b + n / a % b = sym (div-add-mod' (n / a) b) in
    let both : n / a / b ≡ n / (a * b) = div-div-eq-div-mul n a b in
    let spread : n / a * a ≡ n / (a * b) * (a * b) + n / a % b * a =
    ap (λ m. m * a) (high ∙ ap (λ m. m * b + n / a % b) both) ∙ spread_out (n / (a * b)) (n / a % b) a b in
    omega (arith, low, spread)
  where
    spread_out : (q r a b : ℕ) → (q * b + r) * a ≡ q * (a * b) + r * a
    spread_out q r a b = grind arith

pub replaced_spliced : (word from width value : ℕ) → replaced word from width value ≡ spliced word from width value
replaced_spliced word from width value =
    let top : 2 ^ (8 * (from + width)) ≡ 2 ^ (8 * from) * 2 ^ (8 * width) =
    (let e : 8 * (from + width) ≡ 8 * from + 8 * width = omega arith in ap (λ k. 2 ^ k) e ∙ pow-add 2 (8 * from) (8 * width)) in
    let parts = cut (2 ^ (8 * from)) (2 ^ (8 * width)) word in
    let high : word / 2 ^ (8 * (from + width)) * 2 ^ (8 * (from + width)) ≡ word / (2 ^ (8 * from) * 2 ^ (8 * width)) * (2 ^ (8 * from) * 2 ^ (8 * width)) = ap (λ t. word / t * t) top in
    omega (arith, parts, high)

-- a word whose bytes are replaced is a word
pub spliced-below : (word from width value : ℕ) → from + width ≤ 8 → word < 2 ^ 64 → spliced word from width value < 2 ^ 64
spliced-below word from width value h small =
    let v : value % 2 ^ (8 * width) < 2 ^ (8 * width) = mod-lt value (pow_pos (8 * width)) in
    let top : 2 ^ (8 * (from + width)) ≡ 2 ^ (8 * from) * 2 ^ (8 * width) =
    (let e : 8 * (from + width) ≡ 8 * from + 8 * width = omega arith in ap (λ k. 2 ^ k) e ∙ pow-add 2 (8 * from) (8 * width)) in
    let whole : 2 ^ 64 ≡ 2 ^ (64 - 8 * (from + width)) * (2 ^ (8 * from) * 2 ^ (8 * width)) =
    (let e : 64 ≡ (64 - 8 * (from + width)) + 8 * (from + width) = omega arith in
    ap (λ k. 2 ^ k) e ∙ pow-add 2 (64 - 8 * (from + width)) (8 * (from + width)) ∙ ap (λ k. 2 ^ (64 - 8 * (from + width)) * k) top) in
    let within : word < 2 ^ (64 - 8 * (from + width)) * (2 ^ (8 * from) * 2 ^ (8 * width)) = subst (λ n. word < n) whole small in
    let all = three_below (2 ^ (8 * from)) (2 ^ (8 * width)) (2 ^ (64 - 8 * (from + width))) word (value % 2 ^ (8 * width)) (pow_pos (8 * from)) v within in
    subst (λ t. word % 2 ^ (8 * from) + value % 2 ^ (8 * width) * 2 ^ (8 * from) + word / t * t < 2 ^ 64) (sym top)
    (subst (λ n. word % 2 ^ (8 * from) + value % 2 ^ (8 * width) * 2 ^ (8 * from) + word / (2 ^ (8 * from) * 2 ^ (8 * width)) * (2 ^ (8 * from) * 2 ^ (8 * width)) < n) (sym whole) all)

-- the middle part in its place is a word, so that it was shifted whole
pub middle : (from width v : ℕ) → from + width ≤ 8 → v < 2 ^ (8 * width) → v * 2 ^ (8 * from) % 2 ^ 64 ≡ v * 2 ^ (8 * from)
middle from width v h small =
    let same : v % 2 ^ (8 * width) ≡ v = mod-eq_of_lt small in
    let all = spliced-below 0 from width v h (omega arith) in
    let less : v % 2 ^ (8 * width) * 2 ^ (8 * from) < 2 ^ 64 = omega arith in
    let less2 : v * 2 ^ (8 * from) < 2 ^ 64 = subst (λ n. n * 2 ^ (8 * from) < 2 ^ 64) same less in
    mod-eq_of_lt less2

pub replaced-below : (word from width value : ℕ) → from + width ≤ 8 → word < 2 ^ 64 → replaced word from width value < 2 ^ 64
replaced-below word from width value h small =
    subst (λ n. n < 2 ^ 64) (sym (replaced_spliced word from width value)) (spliced-below word from width value h small)
