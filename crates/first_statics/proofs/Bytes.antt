-- Words taken apart into bytes and put together again, also where the last ones are cut off.
use Rattle.std.proofs.Common.{◌≡◌, ℕ, zero, suc, ◌+◌, ◌-◌, ◌*◌, ◌/◌, ◌%◌, ◌^◌, ◌<◌, ◌≤◌, List, [], ◌∷◌, ◌++◌, length, take, flat_map, ap, ◌∙◌, subst, ⊎_elim, arith}
use Rattle.std.specs.Int.{w64, to_le_bytes}
use Rattle.std.proofs.Math.Nat as nat
use Rattle.std.proofs.lemmas.Bool.{cases_lt}
use Rattle.rv_machine.specs.Memory.{number_from_bytes, words_of_bytes}

abbrev pub word_bytes : ℕ → List ℕ
word_bytes w = to_le_bytes w64 w

-- each word fits the bytes that are left for it
abbrev pub WordsFit : ℕ → List ℕ → Type 0
WordsFit n [] = Unit {0}
WordsFit n (w ∷ ws) = (w < 2 ^ 64) × (w < 2 ^ (8 * n)) × WordsFit (n - 8) ws

pub power_rises : (n m : ℕ) → n ≤ m → 2 ^ (8 * n) ≤ 2 ^ (8 * m)
power_rises n m h = nat.pow-le-pow_right {n = 2} (omega arith) (nat.mul-le-mul_left 8 h)

pub fit_more : (n m : ℕ) (ws : List ℕ) → n ≤ m → WordsFit n ws → WordsFit m ws
fit_more n m [] h fit = tt
fit_more n m (w ∷ ws) h fit =
    let less = fit.1 in
    (fit.0, omega (arith, less, power_rises n m h), fit_more (n - 8) (m - 8) ws (omega (arith, h)) fit.2)

pub fit_both : (n : ℕ) (xs ys : List ℕ) → WordsFit n xs → WordsFit (n - 8 * length xs) ys → WordsFit n (xs ++ ys)
fit_both n [] ys p q = let same : n - 8 * 0 ≡ n = omega arith in subst (λ k. WordsFit k ys) same q
fit_both n (x ∷ xs) ys p q =
    let same : n - 8 * length (x ∷ xs) ≡ n - 8 - 8 * length xs = omega arith in
    (p.0, p.1, fit_both (n - 8) xs ys p.2 (subst (λ k. WordsFit k ys) same q))

-- ---- one word

rest : (n p : ℕ) → n / p ≡ n / p % 256 + n / (p * 256) * 256
rest n p = omega (arith, nat.div-div-eq-div-mul n p 256)

cut_1 : (w : ℕ) → w < 2 ^ 8 → number_from_bytes (take 1 (word_bytes w)) ≡ w
cut_1 w h = omega arith

cut_2 : (w : ℕ) → w < 2 ^ 16 → number_from_bytes (take 2 (word_bytes w)) ≡ w
cut_2 w h = omega (arith, rest w 1, rest w 256)

cut_3 : (w : ℕ) → w < 2 ^ 24 → number_from_bytes (take 3 (word_bytes w)) ≡ w
cut_3 w h = omega (arith, rest w 1, rest w 256, rest w 65536)

cut_4 : (w : ℕ) → w < 2 ^ 32 → number_from_bytes (take 4 (word_bytes w)) ≡ w
cut_4 w h = omega (arith, rest w 1, rest w 256, rest w 65536, rest w 16777216)

cut_5 : (w : ℕ) → w < 2 ^ 40 → number_from_bytes (take 5 (word_bytes w)) ≡ w
cut_5 w h = omega (arith, rest w 1, rest w 256, rest w 65536, rest w 16777216, rest w 4294967296)

cut_6 : (w : ℕ) → w < 2 ^ 48 → number_from_bytes (take 6 (word_bytes w)) ≡ w
cut_6 w h =
    omega (arith, rest w 1, rest w 256, rest w 65536, rest w 16777216, rest w 4294967296, rest w 1099511627776)

cut_7 : (w : ℕ) → w < 2 ^ 56 → number_from_bytes (take 7 (word_bytes w)) ≡ w
cut_7 w h =
    omega (arith, rest w 1, rest w 256, rest w 65536, rest w 16777216, rest w 4294967296, rest w 1099511627776, rest w 281474976710656)

cut_8 : (w : ℕ) → w < 2 ^ 64 → number_from_bytes (word_bytes w) ≡ w
cut_8 w h =
    omega (arith, rest w 1, rest w 256, rest w 65536, rest w 16777216, rest w 4294967296, rest w 1099511627776, rest w 281474976710656, rest w 72057594037927936)

-- ---- words

alone : (x w : ℕ) → x ≡ w → x ∷ [] ≡ w ∷ []
alone x w e = ap (λ n. n ∷ []) e

last_word : (n w : ℕ) (ws : List ℕ) → 1 ≤ n → n < 8 → w < 2 ^ (8 * n) → words_of_bytes (take n (word_bytes w ++ ws)) ≡ w ∷ []
last_word zero w ws some few fit = absurd (omega arith)
last_word (suc zero) w ws some few fit = alone _ w (cut_1 w fit)
last_word (suc (suc zero)) w ws some few fit = alone _ w (cut_2 w fit)
last_word (suc (suc (suc zero))) w ws some few fit = alone _ w (cut_3 w fit)
last_word (suc (suc (suc (suc zero)))) w ws some few fit = alone _ w (cut_4 w fit)
last_word (suc (suc (suc (suc (suc zero))))) w ws some few fit = alone _ w (cut_5 w fit)
last_word (suc (suc (suc (suc (suc (suc zero)))))) w ws some few fit = alone _ w (cut_6 w fit)
last_word (suc (suc (suc (suc (suc (suc (suc zero))))))) w ws some few fit = alone _ w (cut_7 w fit)
last_word (suc (suc (suc (suc (suc (suc (suc (suc n)))))))) w ws some few fit = absurd (omega arith)

-- a whole word before others
next_word : (w m : ℕ) (bytes : List ℕ) → w < 2 ^ 64 → words_of_bytes (take (8 + m) (word_bytes w ++ bytes)) ≡ w ∷ words_of_bytes (take m bytes)
next_word w m bytes fit =
    let eight : 8 + m ≡ suc (suc (suc (suc (suc (suc (suc (suc m))))))) = omega arith in
    ap (λ k. words_of_bytes (take k (word_bytes w ++ bytes))) eight ∙ ap (λ x. x ∷ words_of_bytes (take m bytes)) (cut_8 w fit)

none_left : (n : ℕ) → n ≡ 0 → words_of_bytes (take n []) ≡ []
none_left n e = ap (λ k. words_of_bytes (take k [])) e

-- The words of so many of the bytes of words are these, where each one fits its bytes.
pub words_cut : (ws : List ℕ) (n : ℕ) → WordsFit n ws → n ≤ 8 * length ws → 8 * length ws < n + 8 → words_of_bytes (take n (flat_map word_bytes ws)) ≡ ws
words_cut [] n fit most least = none_left n (omega (arith, most))
words_cut (w ∷ []) n fit most least = ⊎_elim (λ few. last_word n w [] (omega (arith, least)) few fit.1) whole (cases_lt n 8)
  where
    whole : 8 ≤ n → words_of_bytes (take n (word_bytes w ++ [])) ≡ w ∷ []
    whole many =
        let split : n ≡ 8 + 0 = omega (arith, most, many) in
        ap (λ k. words_of_bytes (take k (word_bytes w ++ []))) split ∙ next_word w 0 [] fit.0
words_cut (w ∷ v ∷ ws) n fit most least =
    let m = n - 8 in
    let split : n ≡ 8 + m = omega (arith, least) in
    ap (λ k. words_of_bytes (take k (flat_map word_bytes (w ∷ v ∷ ws)))) split
    ∙ next_word w m (flat_map word_bytes (v ∷ ws)) fit.0
    ∙ ap (λ (xs : List ℕ). w ∷ xs) (words_cut (v ∷ ws) m fit.2 (omega (arith, most, split)) (omega (arith, least, split)))
