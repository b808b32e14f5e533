-- Bytes as words of 64 bits.
use Rattle.std.proofs.Common.{◌≡◌, ℕ, zero, suc, ◌*◌, ◌<◌, ◌≤◌, List, [], ◌∷◌, ◌++◌, length, take, drop, refl, ap, arith, ◌∙◌, sym, append_assoc}
use Rattle.rv_machine.specs.Memory.{number_from_bytes, words_of_bytes}

-- eight bytes and what comes after them
pub words_of_eight : (xs : List ℕ) → 8 ≤ length xs → words_of_bytes xs ≡ number_from_bytes (take 8 xs) ∷ words_of_bytes (drop 8 xs)
words_of_eight [] h = absurd (omega arith)
words_of_eight (a ∷ []) h = absurd (omega arith)
words_of_eight (a ∷ b ∷ []) h = absurd (omega arith)
words_of_eight (a ∷ b ∷ c ∷ []) h = absurd (omega arith)
words_of_eight (a ∷ b ∷ c ∷ d ∷ []) h = absurd (omega arith)
words_of_eight (a ∷ b ∷ c ∷ d ∷ e ∷ []) h = absurd (omega arith)
words_of_eight (a ∷ b ∷ c ∷ d ∷ e ∷ f ∷ []) h = absurd (omega arith)
words_of_eight (a ∷ b ∷ c ∷ d ∷ e ∷ f ∷ g ∷ []) h = absurd (omega arith)
words_of_eight (a ∷ b ∷ c ∷ d ∷ e ∷ f ∷ g ∷ i ∷ rest) h = refl

-- the last bytes, fewer than eight
pub words_of_few : (xs : List ℕ) → 0 < length xs → length xs < 8 → words_of_bytes xs ≡ number_from_bytes xs ∷ []
words_of_few [] p h = absurd (omega arith)
words_of_few (a ∷ []) p h = refl
words_of_few (a ∷ b ∷ []) p h = refl
words_of_few (a ∷ b ∷ c ∷ []) p h = refl
words_of_few (a ∷ b ∷ c ∷ d ∷ []) p h = refl
words_of_few (a ∷ b ∷ c ∷ d ∷ e ∷ []) p h = refl
words_of_few (a ∷ b ∷ c ∷ d ∷ e ∷ f ∷ []) p h = refl
words_of_few (a ∷ b ∷ c ∷ d ∷ e ∷ f ∷ g ∷ []) p h = refl
words_of_few (a ∷ b ∷ c ∷ d ∷ e ∷ f ∷ g ∷ i ∷ rest) p h = absurd (omega arith)

-- a word read, before what is left
pub words_step : (words xs : List ℕ) → 8 ≤ length xs
    → (words ++ number_from_bytes (take 8 xs) ∷ []) ++ words_of_bytes (drop 8 xs) ≡ words ++ words_of_bytes xs
words_step words xs h = append_assoc words (number_from_bytes (take 8 xs) ∷ []) (words_of_bytes (drop 8 xs)) ∙ ap (λ t. words ++ t) (sym (words_of_eight xs h))

-- there are words for all bytes
pub words_cover : (n : ℕ) (xs : List ℕ) → length xs ≤ n → length xs ≤ 8 * length (words_of_bytes xs)
words_cover n [] h = omega arith
words_cover n (a ∷ []) h = omega arith
words_cover n (a ∷ b ∷ []) h = omega arith
words_cover n (a ∷ b ∷ c ∷ []) h = omega arith
words_cover n (a ∷ b ∷ c ∷ d ∷ []) h = omega arith
words_cover n (a ∷ b ∷ c ∷ d ∷ e ∷ []) h = omega arith
words_cover n (a ∷ b ∷ c ∷ d ∷ e ∷ f ∷ []) h = omega arith
words_cover n (a ∷ b ∷ c ∷ d ∷ e ∷ f ∷ g ∷ []) h = omega arith
words_cover zero (a ∷ b ∷ c ∷ d ∷ e ∷ f ∷ g ∷ i ∷ rest) h = absurd (omega arith)
words_cover (suc n) (a ∷ b ∷ c ∷ d ∷ e ∷ f ∷ g ∷ i ∷ rest) h = let r : length rest ≤ 8 * length (words_of_bytes rest) = words_cover n rest (omega arith) in omega arith
