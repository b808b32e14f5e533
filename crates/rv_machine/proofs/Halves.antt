-- Words of 32 bits as words of 64.
use Rattle.std.proofs.Common.{◌≡◌, ℕ, zero, suc, ◌+◌, ◌*◌, ◌^◌, List, [], ◌∷◌, refl, ap, arith, ◌∙◌, sym, slice_index}
use Rattle.rv_machine.specs.Memory.{words_of_halves}

-- past two words, the next ones
doubled : (low high : ℕ) (rest : List ℕ) (i : ℕ) → slice_index (low ∷ high ∷ rest) (2 * suc i) ≡ slice_index rest (2 * i)
doubled low high rest i = let e : 2 * suc i ≡ suc (suc (2 * i)) = omega arith in ap (slice_index (low ∷ high ∷ rest)) e

doubled_one : (low high : ℕ) (rest : List ℕ) (i : ℕ) → slice_index (low ∷ high ∷ rest) (2 * suc i + 1) ≡ slice_index rest (2 * i + 1)
doubled_one low high rest i = let e : 2 * suc i + 1 ≡ suc (suc (2 * i + 1)) = omega arith in ap (slice_index (low ∷ high ∷ rest)) e

nothing : (i : ℕ) → slice_index [] i ≡ 0
nothing i = refl

past_one : (low i : ℕ) → slice_index (low ∷ []) (suc i) ≡ 0
past_one low i = refl

pub word_of_halves : (code : List ℕ) (i : ℕ) → slice_index (words_of_halves code) i ≡ slice_index code (2 * i) + 2 ^ 32 * slice_index code (2 * i + 1)
word_of_halves [] i = refl
word_of_halves (low ∷ []) zero = omega arith
word_of_halves (low ∷ []) (suc i) =
    let e : 2 * suc i ≡ suc (2 * i + 1) = omega arith in
    let f : 2 * suc i + 1 ≡ suc (2 * i + 2) = omega arith in
    sym (ap (λ n. slice_index (low ∷ []) n + 2 ^ 32 * slice_index (low ∷ []) (2 * suc i + 1)) e ∙ ap (λ n. 0 + 2 ^ 32 * slice_index (low ∷ []) n) f)
word_of_halves (low ∷ high ∷ rest) zero = refl
word_of_halves (low ∷ high ∷ rest) (suc i) =
    word_of_halves rest i
    ∙ sym (ap (λ n. n + 2 ^ 32 * slice_index (low ∷ high ∷ rest) (2 * suc i + 1)) (doubled low high rest i)
    ∙ ap (λ n. slice_index rest (2 * i) + 2 ^ 32 * n) (doubled_one low high rest i))
