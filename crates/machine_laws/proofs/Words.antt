-- Lists of words: those that are set, joined and repeated.
use Rattle.std.proofs.Common.{◌≡◌, ◌≢◌, ℕ, zero, suc, ◌^◌, ◌<◌, List, [], ◌∷◌, ◌++◌, replicate, slice_index, slice_set, refl, ◌∙◌, sym, arith, get_or-set_other, length-set}
use Rattle.std.specs.List.{AllByRecursion}
use Rattle.rv_machine.specs.Hart.{with_register}
use Rattle.rv_machine.specs.Sound.{AllWords, AreRegisters}

pub words_none : AllWords []
words_none i = omega arith

pub words_first : (x : ℕ) (xs : List ℕ) → x < 2 ^ 64 → AllWords xs → AllWords (x ∷ xs)
words_first x xs small all zero = small
words_first x xs small all (suc i) = all i

pub words_by_parts : (xs : List ℕ) → AllByRecursion (λ x. x < 2 ^ 64) xs → AllWords xs
words_by_parts [] all = words_none
words_by_parts (x ∷ xs) all = words_first x xs all.0 (words_by_parts xs all.1)

pub words_both : (xs ys : List ℕ) → AllWords xs → AllWords ys → AllWords (xs ++ ys)
words_both [] ys a b i = b i
words_both (x ∷ xs) ys a b zero = a zero
words_both (x ∷ xs) ys a b (suc i) = words_both xs ys (λ k. a (suc k)) b i

pub words_repeated : (n word : ℕ) → word < 2 ^ 64 → AllWords (replicate n word)
words_repeated zero word small i = omega arith
words_repeated (suc n) word small zero = small
words_repeated (suc n) word small (suc i) = words_repeated n word small i

pub set_words : (xs : List ℕ) (j value : ℕ) → AllWords xs → value < 2 ^ 64 → AllWords (slice_set xs j value)
set_words [] j value all small i = all i
set_words (x ∷ xs) zero value all small zero = small
set_words (x ∷ xs) zero value all small (suc i) = all (suc i)
set_words (x ∷ xs) (suc j) value all small zero = all zero
set_words (x ∷ xs) (suc j) value all small (suc i) = set_words xs j value (λ k. all (suc k)) small i

-- ---- registers

pub other_register : (rs : List ℕ) (r s v : ℕ) → r ≢ s → slice_index (with_register r v rs) s ≡ slice_index rs s
other_register rs zero s v n = refl
other_register rs (suc r) s v n = get_or-set_other rs (suc r) s v 0 (λ e. n (sym e))

pub with_words :
    (registers : List ℕ) (rd value : ℕ) → AllWords registers → value < 2 ^ 64 →
    AllWords (with_register rd value registers)
with_words registers zero value all small = all
with_words registers (suc rd) value all small = set_words registers (suc rd) value all small

pub with_registers :
    (registers : List ℕ) (rd value : ℕ) → AreRegisters registers → value < 2 ^ 64 →
    AreRegisters (with_register rd value registers)
with_registers registers zero value are small = are
with_registers registers (suc rd) value are small = record {
  count = length-set registers (suc rd) value ∙ are.count;
  x0 = get_or-set_other registers (suc rd) 0 value 0 (λ e. omega arith) ∙ are.x0;
  words = set_words registers (suc rd) value are.words small;
}
