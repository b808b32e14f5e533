-- The members of a set and the bits of its words.
use Rattle.std.proofs.Common.{◌≡◌, ℕ, ◌+◌, ◌*◌, ◌/◌, ◌%◌, ◌^◌, ◌<◌, Bool, true, false, List, length, set, get_or, replicate, subst, sym, ◌∙◌, ap, inl, inr, arith, bit_or, bit_and, w64}
use Rattle.std.specs.Prelude.{◌==◌}
use Rattle.std.specs.Int.{bit_at, bit_not}
use Rattle.std.proofs.lemmas.List.{get_or-set_same, get_or-set_other, length-set, get_or_past, get_or-replicate, length-replicate, get_or_default}
use Rattle.std.proofs.lemmas.List.FromFn.{length-map-range_with_len, get_or-map-range_with_len, fill_by_all}
use Rattle.std.proofs.lemmas.Bool.{cases_eq, cases_lt}
use Rattle.std.proofs.lemmas.Nat.Bits.{bit_at-zero, shr_and_one}
use Rattle.bs_bits.specs.Words.{bit}
use Rattle.bs_bits.specs.Set.{has}
use Rattle.bs_bits.specs.Bits.{set_of_words, IsBits}
use Rattle.bs_bits.proofs.Bit.{with_bit, without_bit, with_bit_same, with_bit_other, without_bit_same, without_bit_other, with_bit_is_bits, without_bit_is_bits, word_within}

pub length-members : (size : ℕ) (words : List ℕ) → length (set_of_words size words) ≡ size
unfolding set_of_words
length-members size words = length-map-range_with_len (λ k. bit words k == 1) 0 size

-- the size of what a `Bits` is seen as
pub size_is : (size : ℕ) (words : List ℕ) (set : List Bool) → set_of_words size words ≡ set → length set ≡ size
size_is size words set e = ap length (sym e) ∙ length-members size words

pub has-members : (size : ℕ) (words : List ℕ) (k : ℕ) → k < size → has (set_of_words size words) k ≡ (bit words k == 1)
unfolding set_of_words
has-members size words k below =
    get_or-map-range_with_len (λ k. bit words k == 1) 0 size k k false below (omega arith)

-- also from the size on
pub has-members_all : (size : ℕ) (words : List ℕ) → IsBits size words → (k : ℕ) → has (set_of_words size words) k ≡ (bit words k == 1)
has-members_all size words bits k =
    elim (cases_lt k size) [
      | inl below ↦ has-members size words k below
      | inr past ↦
          get_or_past (set_of_words size words) k false (omega (arith, length-members size words)) ∙ sym (ap (λ (n : ℕ). n == 1) (bits.rest k past))
    ]

-- a list that says each number's bit is the set
pub members_is : (marks : List Bool) (size : ℕ) (words : List ℕ) → length marks ≡ size → ((k : ℕ) → k < size → has marks k ≡ (bit words k == 1)) → marks ≡ set_of_words size words
unfolding set_of_words
members_is marks size words len each = fill_by_all (λ k. bit words k == 1) marks size false len each

bit-zeros : (words : List ℕ) → (n : ℕ) → words ≡ replicate n 0 → (k : ℕ) → bit words k ≡ 0
bit-zeros words n e k =
    let none : get_or words (k / 64) 0 ≡ 0 =
    ap (λ (ws : List ℕ). get_or ws (k / 64) 0) e ∙ elim (cases_lt (k / 64) n) [
      | inl below ↦ get_or-replicate n (k / 64) 0 0 below
      | inr past ↦ get_or_past (replicate n 0) (k / 64) 0 (omega (arith, length-replicate {A = ℕ} n 0))
    ] in
    ap (λ (w : ℕ). bit_at w (k % 64)) none ∙ bit_at-zero (k % 64)

pub members-empty : (size : ℕ) (words : List ℕ) (n : ℕ) → words ≡ replicate n 0 → set_of_words size words ≡ replicate size false
members-empty size words n e =
    sym
    (members_is
    (replicate size false)
    size
    words
    (length-replicate size false)
    (λ k below. get_or-replicate size k false false below ∙ sym (ap (λ (b : ℕ). b == 1) (bit-zeros words n e k))))

pub empty_is_bits : (size : ℕ) (words : List ℕ) (n : ℕ) → size < 2 ^ 32 → words ≡ replicate n 0 → length words ≡ (size + 63) / 64 → IsBits size words
empty_is_bits size words n small e len = record { small = small; len = len; rest = λ k past. bit-zeros words n e k }

members-with : (size : ℕ) (words : List ℕ) (k : ℕ) → k < size → k / 64 < length words → set_of_words size (with_bit words k) ≡ set (set_of_words size words) k true
members-with size words k below within =
    sym
    (members_is
    (set (set_of_words size words) k true)
    size
    (with_bit words k)
    (length-set (set_of_words size words) k true ∙ length-members size words)
    (λ j less.
    elim (cases_eq j k) [
      | inl same ↦
          ap (λ (n : ℕ). get_or (set (set_of_words size words) k true) n false) same ∙ (get_or-set_same (set_of_words size words) k true false (omega (arith, length-members size words)) ∙ sym (ap (λ (n : ℕ). bit (with_bit words k) n == 1) same ∙ ap (λ (n : ℕ). n == 1) (with_bit_same words k within)))
      | inr other ↦
          get_or-set_other (set_of_words size words) k j true false other ∙ (has-members size words j less ∙ sym (ap (λ (n : ℕ). n == 1) (with_bit_other words k j within other)))
    ]))

members-without : (size : ℕ) (words : List ℕ) (k : ℕ) → k < size → k / 64 < length words → set_of_words size (without_bit words k) ≡ set (set_of_words size words) k false
members-without size words k below within =
    sym
    (members_is
    (set (set_of_words size words) k false)
    size
    (without_bit words k)
    (length-set (set_of_words size words) k false ∙ length-members size words)
    (λ j less.
    elim (cases_eq j k) [
      | inl same ↦
          ap (λ (n : ℕ). get_or (set (set_of_words size words) k false) n false) same ∙ (get_or-set_same (set_of_words size words) k false false (omega (arith, length-members size words)) ∙ sym (ap (λ (n : ℕ). bit (without_bit words k) n == 1) same ∙ ap (λ (n : ℕ). n == 1) (without_bit_same words k within)))
      | inr other ↦
          get_or-set_other (set_of_words size words) k j false false other ∙ (has-members size words j less ∙ sym (ap (λ (n : ℕ). n == 1) (without_bit_other words k j within other)))
    ]))

-- ---- a call of `insert`, `remove` or `contains`, whose word `w` was read from the words

read : (words : List ℕ) (k w : ℕ) → k / 64 < length words → w ≡ get_or words (k / 64) w → w ≡ get_or words (k / 64) 0
read words k w within e = e ∙ get_or_default words (k / 64) w 0 within

pub within_words : (size : ℕ) (words : List ℕ) (marks : List Bool) (k : ℕ) → set_of_words size words ≡ marks → IsBits size words → k < length marks → k / 64 < length words
within_words size words marks k view bits below =
    word_within size k (length words) (omega (arith, size_is size words marks view)) bits.len

pub inserted : (size : ℕ) (words : List ℕ) (marks : List Bool) (k w : ℕ) → set_of_words size words ≡ marks → IsBits size words → k < length marks → w ≡ get_or words (k / 64) w →
    set_of_words size (set words (k / 64) (bit_or w (1 * 2 ^ (k % 64) % 2 ^ 64))) ≡ set marks k true
inserted size words marks k w view bits below e =
    let within : k / 64 < length words = within_words size words marks k view bits below in
    ap (λ (v : ℕ). set_of_words size (set words (k / 64) (bit_or v (1 * 2 ^ (k % 64) % 2 ^ 64)))) (read words k w within e) ∙ (members-with size words k (omega (arith, size_is size words marks view)) within ∙ ap (λ (m : List Bool). set m k true) view)

pub inserted_is_bits : (size : ℕ) (words : List ℕ) (marks : List Bool) (k w : ℕ) → set_of_words size words ≡ marks → IsBits size words → k < length marks → w ≡ get_or words (k / 64) w →
    IsBits size (set words (k / 64) (bit_or w (1 * 2 ^ (k % 64) % 2 ^ 64)))
inserted_is_bits size words marks k w view bits below e =
    let within : k / 64 < length words = within_words size words marks k view bits below in
    let P : ℕ → Type 0 = λ v. IsBits size (set words (k / 64) (bit_or v (1 * 2 ^ (k % 64) % 2 ^ 64))) in
    subst P (sym (read words k w within e)) (with_bit_is_bits size words k (omega (arith, size_is size words marks view)) bits)

pub removed : (size : ℕ) (words : List ℕ) (marks : List Bool) (k w : ℕ) → set_of_words size words ≡ marks → IsBits size words → k < length marks → w ≡ get_or words (k / 64) w →
    set_of_words size (set words (k / 64) (bit_and w (bit_not w64 (1 * 2 ^ (k % 64) % 2 ^ 64)))) ≡ set marks k false
removed size words marks k w view bits below e =
    let within : k / 64 < length words = within_words size words marks k view bits below in
    ap (λ (v : ℕ). set_of_words size (set words (k / 64) (bit_and v (bit_not w64 (1 * 2 ^ (k % 64) % 2 ^ 64))))) (read words k w within e) ∙ (members-without size words k (omega (arith, size_is size words marks view)) within ∙ ap (λ (m : List Bool). set m k false) view)

pub removed_is_bits : (size : ℕ) (words : List ℕ) (marks : List Bool) (k w : ℕ) → set_of_words size words ≡ marks → IsBits size words → k < length marks → w ≡ get_or words (k / 64) w →
    IsBits size (set words (k / 64) (bit_and w (bit_not w64 (1 * 2 ^ (k % 64) % 2 ^ 64))))
removed_is_bits size words marks k w view bits below e =
    let within : k / 64 < length words = within_words size words marks k view bits below in
    let P : ℕ → Type 0 = λ v. IsBits size (set words (k / 64) (bit_and v (bit_not w64 (1 * 2 ^ (k % 64) % 2 ^ 64)))) in
    subst P (sym (read words k w within e)) (without_bit_is_bits size words k (omega (arith, size_is size words marks view)) bits)

pub contained : (size : ℕ) (words : List ℕ) (marks : List Bool) (k w : ℕ) → set_of_words size words ≡ marks → IsBits size words → k < length marks → w ≡ get_or words (k / 64) w →
    (bit_and (w / 2 ^ (k % 64)) 1 == 1) ≡ has marks k
contained size words marks k w view bits below e =
    let within : k / 64 < length words = within_words size words marks k view bits below in
    ap (λ (v : ℕ). v == 1) (shr_and_one w (k % 64)) ∙ (ap (λ (v : ℕ). bit_at v (k % 64) == 1) (read words k w within e) ∙ (sym (has-members_all size words bits k) ∙ ap (λ (m : List Bool). has m k) view))
