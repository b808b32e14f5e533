-- Where a set grew, and where it did not.
use Rattle.std.proofs.Common.{◌≡◌, ◌⊎◌, ℕ, zero, suc, ◌+◌, ◌*◌, ◌/◌, ◌%◌, ◌<◌, Bool, true, false, not, ◌||◌, ◌&&◌, replicate, List, [], ◌∷◌, length, set, get_or, sym, subst, ◌∙◌, ap, inl, inr, arith, refl, max}
use Rattle.std.specs.Prelude.{◌==◌}
use Rattle.std.specs.Int.{bit_at}
use Rattle.std.proofs.lemmas.List.{get_or_past, get_or-set_same, get_or-set_other, get_or-replicate, length-replicate}
use Rattle.std.proofs.lemmas.Bool.{cases_eq, cases_lt, eq-eqb, ne_eqb}
use Rattle.std.proofs.Math.Bool.{and-true, and-false, or-true, or-false}
use Rattle.std.proofs.lemmas.Nat.Bits.{bit_at-lt, bit_at-zero, bit_at_or, same_from_bits_below}
use Rattle.bs_bits.specs.Words.{bit, Ors, Changed, HasNoBitFrom, IsNextBit}
use Rattle.bs_bits.specs.Set.{has, union, Grew, HasNoneFrom, IsNext}
use Rattle.bs_bits.specs.Bits.{set_of_words, IsBits}
use Rattle.bs_bits.proofs.Members.{has-members, has-members_all, members_is, size_is}

-- ---- unions of sets

pub length-union : (xs ys : List Bool) → length (union xs ys) ≡ length xs
length-union [] ys = refl
length-union (x ∷ xs) [] = refl
length-union (x ∷ xs) (y ∷ ys) = ap suc (length-union xs ys)

-- a member of the union is a member of one
pub has-union : (xs ys : List Bool) → length xs ≡ length ys → (k : ℕ) → has (union xs ys) k ≡ (has xs k || has ys k)
has-union [] [] e k = refl
has-union [] (y ∷ ys) e k = absurd (omega (arith, e))
has-union (x ∷ xs) [] e k = absurd (omega (arith, e))
has-union (x ∷ xs) (y ∷ ys) e zero = refl
has-union (x ∷ xs) (y ∷ ys) e (suc k) = has-union xs ys (omega (arith, e)) k

-- the members after an `insert`
pub has-inserted : (xs : List Bool) (k j : ℕ) → k < length xs → has (set xs k true) j ≡ (has xs j || (k == j))
has-inserted xs k j within =
    elim (cases_eq j k) [
      | inl e ↦
          ap (λ (n : ℕ). has (set xs k true) n) e ∙ (get_or-set_same xs k true false within ∙ sym (ap (λ (b : Bool). has xs j || b) (eq-eqb k j (sym e)) ∙ or-true (has xs j)))
      | inr ne ↦
          get_or-set_other xs k j true false ne ∙ (sym (or-false (has xs j)) ∙ ap (λ (b : Bool). has xs j || b) (sym (ne_eqb k j (λ e. ne (sym e)))))
    ]

-- the members after a `remove`
pub has-removed : (xs : List Bool) (k j : ℕ) → k < length xs → has (set xs k false) j ≡ (has xs j && not (k == j))
has-removed xs k j within =
    elim (cases_eq j k) [
      | inl e ↦
          ap (λ (n : ℕ). has (set xs k false) n) e ∙ (get_or-set_same xs k false false within ∙ sym (ap (λ (b : Bool). has xs j && not b) (eq-eqb k j (sym e)) ∙ and-false (has xs j)))
      | inr ne ↦
          get_or-set_other xs k j false false ne ∙ (sym (and-true (has xs j)) ∙ ap (λ (b : Bool). has xs j && not b) (sym (ne_eqb k j (λ e. ne (sym e)))))
    ]

-- the empty set has none
pub has-empty : (size j : ℕ) → has (replicate size false) j ≡ false
has-empty size j =
    elim (cases_lt j size) [
      | inl below ↦ get_or-replicate size j false false below
      | inr past ↦ get_or_past (replicate size false) j false (omega (arith, length-replicate {A = Bool} size false))
    ]

grew_more : (x y : Bool) (xs ys : List Bool) → Grew xs ys → Grew (x ∷ xs) (y ∷ ys)
grew_more x y xs ys g = record { member = suc g.member; before = g.before; now = g.now }

-- a union is the first set, or has a new member
pub union_cases : (xs ys : List Bool) → (union xs ys ≡ xs) ⊎ Grew xs (union xs ys)
union_cases [] ys = inl refl
union_cases (x ∷ xs) [] = inl refl
union_cases (true ∷ xs) (y ∷ ys) =
    elim (union_cases xs ys) [ inl e ↦ inl (ap (λ (zs : List Bool). true ∷ zs) e) | inr g ↦ inr (grew_more true true xs (union xs ys) g) ]
union_cases (false ∷ xs) (true ∷ ys) = inr record { member = 0; before = refl; now = refl }
union_cases (false ∷ xs) (false ∷ ys) =
    elim (union_cases xs ys) [ inl e ↦ inl (ap (λ (zs : List Bool). false ∷ zs) e) | inr g ↦ inr (grew_more false false xs (union xs ys) g) ]

-- ---- unions by words

bit_or_is : (a b : ℕ) → a < 2 → b < 2 → (max a b == 1) ≡ ((a == 1) || (b == 1))
bit_or_is zero zero p q = refl
bit_or_is zero (suc zero) p q = refl
bit_or_is (suc zero) zero p q = refl
bit_or_is (suc zero) (suc zero) p q = refl
bit_or_is (suc (suc a)) b p q = absurd (omega arith)
bit_or_is a (suc (suc b)) p q = absurd (omega arith)

-- a call of `union_with`: the sets, their words, and what the words became
pub record Union (size : ℕ) (words others now : List ℕ) (xs ys : List Bool) : Type 0 where
  pub view : set_of_words size words ≡ xs
  pub other_view : set_of_words size others ≡ ys
  pub bits : IsBits size words
  pub other_bits : IsBits size others
  pub each : Ors words others now

-- two sets of one size, the second with its words lent
pub lent : (size size' : ℕ) (words words' others : List ℕ) (xs ys : List Bool) → set_of_words size words ≡ xs → set_of_words size' words' ≡ ys → length xs ≡ length ys → others ≡ words' → (set_of_words size others ≡ ys) × (size' ≡ size)
lent size size' words words' others xs ys p q len e =
    let same : size' ≡ size = omega (arith, size_is size words xs p, size_is size' words' ys q, len) in
    (ap (λ (n : ℕ). set_of_words n others) (sym same) ∙ (ap (λ (ws : List ℕ). set_of_words size' ws) e ∙ q), same)

pub lent_bits : (size size' : ℕ) (words' others : List ℕ) → size' ≡ size → others ≡ words' → IsBits size' words' → IsBits size others
lent_bits size size' words' others same e bits =
    let P : ℕ → Type 0 = λ n. IsBits n others in
    let Q : List ℕ → Type 0 = λ ws. IsBits size' ws in
    subst P same (subst Q (sym e) bits)

pub same_len : (size size' : ℕ) (words words' others : List ℕ) → size' ≡ size → others ≡ words' → IsBits size words → IsBits size' words' → length words ≡ length others
same_len size size' words words' others same e bits bits' =
    bits.len ∙ (ap (λ (n : ℕ). (n + 63) / 64) (sym same) ∙ (sym bits'.len ∙ ap length (sym e)))

bit-ors : (size : ℕ) (words others ors : List ℕ) (xs ys : List Bool) → Union size words others ors xs ys → (k : ℕ) → bit ors k ≡ max (bit words k) (bit others k)
bit-ors size words others ors xs ys u k =
    elim (cases_lt (k / 64) (length words)) [
      | inl within ↦
          ap (λ (w : ℕ). bit_at w (k % 64)) (u.each.each (k / 64) within) ∙ bit_at_or (get_or words (k / 64) 0) (get_or others (k / 64) 0) (k % 64)
      | inr past ↦
          let a : bit words k ≡ 0 = ap (λ (w : ℕ). bit_at w (k % 64)) (get_or_past words (k / 64) 0 past) ∙ bit_at-zero (k % 64) in
          let b : bit others k ≡ 0 =
          ap (λ (w : ℕ). bit_at w (k % 64)) (get_or_past others (k / 64) 0 (omega (arith, u.bits.len, u.other_bits.len))) ∙ bit_at-zero (k % 64) in
          let o : bit ors k ≡ 0 =
          ap (λ (w : ℕ). bit_at w (k % 64)) (get_or_past ors (k / 64) 0 (omega (arith, u.each.len))) ∙ bit_at-zero (k % 64) in
          omega (arith, a, b, o)
    ]

pub united_is_bits : (size : ℕ) (words others ors : List ℕ) (xs ys : List Bool) → Union size words others ors xs ys → IsBits size ors
united_is_bits size words others ors xs ys u = record {
  small = u.bits.small;
  len = u.each.len ∙ u.bits.len;
  rest = λ k past. omega (arith, bit-ors size words others ors xs ys u k, u.bits.rest k past, u.other_bits.rest k past);
}

pub united : (size : ℕ) (words others ors : List ℕ) (xs ys : List Bool) → Union size words others ors xs ys → set_of_words size ors ≡ union xs ys
united size words others ors xs ys u =
    let p : set_of_words size words ≡ xs = u.view in
    let q : set_of_words size others ≡ ys = u.other_view in
    let lx : length xs ≡ size = size_is size words xs p in
    let ly : length ys ≡ size = size_is size others ys q in
    sym
    (members_is
    (union xs ys)
    size
    ors
    (length-union xs ys ∙ lx)
    (λ k below.
    has-union xs ys (lx ∙ sym ly) k ∙ (ap (λ (m : List Bool). has m k || has ys k) (sym p) ∙ (ap (λ (m : List Bool). has (set_of_words size words) k || has m k) (sym q) ∙ (ap (λ (b : Bool). b || has (set_of_words size others) k) (has-members size words k below) ∙ (ap (λ (b : Bool). (bit words k == 1) || b) (has-members size others k below) ∙ (sym (bit_or_is (bit words k) (bit others k) (bit_at-lt (get_or words (k / 64) 0) (k % 64)) (bit_at-lt (get_or others (k / 64) 0) (k % 64))) ∙ ap (λ (n : ℕ). n == 1) (sym (bit-ors size words others ors xs ys u k)))))))))

-- two lists of words with the same members have the same bits
same_bit : (a b : ℕ) → a < 2 → b < 2 → (a == 1) ≡ (b == 1) → a ≡ b
same_bit zero zero p q e = refl
same_bit zero (suc zero) p q e = cc
same_bit (suc zero) zero p q e = cc
same_bit (suc zero) (suc zero) p q e = refl
same_bit (suc (suc a)) b p q e = absurd (omega arith)
same_bit a (suc (suc b)) p q e = absurd (omega arith)

bit_at_place : (words : List ℕ) (i j : ℕ) → j < 64 → bit words (i * 64 + j) ≡ bit_at (get_or words i 0) j
bit_at_place words i j below =
    let d : (i * 64 + j) / 64 ≡ i = omega arith in
    let m : (i * 64 + j) % 64 ≡ j = omega arith in
    ap (λ (n : ℕ). bit_at (get_or words n 0) ((i * 64 + j) % 64)) d ∙ ap (λ (n : ℕ). bit_at (get_or words i 0) n) m

-- where a word changed, a member is new
pub changed_grew : (size : ℕ) (words ors : List ℕ) → IsBits size words → IsBits size ors → set_of_words size ors ≡ set_of_words size words → Changed words ors → ⊥
changed_grew size words ors bits ors_bits e changed =
    changed.differs
    (same_from_bits_below
    64
    (get_or words changed.at 0)
    (get_or ors changed.at 0)
    changed.old_fits
    changed.new_fits
    (λ j below.
    sym (bit_at_place words changed.at j below) ∙ (same_bit (bit words (changed.at * 64 + j)) (bit ors (changed.at * 64 + j)) (bit_at-lt _ _) (bit_at-lt _ _) (sym (has-members_all size words bits (changed.at * 64 + j)) ∙ (ap (λ (m : List Bool). has m (changed.at * 64 + j)) (sym e) ∙ has-members_all size ors ors_bits (changed.at * 64 + j))) ∙ bit_at_place ors changed.at j below)))

-- a set does not grow to itself
pub grew_not : (xs ys : List Bool) → ys ≡ xs → Grew xs ys → ⊥
grew_not xs ys e g = let h : has xs g.member ≡ true = ap (λ (m : List Bool). has m g.member) (sym e) ∙ g.now in let f : has xs g.member ≡ false = g.before in cc

-- the set grew where a word changed
pub united_grew : (size : ℕ) (words others ors : List ℕ) (xs ys : List Bool) → Union size words others ors xs ys → Changed words ors → Grew xs (set_of_words size ors)
united_grew size words others ors xs ys u changed =
    let e : set_of_words size ors ≡ union xs ys = united size words others ors xs ys u in
    let P : List Bool → Type 0 = λ m. Grew xs m in
    elim (union_cases xs ys) [
      | inl same ↦ absurd (changed_grew size words ors u.bits (united_is_bits size words others ors xs ys u) (e ∙ (same ∙ sym u.view)) changed)
      | inr g ↦ subst P (sym e) g
    ]

-- and there alone
pub united_not : (size : ℕ) (words ors : List ℕ) (xs : List Bool) → set_of_words size words ≡ xs → ors ≡ words → Grew xs (set_of_words size ors) → ⊥
united_not size words ors xs view e g = grew_not xs (set_of_words size ors) (ap (λ (ws : List ℕ). set_of_words size ws) e ∙ view) g

pub grew_iff : (size : ℕ) (words others ors : List ℕ) (xs ys : List Bool) (result : Bool) → Union size words others ors xs ys → (result ≡ false → ors ≡ words) → (result ≡ true → Changed words ors) →
    (result ≡ true → Grew xs (set_of_words size ors)) × (Grew xs (set_of_words size ors) → result ≡ true)
grew_iff size words others ors xs ys true u same changed =
    (λ e. united_grew size words others ors xs ys u (changed refl), λ g. refl)
grew_iff size words others ors xs ys false u same changed =
    (λ e. cc, λ g. absurd (united_not size words ors xs u.view (same refl) g))

-- ---- the next member

pub next_none : (size : ℕ) (words lent_words : List ℕ) (marks : List Bool) (from : ℕ) → set_of_words size words ≡ marks → IsBits size words → lent_words ≡ words → HasNoBitFrom lent_words from → HasNoneFrom marks from
next_none size words lent_words marks from view bits e none k past =
    ap (λ (m : List Bool). has m k) (sym view) ∙ (has-members_all size words bits k ∙ (ap (λ (ws : List ℕ). bit ws k == 1) (sym e) ∙ ap (λ (n : ℕ). n == 1) (none k past)))

pub next_below : (size : ℕ) (words lent_words : List ℕ) (from k : ℕ) → IsBits size words → lent_words ≡ words → IsNextBit lent_words from k → k < size
next_below size words lent_words from k bits e next =
    elim (cases_lt k size) [
      | inl below ↦ below
      | inr past ↦ absurd (omega (arith, bits.rest k past, ap (λ (ws : List ℕ). bit ws k) e, next.is_set))
    ]

pub next_some : (size : ℕ) (words lent_words : List ℕ) (marks : List Bool) (from k : ℕ) → set_of_words size words ≡ marks → IsBits size words → lent_words ≡ words → IsNextBit lent_words from k → IsNext marks from k
next_some size words lent_words marks from k view bits e next =
    let told : (j : ℕ) → has marks j ≡ (bit lent_words j == 1) = λ j.
    ap (λ (m : List Bool). has m j) (sym view) ∙ (has-members_all size words bits j ∙ ap (λ (ws : List ℕ). bit ws j == 1) (sym e)) in
    record {
      not_below = next.not_below;
      member = told k ∙ ap (λ (n : ℕ). n == 1) next.is_set;
      least = λ j past below. told j ∙ ap (λ (n : ℕ). n == 1) (next.least j past below);
    }
