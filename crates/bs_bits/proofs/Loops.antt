-- The loops over words.
use Rattle.std.proofs.Common.{◌≡◌, ◌≢◌, ◌⊎◌, ℕ, ◌+◌, ◌*◌, ◌/◌, ◌%◌, ◌^◌, ◌<◌, ◌≤◌, ◌-◌, Bool, true, false, not, eqb, List, length, set, get_or, sym, ◌∙◌, ap, inl, inr, arith, refl, bit_or, w64, Fits}
use Rattle.std.specs.Int.{bit_at, trailing_zeros}
use Rattle.std.proofs.lemmas.List.{same_lists, get_or_past, get_or_default, get_or-set_same, get_or-set_other, length-set}
use Rattle.std.proofs.lemmas.Bool.{cases_eq, cases_lt, both_ways, eqb-true, eqb-false, not-false, not-true}
use Rattle.std.proofs.lemmas.Nat.{pow-add}
use Rattle.std.proofs.Math.Nat.{div-div-eq-div-mul, div-le_self}
use Rattle.std.proofs.lemmas.Nat.Bits.{bit_at-zero, bit_at_above, bit_at-trailing_zeros}
use Rattle.std.specs.Int.Bits.{or_lt}
use Rattle.bs_bits.specs.Words.{bit, Ors, Changed, IsNextBit, HasNoBitFrom}

-- ---- add_bits

-- a word below i is another
pub record ChangedBelow (words now : List ℕ) (i : ℕ) : Type 0 where
  pub at : ℕ
  pub within : at < i
  pub differs : get_or words at 0 ≢ get_or now at 0
  pub old_fits : get_or words at 0 < 2 ^ 64
  pub new_fits : get_or now at 0 < 2 ^ 64

-- the words below i have the bits of both, the others are as they were, and `changed` says whether
-- one is another
pub record Adding (words others now : List ℕ) (i : ℕ) (changed : Bool) : Type 0 where
  pub len : length now ≡ length words
  pub done : (j : ℕ) → j < i → get_or now j 0 ≡ bit_or (get_or words j 0) (get_or others j 0)
  pub rest : (j : ℕ) → i ≤ j → get_or now j 0 ≡ get_or words j 0
  pub same : changed ≡ false → (j : ℕ) → j < i → get_or now j 0 ≡ get_or words j 0
  pub differs : changed ≡ true → ChangedBelow words now i

pub adding_none : (words others : List ℕ) → Adding words others words 0 false
adding_none words others = record {
  len = refl;
  done = λ j below. absurd (omega arith);
  rest = λ j past. refl;
  same = λ e j below. absurd (omega arith);
  differs = λ e. cc;
}

-- what the flag says of one word
pub record Tells (changed changed' : Bool) (old new : ℕ) : Type 0 where
  pub same : changed' ≡ false → (changed ≡ false) × (new ≡ old)
  pub differs : changed' ≡ true → (changed ≡ true) ⊎ (new ≢ old)

-- a flag that was set stays set
pub tells_set : (changed changed' : Bool) (old new : ℕ) → changed ≡ true → changed' ≡ changed → Tells changed changed' old new
tells_set changed changed' old new is e = record {
  same = λ f. absurd (both_ways changed (sym e ∙ f) is);
  differs = λ t. inl is;
}

-- one that was not set is set where the word is another
pub tells_now : (changed changed' : Bool) (old new : ℕ) → changed ≡ false → changed' ≡ not (eqb new old) → Tells changed changed' old new
tells_now changed changed' old new is e = record {
  same = λ f. (is, eqb-true new old (not-false (eqb new old) (sym e ∙ f)));
  differs = λ t. inr (eqb-false new old (not-true (eqb new old) (sym e ∙ t)));
}

changed_more : (words now : List ℕ) (i v : ℕ) → ChangedBelow words now i → ChangedBelow words (set now i v) (i + 1)
changed_more words now i v c =
    let ne : c.at ≢ i = omega (arith, c.within) in
    let e : get_or (set now i v) c.at 0 ≡ get_or now c.at 0 = get_or-set_other now i c.at v 0 ne in
    record {
      at = c.at;
      within = omega (arith, c.within);
      differs = λ eq. c.differs (eq ∙ e);
      old_fits = c.old_fits;
      new_fits = omega (arith, e, c.new_fits);
    }

pub adding_more : (words others now : List ℕ) (i : ℕ) (changed changed' : Bool) (w : ℕ) → i < length others → length words ≡ length others → Adding words others now i changed → w ≡ get_or now i w → w < 2 ^ 64 → get_or others i 0 < 2 ^ 64 → Tells changed changed' w (bit_or w (get_or others i 0)) → Adding words others (set now i (bit_or w (get_or others i 0))) (i + 1) changed'
adding_more words others now i changed changed' w below lens a read fits fits' tells =
    let within : i < length now = omega (arith, a.len) in
    let old : w ≡ get_or words i 0 = read ∙ (get_or_default now i w 0 within ∙ a.rest i (omega arith)) in
    let v : ℕ = bit_or w (get_or others i 0) in
    let here : get_or (set now i v) i 0 ≡ v = get_or-set_same now i v 0 within in
    let there : (j : ℕ) → j ≢ i → get_or (set now i v) j 0 ≡ get_or now j 0 = λ j ne. get_or-set_other now i j v 0 ne in
    record {
      len = length-set now i v ∙ a.len;
      done = λ j less. elim (cases_eq j i) [
        | inl e ↦ ap (λ (n : ℕ). get_or (set now i v) n 0) e ∙ (here ∙ (ap (λ (n : ℕ). bit_or n (get_or others i 0)) old ∙ ap (λ (n : ℕ). bit_or (get_or words n 0) (get_or others n 0)) (sym e)))
        | inr ne ↦ there j ne ∙ a.done j (omega arith)
      ];
      rest = λ j past. let ne : j ≢ i = omega arith in there j ne ∙ a.rest j (omega arith);
      same = λ e j less. elim (cases_eq j i) [
        | inl at ↦ ap (λ (n : ℕ). get_or (set now i v) n 0) at ∙ (here ∙ ((tells.same e).1 ∙ (old ∙ ap (λ (n : ℕ). get_or words n 0) (sym at))))
        | inr ne ↦ there j ne ∙ a.same (tells.same e).0 j (omega arith)
      ];
      differs = λ e. elim (tells.differs e) [
        | inl before ↦ changed_more words now i v (a.differs before)
        | inr ne ↦ record { at = i; within = omega arith; differs = λ eq. ne (sym here ∙ (sym eq ∙ sym old)); old_fits = omega (arith, old, fits); new_fits = omega (arith, here, or_lt 64 w (get_or others i 0) fits fits') }
      ];
    }

pub adding_ors : (words others now : List ℕ) (i : ℕ) (changed : Bool) → length words ≤ i → Adding words others now i changed → Ors words others now
adding_ors words others now i changed all a = record { len = a.len; each = λ j below. a.done j (omega arith) }

pub adding_same : (words others now : List ℕ) (i : ℕ) (changed : Bool) → length words ≤ i → Adding words others now i changed → changed ≡ false → now ≡ words
adding_same words others now i changed all a e =
    same_lists now words a.len (λ k d below. get_or_default now k d 0 below ∙ (a.same e k (omega (arith, a.len)) ∙ get_or_default words k 0 d (omega (arith, a.len))))

pub adding_changed : (words others now : List ℕ) (i : ℕ) (changed : Bool) → i ≤ length words → Adding words others now i changed → changed ≡ true → Changed words now
adding_changed words others now i changed within a e =
    let c = a.differs e in
    record { at = c.at; within = omega (arith, c.within); differs = c.differs; old_fits = c.old_fits; new_fits = c.new_fits }

-- ---- next_bit

-- no bit from `from` up to `end` is set
abbrev pub NoBitBetween : List ℕ → ℕ → ℕ → Type 0
NoBitBetween words from end = (k : ℕ) → from ≤ k → k < end → bit words k ≡ 0

-- the bits of what is left of a word after a shift
shifted : (w s t : ℕ) → bit_at (w / 2 ^ s) t ≡ bit_at w (s + t)
shifted w s t = ap (λ (n : ℕ). n % 2) (div-div-eq-div-mul w (2 ^ s) (2 ^ t)) ∙ ap (λ (n : ℕ). w / n % 2) (sym (pow-add 2 s t))

-- the bit of a number of the word of `from`
bit_first : (words : List ℕ) (from k : ℕ) → from ≤ k → k < (from / 64 + 1) * 64 → bit words k ≡ bit_at (get_or words (from / 64) 0 / 2 ^ (from % 64)) (k - from)
bit_first words from k past below =
    let d : k / 64 ≡ from / 64 = omega arith in
    let m : k % 64 ≡ from % 64 + (k - from) = omega arith in
    ap (λ (n : ℕ). bit_at (get_or words n 0) (k % 64)) d ∙ (ap (λ (n : ℕ). bit_at (get_or words (from / 64) 0) n) m ∙ sym (shifted (get_or words (from / 64) 0) (from % 64) (k - from)))

bit_word : (words : List ℕ) (i k : ℕ) → i * 64 ≤ k → k < (i + 1) * 64 → bit words k ≡ bit_at (get_or words i 0) (k - i * 64)
bit_word words i k past below =
    let d : k / 64 ≡ i = omega arith in
    let m : k % 64 ≡ k - i * 64 = omega arith in
    ap (λ (n : ℕ). bit_at (get_or words n 0) (k % 64)) d ∙ ap (λ (n : ℕ). bit_at (get_or words i 0) n) m

pub next_in_first : (words : List ℕ) (from : ℕ) → from / 64 < length words → ((i : ℕ) → Fits w64 (get_or words i 0)) → (get_or words (from / 64) 0 / 2 ^ (from % 64) ≡ 0 → ⊥) → IsNextBit words from (from + trailing_zeros w64 (get_or words (from / 64) 0 / 2 ^ (from % 64)))
next_in_first words from within fits some =
    let w : ℕ = get_or words (from / 64) 0 / 2 ^ (from % 64) in
    let less : w ≤ get_or words (from / 64) 0 = div-le_self (get_or words (from / 64) 0) (2 ^ (from % 64)) in
    let z = bit_at-trailing_zeros w64 w (omega arith) (omega (arith, less, (fits (from / 64)).fits)) in
    let t : ℕ = trailing_zeros w64 w in
    let one : bit_at w t ≡ 1 = z.1 in
    let room : from % 64 + t < 64 = elim (cases_lt (from % 64 + t) 64) [
      | inl below ↦ below
      | inr past ↦ absurd (omega (arith, one, shifted (get_or words (from / 64) 0) (from % 64) t, bit_at_above (get_or words (from / 64) 0) 64 (from % 64 + t) (fits (from / 64)).fits past))
    ] in
    record {
      not_below = omega arith;
      within = omega arith;
      is_set = bit_first words from (from + t) (omega arith) (omega arith) ∙ (let e : from + t - from ≡ t = omega arith in ap (λ (n : ℕ). bit_at w n) e ∙ one);
      least = λ j past below. bit_first words from j past (omega arith) ∙ z.2 (j - from) (omega arith);
    }

pub none_in_first : (words : List ℕ) (from : ℕ) → get_or words (from / 64) 0 / 2 ^ (from % 64) ≡ 0 → NoBitBetween words from ((from / 64 + 1) * 64)
none_in_first words from none k past below =
    bit_first words from k past below ∙ (ap (λ (w : ℕ). bit_at w (k - from)) none ∙ bit_at-zero (k - from))

pub next_in_word : (words : List ℕ) (from i : ℕ) → from / 64 + 1 ≤ i → i < length words → ((i : ℕ) → Fits w64 (get_or words i 0)) → NoBitBetween words from (i * 64) → (get_or words i 0 ≡ 0 → ⊥) → IsNextBit words from (i * 64 + trailing_zeros w64 (get_or words i 0))
next_in_word words from i after within fits before some =
    let w : ℕ = get_or words i 0 in
    let z = bit_at-trailing_zeros w64 w (omega arith) (fits i).fits in
    let t : ℕ = trailing_zeros w64 w in
    let room : t < 64 = z.0 in
    record {
      not_below = omega arith;
      within = omega arith;
      is_set = bit_word words i (i * 64 + t) (omega arith) (omega arith) ∙ (let e : i * 64 + t - i * 64 ≡ t = omega arith in ap (λ (n : ℕ). bit_at w n) e ∙ z.1);
      least = λ j past below. elim (cases_lt j (i * 64)) [
        | inl less ↦ before j past less
        | inr there ↦ bit_word words i j there (omega arith) ∙ z.2 (j - i * 64) (omega arith)
      ];
    }

pub none_in_word : (words : List ℕ) (from i : ℕ) → NoBitBetween words from (i * 64) → get_or words i 0 ≡ 0 → NoBitBetween words from ((i + 1) * 64)
none_in_word words from i before none k past below =
    elim (cases_lt k (i * 64)) [
      | inl less ↦ before k past less
      | inr there ↦ bit_word words i k there below ∙ (ap (λ (w : ℕ). bit_at w (k - i * 64)) none ∙ bit_at-zero (k - i * 64))
    ]

pub none_past : (words : List ℕ) (from i : ℕ) → length words ≤ i → NoBitBetween words from (i * 64) → HasNoBitFrom words from
none_past words from i all before k past =
    elim (cases_lt k (i * 64)) [
      | inl less ↦ before k past less
      | inr there ↦ ap (λ (w : ℕ). bit_at w (k % 64)) (get_or_past words (k / 64) 0 (omega arith)) ∙ bit_at-zero (k % 64)
    ]
