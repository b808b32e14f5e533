-- The words of a memory that have a byte at an address, also where the region ends inside them.
use Rattle.std.proofs.Common.{◌≡◌, ◌≢◌, ℕ, ◌+◌, ◌-◌, ◌%◌, ◌^◌, ◌<◌, ◌≤◌, ◌⊎◌, inl, inr, Bool, true, false, cond, ◌&&◌, ◌||◌, ◌==◌, nat_le, List, [], ◌∷◌, length, map, slice_index, slice_set, Option, Some, None, option_map, refl, ap, arith, ◌∙◌, sym, subst, ⊎_elim, get_or-set_same, get_or-set_other, length-set}
use Rattle.std.specs.List.{AllByRecursion, list_any}
use Rattle.std.specs.Option.{is_some}
use Rattle.std.proofs.lemmas.Bool.{and_from, and_parts, cases_lt, cond-true, cond-false, eq-eqb, eqb-true, le-leb, leb-true, or_left}
use Rattle.std.proofs.lemmas.Option.{same_Some}
use Rattle.std.proofs.Math.Nat.{add-zero}
use Rattle.image_form.specs.Tables.{Tables}
use Rattle.rv_machine.specs.Memory.{Region, byte_in, index_in, is_inside, loaded_number, memory_or, or_zero, read, with_written, memory_word, write, written}
use Rattle.bs_words.specs.Memory.{part, replaced}
use Rattle.rv_machine.specs.Sound.{Extent, HasRegions, IsRegion, IsStackBase, extent, extents}
use Rattle.machine_laws.proofs.Words.{set_words}
use Rattle.machine_laws.proofs.Memory.{apart_in}
use Rattle.bs_words.proofs.Truths.{bool_same}
use Rattle.moving_laws.specs.Words.{IsReadable, held_word}
use Rattle.moving_laws.proofs.Usable.{covered, covers, same_readable}
use Rattle.moving_laws.proofs.Words.{readable_even, stored_is}
use Rattle.moving_laws.proofs.Young.{read_is}

inside_parts : (r : Region) (a w : ℕ) → is_inside r a w ≡ true → (r.start ≤ a) × (a + w ≤ r.start + r.bytes)
inside_parts r a w h =
    let p = and_parts (nat_le r.start a) (nat_le (a + w) (r.start + r.bytes)) h in
    (leb-true r.start a p.0, leb-true (a + w) (r.start + r.bytes) p.1)

inside_from : (r : Region) (a w : ℕ) → r.start ≤ a → a + w ≤ r.start + r.bytes → is_inside r a w ≡ true
inside_from r a w lo hi = and_from (nat_le r.start a) (nat_le (a + w) (r.start + r.bytes)) (le-leb r.start a lo) (le-leb (a + w) (r.start + r.bytes) hi)

pub held_below : (m : List Region) (x : ℕ) → AllByRecursion IsRegion m → held_word m x < 2 ^ 64
held_below [] x each = omega arith
held_below (r ∷ rs) x each = by_test (is_inside r x 1) (held_below rs x each.1)
  where
    by_test : (t : Bool) → held_word rs x < 2 ^ 64 → cond t (slice_index r.words (index_in r x)) (held_word rs x) < 2 ^ 64
    by_test true later = each.0.words (index_in r x)
    by_test false later = later

-- ---- another word is written

set_other : (r : Region) (rest : ℕ) (a b v : ℕ) (t : Bool) → a % 8 ≡ 0 → b % 8 ≡ 0 → a ≢ b → r.start ≤ a → is_inside r b 1 ≡ t →
    cond t (slice_index (slice_set r.words (index_in r a) v) (index_in r b)) rest ≡ cond t (slice_index r.words (index_in r b)) rest
set_other r rest a b v true x y n l h =
    get_or-set_other r.words (index_in r a) (index_in r b) v 0 (apart_in r.start a b x y n l (inside_parts r b 1 h).0)
set_other r rest a b v false x y n l h = refl

held_written : (m : List Region) (a b v : ℕ) → a % 8 ≡ 0 → b % 8 ≡ 0 → a ≢ b → held_word (memory_or m (written m a 8 v)) b ≡ held_word m b
held_written [] a b v x y n = refl
held_written (r ∷ rs) a b v x y n = by_test (is_inside r a 8) (written rs a 8 v) refl (held_written rs a b v x y n)
  where
    by_test : (t : Bool) (o : Option (List Region)) → is_inside r a 8 ≡ t → held_word (memory_or rs o) b ≡ held_word rs b →
        held_word (memory_or (r ∷ rs) (cond t (Some (with_written r a 8 v ∷ rs)) (option_map (λ rest. r ∷ rest) o))) b ≡ held_word (r ∷ rs) b
    by_test true o h later = set_other r (held_word rs b) a b _ (is_inside r b 1) x y n (inside_parts r a 8 h).0 refl
    by_test false None h later = refl
    by_test false (Some new) h later = ap (cond (is_inside r b 1) (slice_index r.words (index_in r b))) later

pub held_other : (m : List Region) (a b v : ℕ) → b % 8 ≡ 0 → a ≢ b → held_word (write m a v) b ≡ held_word m b
unfolding write
held_other m a b v y n = by_test (a % 8 == 0) refl
  where
    by_test : (t : Bool) → (a % 8 == 0) ≡ t → held_word (memory_or m (cond t (written m a 8 v) None)) b ≡ held_word m b
    by_test true e = held_written m a b v (eqb-true (a % 8) 0 e) y n
    by_test false e = refl

-- ---- a word is set, also where the region ends inside it

pub hold : List Region → ℕ → ℕ → List Region
hold [] x z = []
hold (r ∷ rs) x z = cond (is_inside r x 1) (record r { words = slice_set r.words (index_in r x) z } ∷ rs) (r ∷ hold rs x z)

-- a region has a byte there
abbrev pub has_byte : ℕ → Extent → Bool
has_byte x e = nat_le e.start x && nat_le (x + 1) (e.start + e.bytes)

pub record IsHeld (m : List Region) (x : ℕ) : Type 0 where
  pub is : list_any (has_byte x) (map extent m) ≡ true

pub hold_lie : (m : List Region) (x z : ℕ) → map extent (hold m x z) ≡ map extent m
unfolding hold
hold_lie [] x z = refl
hold_lie (r ∷ rs) x z = by_test (is_inside r x 1) (hold_lie rs x z)
  where
    by_test : (t : Bool) → map extent (hold rs x z) ≡ map extent rs →
        map extent (cond t (record r { words = slice_set r.words (index_in r x) z } ∷ rs) (r ∷ hold rs x z)) ≡ map extent (r ∷ rs)
    by_test true later = refl
    by_test false later = ap (λ es. extent r ∷ es) later

hold_each : (m : List Region) (x z : ℕ) → z < 2 ^ 64 → AllByRecursion IsRegion m → AllByRecursion IsRegion (hold m x z)
unfolding hold
hold_each [] x z small each = tt
hold_each (r ∷ rs) x z small each = by_test (is_inside r x 1) (hold_each rs x z small each.1)
  where
    by_test : (t : Bool) → AllByRecursion IsRegion (hold rs x z) →
        AllByRecursion IsRegion (cond t (record r { words = slice_set r.words (index_in r x) z } ∷ rs) (r ∷ hold rs x z))
    by_test true later = (
      record {
        aligned = each.0.aligned;
        covered = let c = each.0.covered in omega (arith, c, length-set r.words (index_in r x) z);
        words = set_words r.words (index_in r x) z each.0.words small;
      },
      each.1,
    )
    by_test false later = (each.0, later)

pub hold_regions : (places : List Extent) (m : List Region) (x z : ℕ) → z < 2 ^ 64 → HasRegions places m → HasRegions places (hold m x z)
hold_regions places m x z small has = record { lie = hold_lie m x z ∙ has.lie; each = hold_each m x z small has.each }

pub readable_hold : (m : List Region) (x y z : ℕ) → IsReadable m y → IsReadable (hold m x z) y
readable_hold m x y z r = same_readable m (hold m x z) y (hold_lie m x z) r

pub hold_other : (m : List Region) (x y z : ℕ) → x % 8 ≡ 0 → y % 8 ≡ 0 → x ≢ y → held_word (hold m x z) y ≡ held_word m y
unfolding hold
hold_other [] x y z e f n = refl
hold_other (r ∷ rs) x y z e f n = by_test (is_inside r x 1) refl (hold_other rs x y z e f n)
  where
    by_test : (t : Bool) → is_inside r x 1 ≡ t → held_word (hold rs x z) y ≡ held_word rs y →
        held_word (cond t (record r { words = slice_set r.words (index_in r x) z } ∷ rs) (r ∷ hold rs x z)) y ≡ held_word (r ∷ rs) y
    by_test true h later = set_other r (held_word rs y) x y z (is_inside r y 1) e f n (inside_parts r x 1 h).0 refl
    by_test false h later = ap (cond (is_inside r y 1) (slice_index r.words (index_in r y))) later

pub hold_same : (m : List Region) (x z : ℕ) → AllByRecursion IsRegion m → IsHeld m x → held_word (hold m x z) x ≡ z
unfolding hold
hold_same m x z each held = by_list m each held.is
  where
    by_list : (m : List Region) → AllByRecursion IsRegion m → list_any (has_byte x) (map extent m) ≡ true → held_word (hold m x z) x ≡ z
    by_list [] each h = absurd (cc)
    by_list (r ∷ rs) each h = by_test (is_inside r x 1) refl h (by_list rs each.1)
      where
        by_test : (t : Bool) → is_inside r x 1 ≡ t → (t || list_any (has_byte x) (map extent rs)) ≡ true →
            (list_any (has_byte x) (map extent rs) ≡ true → held_word (hold rs x z) x ≡ z) →
            held_word (cond t (record r { words = slice_set r.words (index_in r x) z } ∷ rs) (r ∷ hold rs x z)) x ≡ z
        by_test true t h later =
            let p = inside_parts r x 1 t in
            let c = each.0.covered in
            let low : r.start ≤ x = p.0 in
            let high : x + 1 ≤ r.start + r.bytes = p.1 in
            let inside : index_in r x < length r.words = omega (arith, c, low, high) in
            cond-true (is_inside r x 1) (slice_index (slice_set r.words (index_in r x) z) (index_in r x)) (held_word rs x) t
            ∙ get_or-set_same r.words (index_in r x) z 0 inside
        by_test false t h later = cond-false (is_inside r x 1) (slice_index r.words (index_in r x)) (held_word (hold rs x z) x) t ∙ later h

-- the words of 8 bytes elsewhere stay
read_hold : (m : List Region) (x y z : ℕ) → x % 8 ≡ 0 → y % 8 ≡ 0 → x ≢ y → read (hold m x z) y 8 ≡ read m y 8
unfolding hold
read_hold [] x y z e f n = refl
read_hold (r ∷ rs) x y z e f n = by_test (is_inside r x 1) refl (read_hold rs x y z e f n)
  where
    here : (t : Bool) → is_inside r y 8 ≡ t → r.start ≤ x →
        cond t (Some (part (slice_index (slice_set r.words (index_in r x) z) (index_in r y)) (byte_in r y) 8)) (read rs y 8)
        ≡ cond t (Some (part (slice_index r.words (index_in r y)) (byte_in r y) 8)) (read rs y 8)
    here true h l =
        ap (λ k. Some (part k (byte_in r y) 8))
        (get_or-set_other r.words (index_in r x) (index_in r y) z 0 (apart_in r.start x y e f n l (inside_parts r y 8 h).0))
    here false h l = refl

    by_test : (t : Bool) → is_inside r x 1 ≡ t → read (hold rs x z) y 8 ≡ read rs y 8 →
        read (cond t (record r { words = slice_set r.words (index_in r x) z } ∷ rs) (r ∷ hold rs x z)) y 8 ≡ read (r ∷ rs) y 8
    by_test true h later = here (is_inside r y 8) refl (inside_parts r x 1 h).0
    by_test false h later = ap (cond (is_inside r y 8) (Some (part (slice_index r.words (index_in r y)) (byte_in r y) 8))) later

pub word_hold : (m : List Region) (x y z : ℕ) → x % 8 ≡ 0 → x ≢ y → memory_word (hold m x z) y ≡ memory_word m y
unfolding memory_word
word_hold m x y z e n = by_test (y % 8 == 0) refl
  where
    by_test : (t : Bool) → (y % 8 == 0) ≡ t → or_zero (cond t (read (hold m x z) y 8) None) ≡ or_zero (cond t (read m y 8) None)
    by_test true f = ap or_zero (read_hold m x y z e (eqb-true (y % 8) 0 f) n)
    by_test false f = refl

-- ---- accesses of some bytes of a word

-- the region has the first so many bytes of the word at x, or none of it
abbrev pub Shares : ℕ → ℕ → Extent → Type 0
Shares x t e = (e.start % 8 ≡ 0) × ((e.start + e.bytes ≤ x) ⊎ (x + t ≤ e.start + e.bytes))

abbrev pub AllShare : ℕ → ℕ → List Region → Type 0
AllShare x t m = AllByRecursion (λ r. Shares x t (extent r)) m

-- so many bytes, from byte b of the word on
module _ (x b w : ℕ) (some : 1 ≤ w) (even : x % 8 ≡ 0) (inside : b + w ≤ 8) where
  inside_same : (r : Region) → Shares x (b + w) (extent r) → is_inside r (x + b) w ≡ is_inside r x 1
  inside_same r shares =
      bool_same (is_inside r (x + b) w) (is_inside r x 1)
      (λ h.
      let p = inside_parts r (x + b) w h in
      let low : r.start ≤ x + b = p.0 in
      let high : x + b + w ≤ r.start + r.bytes = p.1 in
      let al : r.start % 8 ≡ 0 = shares.0 in
      inside_from r x 1 (omega (arith, low, al, even, some, inside)) (omega (arith, high, some)))
      (λ h.
      let p = inside_parts r x 1 h in
      let low : r.start ≤ x = p.0 in
      let high : x + 1 ≤ r.start + r.bytes = p.1 in
      inside_from r (x + b) w (omega (arith, low))
      (⊎_elim (λ (l : r.start + r.bytes ≤ x). absurd (omega (arith, l, high))) (λ (l : x + (b + w) ≤ r.start + r.bytes). omega (arith, l)) shares.1))

  places : (r : Region) → Shares x (b + w) (extent r) → is_inside r x 1 ≡ true → (index_in r (x + b) ≡ index_in r x) × (byte_in r (x + b) ≡ b)
  places r shares h =
      let low : r.start ≤ x = (inside_parts r x 1 h).0 in
      let al : r.start % 8 ≡ 0 = shares.0 in
      (omega (arith, low, al, even, some, inside), omega (arith, low, al, even, some, inside))

  -- what is read is that part of the held word
  pub read_part : (m : List Region) → AllShare x (b + w) m → list_any (has_byte x) (map extent m) ≡ true → read m (x + b) w ≡ Some (part (held_word m x) b w)
  read_part [] share h = absurd (cc)
  read_part (r ∷ rs) share h = by_test (is_inside r x 1) refl h (read_part rs share.1)
    where
      by_test : (t : Bool) → is_inside r x 1 ≡ t → (t || list_any (has_byte x) (map extent rs)) ≡ true →
          (list_any (has_byte x) (map extent rs) ≡ true → read rs (x + b) w ≡ Some (part (held_word rs x) b w)) →
          read (r ∷ rs) (x + b) w ≡ Some (part (cond t (slice_index r.words (index_in r x)) (held_word rs x)) b w)
      by_test true t h later =
          let at = places r share.0 t in
          cond-true (is_inside r (x + b) w) _ _ (inside_same r share.0 ∙ t)
          ∙ ap Some (ap (λ z. part (slice_index r.words z) (byte_in r (x + b)) w) at.0 ∙ ap (λ z. part (slice_index r.words (index_in r x)) z w) at.1)
      by_test false t h later = cond-false (is_inside r (x + b) w) _ _ (inside_same r share.0 ∙ t) ∙ later h

  -- what is written replaces that part of it
  pub written_part : (m : List Region) (value : ℕ) → AllShare x (b + w) m → list_any (has_byte x) (map extent m) ≡ true →
      written m (x + b) w value ≡ Some (hold m x (replaced (held_word m x) b w value))
  unfolding hold
  written_part [] value share h = absurd (cc)
  written_part (r ∷ rs) value share h = by_test (is_inside r x 1) refl h (written_part rs value share.1)
    where
      by_test : (t : Bool) → is_inside r x 1 ≡ t → (t || list_any (has_byte x) (map extent rs)) ≡ true →
          (list_any (has_byte x) (map extent rs) ≡ true → written rs (x + b) w value ≡ Some (hold rs x (replaced (held_word rs x) b w value))) →
          written (r ∷ rs) (x + b) w value
          ≡ Some (cond t (record r {
            words = slice_set r.words (index_in r x) (replaced (cond t (slice_index r.words (index_in r x)) (held_word rs x)) b w value);
          } ∷ rs) (r ∷ hold rs x (replaced (cond t (slice_index r.words (index_in r x)) (held_word rs x)) b w value)))
      by_test true t h later =
          let at = places r share.0 t in
          cond-true (is_inside r (x + b) w) _ _ (inside_same r share.0 ∙ t)
          ∙ ap (λ i. Some (record r { words = slice_set r.words i (replaced (slice_index r.words i) (byte_in r (x + b)) w value) } ∷ rs)) at.0
          ∙ ap (λ z. Some (record r { words = slice_set r.words (index_in r x) (replaced (slice_index r.words (index_in r x)) z w value) } ∷ rs)) at.1
      by_test false t h later = cond-false (is_inside r (x + b) w) _ _ (inside_same r share.0 ∙ t) ∙ ap (option_map (λ rest. r ∷ rest)) (later h)

-- ---- whole words

part_whole : (k : ℕ) → k < 2 ^ 64 → part k 0 8 ≡ k
part_whole k l = omega (arith, l)

replaced_whole : (old z : ℕ) → old < 2 ^ 64 → z < 2 ^ 64 → replaced old 0 8 z ≡ z
replaced_whole old z l k = omega (arith, l, k)

-- what covers the word has its first byte
covers_byte : (x : ℕ) (es : List Extent) → list_any (covers x) es ≡ true → list_any (has_byte x) es ≡ true
covers_byte x [] h = absurd (cc)
covers_byte x (e ∷ es) h = by_test (covers x e) refl h (covers_byte x es)
  where
    by_some : (t : Bool) (rest : Bool) → (t ≡ true) ⊎ (rest ≡ true) → (t || rest) ≡ true
    by_some true rest h = refl
    by_some false rest (inl h) = absurd (cc)
    by_some false rest (inr h) = h

    by_test : (t : Bool) → covers x e ≡ t → (t || list_any (covers x) es) ≡ true → (list_any (covers x) es ≡ true → list_any (has_byte x) es ≡ true) →
        (has_byte x e || list_any (has_byte x) es) ≡ true
    by_test true t h later =
        let p = and_parts (nat_le e.start x) (nat_le (x + 8) (e.start + e.bytes)) t in
        let high = leb-true (x + 8) (e.start + e.bytes) p.1 in
        by_some (has_byte x e) (list_any (has_byte x) es)
        (inl (and_from (nat_le e.start x) (nat_le (x + 1) (e.start + e.bytes)) p.0 (le-leb (x + 1) (e.start + e.bytes) (omega (arith, high)))))
    by_test false t h later = by_some (has_byte x e) (list_any (has_byte x) es) (inr (later h))

covered_held : (m : List Region) (x : ℕ) → IsReadable m x → IsHeld m x
covered_held m x r = record { is = covers_byte x (map extent m) (covered m x r) }

-- a word of 8 bytes that can be read is the held one
pub held_is : (m : List Region) (x : ℕ) → AllByRecursion IsRegion m → AllShare x 8 m → IsReadable m x → held_word m x ≡ memory_word m x
held_is m x each share r =
    let even = readable_even m x r in
    let h : read m (x + 0) 8 ≡ Some (part (held_word m x) 0 8) = read_part x 0 8 (omega arith) even (omega arith) m share (covered_held m x r).is in
    let g : read m x 8 ≡ Some (part (held_word m x) 0 8) = subst (λ y. read m y 8 ≡ Some (part (held_word m x) 0 8)) (add-zero x) h in
    sym (part_whole (held_word m x) (held_below m x each)) ∙ same_Some _ _ (sym g ∙ read_is m x r)

-- and so it is set as it is written
pub write_hold : (m : List Region) (x z : ℕ) → AllByRecursion IsRegion m → AllShare x 8 m → IsReadable m x → z < 2 ^ 64 → write m x z ≡ hold m x z
write_hold m x z each share r small =
    let even = readable_even m x r in
    let h : written m (x + 0) 8 z ≡ Some (hold m x (replaced (held_word m x) 0 8 z)) =
    written_part x 0 8 (omega arith) even (omega arith) m z share (covered_held m x r).is in
    let g : written m x 8 z ≡ Some (hold m x (replaced (held_word m x) 0 8 z)) =
    subst (λ y. written m y 8 z ≡ Some (hold m x (replaced (held_word m x) 0 8 z))) (add-zero x) h in
    same_Some _ _ (sym (stored_is m x z r) ∙ cond-true (x % 8 == 0) (written m x 8 z) None (eq-eqb (x % 8) 0 even) ∙ g
    ∙ ap (λ k. Some (hold m x k)) (replaced_whole (held_word m x) z (held_below m x each) small))

-- ---- words that cannot be read

pub readable_or_not : (m : List Region) (x : ℕ) → IsReadable m x ⊎ (IsReadable m x → ⊥)
readable_or_not m x = by_test (is_some (loaded_number m x 8)) refl
  where
    by_test : (t : Bool) → is_some (loaded_number m x 8) ≡ t → IsReadable m x ⊎ (IsReadable m x → ⊥)
    by_test true e = inl (record { is = e })
    by_test false e = inr (λ r. let i = r.is in absurd (cc))

pub word_none : (m : List Region) (x : ℕ) → (IsReadable m x → ⊥) → memory_word m x ≡ 0
unfolding memory_word
word_none m x n = by_case (loaded_number m x 8) (λ e. n (record { is = e }))
  where
    by_case : (o : Option ℕ) → (is_some o ≡ true → ⊥) → or_zero o ≡ 0
    by_case None h = refl
    by_case (Some k) h = absurd (h refl)

-- ---- two memories whose regions lie alike

here_is : (r : Region) (rs : List Region) (x v : ℕ) → IsRegion r → x % 8 ≡ 0 → is_inside r x 8 ≡ true → v < 2 ^ 64 →
    held_word (with_written r x 8 v ∷ rs) x ≡ v
here_is r rs x v is e h small =
    let p = inside_parts r x 8 h in
    let al = is.aligned in
    let en = is.covered in
    let low : r.start ≤ x = p.0 in
    let high : x + 8 ≤ r.start + r.bytes = p.1 in
    let inside : index_in r x < length r.words = omega (arith, al, en, low, high) in
    let none : byte_in r x ≡ 0 = omega (arith, al, low) in
    cond-true (is_inside r x 1) _ (held_word rs x) (inside_from r x 1 (omega (arith, low)) (omega (arith, high)))
    ∙ get_or-set_same r.words (index_in r x) (replaced (slice_index r.words (index_in r x)) (byte_in r x) 8 v) 0 inside
    ∙ ap (λ b. replaced (slice_index r.words (index_in r x)) b 8 v) none
    ∙ replaced_whole (slice_index r.words (index_in r x)) v (is.words (index_in r x)) small

or_later : (r : Region) (rs : List Region) (o : Option (List Region)) → memory_or (r ∷ rs) (option_map (λ rest. r ∷ rest) o) ≡ r ∷ memory_or rs o
or_later r rs None = refl
or_later r rs (Some new) = refl

-- where one word is held in both, one is after a write
abbrev AreAlike : (rs rs' : List Region) (x v : ℕ) → Type 0
AreAlike rs rs' x v = map extent rs' ≡ map extent rs → held_word rs' x ≡ held_word rs x →
    held_word (memory_or rs' (written rs' x 8 v)) x ≡ held_word (memory_or rs (written rs x 8 v)) x

held_both : (m m' : List Region) (x v : ℕ) → map extent m' ≡ map extent m → AllByRecursion IsRegion m → AllByRecursion IsRegion m' → x % 8 ≡ 0 →
    v < 2 ^ 64 → held_word m' x ≡ held_word m x → held_word (memory_or m' (written m' x 8 v)) x ≡ held_word (memory_or m (written m x 8 v)) x
held_both [] [] x v lie each each' even small same = refl
held_both [] (r' ∷ rs') x v lie each each' even small same = absurd (cc)
held_both (r ∷ rs) [] x v lie each each' even small same = absurd (cc)
held_both (r ∷ rs) (r' ∷ rs') x v lie each each' even small same =
    by_inside (is_inside r x 8) refl (λ l s. held_both rs rs' x v l each.1 each'.1 even small s)
  where
    first : extent r' ≡ extent r
    first = cc

    rest : map extent rs' ≡ map extent rs
    rest = cc

    inside_as : (w : ℕ) → is_inside r' x w ≡ is_inside r x w
    inside_as w = ap (λ (e : Extent). nat_le e.start x && nat_le (x + w) (e.start + e.bytes)) first

    by_byte : (t : Bool) → is_inside r x 1 ≡ t → AreAlike rs rs' x v →
        held_word (r' ∷ memory_or rs' (written rs' x 8 v)) x ≡ held_word (r ∷ memory_or rs (written rs x 8 v)) x
    by_byte true t later =
        cond-true (is_inside r' x 1) _ _ (inside_as 1 ∙ t)
        ∙ (sym (cond-true (is_inside r' x 1) _ (held_word rs' x) (inside_as 1 ∙ t)) ∙ same ∙ cond-true (is_inside r x 1) _ (held_word rs x) t)
        ∙ sym (cond-true (is_inside r x 1) _ _ t)
    by_byte false t later =
        cond-false (is_inside r' x 1) _ _ (inside_as 1 ∙ t)
        ∙ later rest
        (sym (cond-false (is_inside r' x 1) _ (held_word rs' x) (inside_as 1 ∙ t)) ∙ same ∙ cond-false (is_inside r x 1) _ (held_word rs x) t)
        ∙ sym (cond-false (is_inside r x 1) _ _ t)

    by_inside : (t : Bool) → is_inside r x 8 ≡ t → AreAlike rs rs' x v →
        held_word (memory_or (r' ∷ rs') (written (r' ∷ rs') x 8 v)) x ≡ held_word (memory_or (r ∷ rs) (written (r ∷ rs) x 8 v)) x
    by_inside true t later =
        ap (λ o. held_word (memory_or (r' ∷ rs') o) x) (cond-true (is_inside r' x 8) (Some (with_written r' x 8 v ∷ rs')) _ (inside_as 8 ∙ t))
        ∙ here_is r' rs' x v each'.0 even (inside_as 8 ∙ t) small
        ∙ sym (here_is r rs x v each.0 even t small)
        ∙ sym (ap (λ o. held_word (memory_or (r ∷ rs) o) x) (cond-true (is_inside r x 8) (Some (with_written r x 8 v ∷ rs)) _ t))
    by_inside false t later =
        ap (λ o. held_word (memory_or (r' ∷ rs') o) x) (cond-false (is_inside r' x 8) (Some (with_written r' x 8 v ∷ rs')) _ (inside_as 8 ∙ t))
        ∙ ap (λ q. held_word q x) (or_later r' rs' (written rs' x 8 v))
        ∙ by_byte (is_inside r x 1) refl later
        ∙ sym (ap (λ q. held_word q x) (or_later r rs (written rs x 8 v)))
        ∙ sym (ap (λ o. held_word (memory_or (r ∷ rs) o) x) (cond-false (is_inside r x 8) (Some (with_written r x 8 v ∷ rs)) _ t))

pub held_alike : (m m' : List Region) (x v : ℕ) → map extent m' ≡ map extent m → AllByRecursion IsRegion m → AllByRecursion IsRegion m' → x % 8 ≡ 0 →
    v < 2 ^ 64 → held_word m' x ≡ held_word m x → held_word (write m' x v) x ≡ held_word (write m x v) x
unfolding write
held_alike m m' x v lie each each' even small same =
    ap (λ o. held_word (memory_or m' o) x) (cond-true (x % 8 == 0) (written m' x 8 v) None (eq-eqb (x % 8) 0 even))
    ∙ held_both m m' x v lie each each' even small same
    ∙ sym (ap (λ o. held_word (memory_or m o) x) (cond-true (x % 8 == 0) (written m x 8 v) None (eq-eqb (x % 8) 0 even)))

-- ---- the regions of a machine

all_from : (P : Extent → Type 0) (m : List Region) (es : List Extent) → map extent m ≡ es → AllByRecursion P es → AllByRecursion (λ r. P (extent r)) m
all_from P [] es e all = tt
all_from P (r ∷ rs) [] e all = absurd (cc)
all_from P (r ∷ rs) (x ∷ es) e all =
    let first : extent r ≡ x = cc in
    let rest : map extent rs ≡ es = cc in
    (subst P (sym first) all.0, all_from P rs es rest all.1)

-- so many bytes of a word lie in the data, or the word lies above them
abbrev pub IsDataOrAbove : Tables → ℕ → ℕ → Type 0
IsDataOrAbove image x t = (x + t ≤ 0x10000000 + length image.bytes) ⊎ (0x20000000 ≤ x)

any_high : (x : ℕ) (es : List Extent) → AllByRecursion (λ (e : Extent). 0x20000000 ≤ e.start) es → list_any (covers x) es ≡ true → 0x20000000 ≤ x
any_high x [] high h = absurd (cc)
any_high x (e ∷ es) high h = by_test (covers x e) refl h (any_high x es high.1)
  where
    by_test : (t : Bool) → covers x e ≡ t → (t || list_any (covers x) es) ≡ true → (list_any (covers x) es ≡ true → 0x20000000 ≤ x) → 0x20000000 ≤ x
    by_test true t h later =
        let low = leb-true e.start x (and_parts (nat_le e.start x) (nat_le (x + 8) (e.start + e.bytes)) t).0 in let l = high.0 in omega (arith, low, l)
    by_test false t h later = later h

module _ (image : Tables) (heap base : ℕ) (short : length image.bytes ≤ 16777216) (heap_even : heap % 8 ≡ 0) (stack : IsStackBase base)
    (m : List Region) (has : HasRegions (extents image heap base) m) where
  pub all_share : (x t : ℕ) → t ≤ 8 → x % 8 ≡ 0 → IsDataOrAbove image x t → AllShare x t m
  all_share x t few even at =
      let a = stack.aligned in
      let hi = stack.high in
      let e1 : (0x40000000 - base) % 8 ≡ 0 = omega (arith, a, hi) in
      let e2 : base % 8 ≡ 0 = omega (arith, a) in
      all_from (Shares x t) m (extents image heap base) has.lie (
        (refl, by_data at),
        (
          (refl, whole 0x20000000 4096 refl refl),
          (
            (refl, whole 0x30000000 heap refl heap_even),
            ((refl, whole 0x34000000 heap refl heap_even), ((refl, whole 0x38000000 65536 refl refl), ((e2, whole base (0x40000000 - base) e2 e1), tt))),
          ),
        ),
      )
    where
      whole : (start bytes : ℕ) → start % 8 ≡ 0 → bytes % 8 ≡ 0 → (start + bytes ≤ x) ⊎ (x + t ≤ start + bytes)
      whole start bytes e f = ⊎_elim (λ l. inr (omega (arith, l, e, f, even, few))) (λ l. inl l) (cases_lt x (start + bytes))

      by_data : IsDataOrAbove image x t → (0x10000000 + length image.bytes ≤ x) ⊎ (x + t ≤ 0x10000000 + length image.bytes)
      by_data (inl l) = inr l
      by_data (inr l) = inl (omega (arith, l, short))

  -- a word that can be read is whole
  pub readable_shares : (x : ℕ) → IsReadable m x → AllShare x 8 m
  readable_shares x r =
      all_share x 8 (omega arith) (readable_even m x r)
      (by_test (covers x (record { start = 0x10000000; bytes = length image.bytes })) refl (sym (ap (list_any (covers x)) has.lie) ∙ covered m x r))
    where
      others : List Extent
      others = record { start = 0x20000000; bytes = 4096 } ∷ record { start = 0x30000000; bytes = heap } ∷ record { start = 0x34000000; bytes = heap }
          ∷ record { start = 0x38000000; bytes = 65536 } ∷ record { start = base; bytes = 0x40000000 - base } ∷ []

      by_test : (t : Bool) → covers x (record { start = 0x10000000; bytes = length image.bytes }) ≡ t → (t || list_any (covers x) others) ≡ true →
          IsDataOrAbove image x 8
      by_test true t h =
          inl (leb-true (x + 8) (0x10000000 + length image.bytes) (and_parts (nat_le 0x10000000 x) (nat_le (x + 8) (0x10000000 + length image.bytes)) t).1)
      by_test false t h =
          let lo = stack.low in
          inr (any_high x others (omega arith, (omega arith, (omega arith, (omega arith, (omega (arith, lo), tt))))) h)

  -- a byte of the data
  pub data_held : (x : ℕ) → 0x10000000 ≤ x → x < 0x10000000 + length image.bytes → IsHeld m x
  data_held x lo hi = record {
    is = ap (list_any (has_byte x)) has.lie
        ∙ or_left (has_byte x (record { start = 0x10000000; bytes = length image.bytes })) _
        (and_from (nat_le 0x10000000 x) (nat_le (x + 1) (0x10000000 + length image.bytes)) (le-leb 0x10000000 x lo)
        (le-leb (x + 1) (0x10000000 + length image.bytes) (omega (arith, hi))));
  }

  -- where a word can be read, it is the held one, and is set as it is written
  pub held_readable : (x : ℕ) → IsReadable m x → held_word m x ≡ memory_word m x
  held_readable x r = held_is m x has.each (readable_shares x r) r

  pub hold_readable : (x z : ℕ) → IsReadable m x → z < 2 ^ 64 → hold m x z ≡ write m x z
  hold_readable x z r small = sym (write_hold m x z has.each (readable_shares x r) r small)

  pub readable_held : (x : ℕ) → IsReadable m x → IsHeld m x
  readable_held x r = covered_held m x r
