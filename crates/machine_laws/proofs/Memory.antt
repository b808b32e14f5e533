-- What a write keeps: where the regions lie, that they hold words, and every other word.
use Rattle.std.proofs.Common.{◌≡◌, ◌≢◌, ℕ, suc, ◌+◌, ◌-◌, ◌*◌, ◌/◌, ◌%◌, ◌^◌, ◌<◌, ◌≤◌, inl, inr, Bool, true, false, cond, ◌==◌, nat_le, List, [], ◌∷◌, map, replicate, slice_index, Option, Some, None, option_map, refl, ap, arith, ◌∙◌, subst, get_or-set_other, length-set}
use Rattle.std.proofs.Math.Nat.{mod-lt}
use Rattle.std.proofs.lemmas.Nat.{pow_pos}
use Rattle.std.proofs.lemmas.Bool.{and_parts, leb-true, eqb-true}
use Rattle.rv_machine.proofs.Bytes.{replaced-below}
use Rattle.rv_machine.specs.Hart.{Placed}
use Rattle.rv_machine.specs.Memory.{Region, byte_in, index_in, is_inside, loaded_number, memory_or, or_zero, put, read, stored_number, with_written, memory_word, write, written}
use Rattle.rv_machine.specs.Moving.{copied, moved_memory, redirected, rewritten, rewritten_block, vacated}
use Rattle.rv_machine.specs.Placement.{header_address}
use Rattle.rv_machine.specs.Places.{filler}
use Rattle.rv_machine.specs.Sound.{Extent, HasRegions, IsRegion, extent}
use Rattle.bs_words.specs.Memory.{IsWidth, part, replaced}
use Rattle.machine_laws.proofs.Words.{set_words}

-- ---- the bytes of an access

inside_low : (r : Region) (a w : ℕ) → is_inside r a w ≡ true → r.start ≤ a
inside_low r a w h = leb-true r.start a (and_parts (nat_le r.start a) (nat_le (a + w) (r.start + r.bytes)) h).0

-- an aligned access lies in one word
in_a_word : (start a w : ℕ) → IsWidth w → a % w ≡ 0 → start % 8 ≡ 0 → start ≤ a → (a - start) % 8 + w ≤ 8
in_a_word start a w (inl e) m s l = omega arith
in_a_word start a w (inr (inl e)) m s l = let n : a % 2 ≡ 0 = subst (λ k. a % k ≡ 0) e m in omega arith
in_a_word start a w (inr (inr (inl e))) m s l = let n : a % 4 ≡ 0 = subst (λ k. a % k ≡ 0) e m in omega arith
in_a_word start a w (inr (inr (inr e))) m s l = let n : a % 8 ≡ 0 = subst (λ k. a % k ≡ 0) e m in omega arith

-- what is read is no more than its bytes hold
pub read_below : (m : List Region) (a w n : ℕ) → read m a w ≡ Some n → n < 2 ^ (8 * w)
read_below [] a w n e = absurd (cc)
read_below (r ∷ rs) a w n e = by_test (is_inside r a w) (read_below rs a w n) e
  where
    by_test :
        (t : Bool) → (read rs a w ≡ Some n → n < 2 ^ (8 * w)) →
        cond t (Some (part (slice_index r.words (index_in r a)) (byte_in r a) w)) (read rs a w) ≡ Some n → n < 2 ^ (8 * w)
    by_test true later e =
        let same : part (slice_index r.words (index_in r a)) (byte_in r a) w ≡ n = cc in
        subst (λ k. k < 2 ^ (8 * w)) same (mod-lt (slice_index r.words (index_in r a) / 2 ^ (8 * byte_in r a)) (pow_pos (8 * w)))
    by_test false later e = later e

pub loaded_below : (m : List Region) (a w n : ℕ) → loaded_number m a w ≡ Some n → n < 2 ^ (8 * w)
loaded_below m a w n e = by_test (a % w == 0) e
  where
    by_test : (t : Bool) → cond t (read m a w) None ≡ Some n → n < 2 ^ (8 * w)
    by_test true e = read_below m a w n e
    by_test false e = absurd (cc)

pub word_below : (m : List Region) (a : ℕ) → memory_word m a < 2 ^ 64
unfolding memory_word
word_below m a = by_case (loaded_number m a 8) (loaded_below m a 8)
  where
    by_case : (o : Option ℕ) → ((n : ℕ) → o ≡ Some n → n < 2 ^ (8 * 8)) → or_zero o < 2 ^ 64
    by_case None h = omega arith
    by_case (Some n) h = let small : n < 2 ^ (8 * 8) = h n refl in omega arith

-- ---- a write keeps the regions

region_written :
    (r : Region) (a w v : ℕ) → IsWidth w → a % w ≡ 0 → r.start ≤ a → IsRegion r → IsRegion (with_written r a w v)
region_written r a w v width even low is =
    let i = index_in r a in
    let new = replaced (slice_index r.words i) (byte_in r a) w v in
    record {
      aligned = is.aligned;
      covered = let c = is.covered in omega (arith, c, length-set r.words i new);
      words = set_words r.words i new is.words (replaced-below (slice_index r.words i) (byte_in r a) w v (in_a_word r.start a w width even is.aligned low) (is.words i));
    }

pub has_written :
    (places : List Extent) (m : List Region) (a w v : ℕ) → IsWidth w → a % w ≡ 0 → HasRegions places m →
    HasRegions places (memory_or m (written m a w v))
has_written places [] a w v width even has = has
has_written places (r ∷ rs) a w v width even has =
    by_test (is_inside r a w) refl (written rs a w v)
    (has_written (map extent rs) rs a w v width even (record { lie = refl; each = has.each.1 }))
  where
    by_test :
        (t : Bool) → is_inside r a w ≡ t → (o : Option (List Region)) → HasRegions (map extent rs) (memory_or rs o) →
        HasRegions places (memory_or (r ∷ rs) (cond t (Some (with_written r a w v ∷ rs)) (option_map (λ rest. r ∷ rest) o)))
    by_test true e o later = record {
      lie = has.lie;
      each = (region_written r a w v width even (inside_low r a w e) has.each.0, has.each.1);
    }
    by_test false e None later = has
    by_test false e (Some new) later = record {
      lie = ap (λ es. extent r ∷ es) later.lie ∙ has.lie;
      each = (has.each.0, later.each);
    }

pub has_stored :
    (places : List Extent) (m : List Region) (a w v : ℕ) → IsWidth w → HasRegions places m →
    HasRegions places (memory_or m (stored_number m a w v))
has_stored places m a w v width has = by_test (a % w == 0) refl
  where
    by_test : (t : Bool) → (a % w == 0) ≡ t → HasRegions places (memory_or m (cond t (written m a w v) None))
    by_test true e = has_written places m a w v width (eqb-true (a % w) 0 e) has
    by_test false e = has

pub has_write : (places : List Extent) (m : List Region) (a v : ℕ) → HasRegions places m → HasRegions places (write m a v)
unfolding write
has_write places m a v has = has_stored places m a 8 v (inr (inr (inr refl))) has

pub has_put : (places : List Extent) (m : List Region) (a : ℕ) (ws : List ℕ) → HasRegions places m → HasRegions places (put m a ws)
has_put places m a [] has = has
has_put places m a (w ∷ ws) has = has_put places (write m a w) (a + 8) ws (has_write places m a w has)

-- ---- so does the move of blocks

has_redirected :
    (places : List Extent) (f : ℕ → ℕ) (old m : List Region) (as' : List ℕ) → HasRegions places m →
    HasRegions places (redirected f old m as')
has_redirected places f old m [] has = has
has_redirected places f old m (a ∷ as') has =
    has_redirected places f old (write m a (f (memory_word old a))) as' (has_write places m a (f (memory_word old a)) has)

has_vacated : (places : List Extent) (m : List Region) (bs : List Placed) → HasRegions places m → HasRegions places (vacated m bs)
has_vacated places m [] has = has
has_vacated places m (b ∷ bs) has =
    has_vacated places (put m (header_address b) (replicate (suc b.words) filler)) bs (has_put places m (header_address b) (replicate (suc b.words) filler) has)

has_copied :
    (places : List Extent) (f : ℕ → ℕ) (old m : List Region) (os ns : List Placed) → HasRegions places m →
    HasRegions places (copied f old m os ns)
has_copied places f old m [] ns has = has
has_copied places f old m (o ∷ os) [] has = has
has_copied places f old m (o ∷ os) (n ∷ ns) has =
    has_copied places f old (put m (header_address n) (rewritten_block f old o)) os ns (has_put places m (header_address n) (rewritten_block f old o) has)

pub has_moved :
    (places : List Extent) (olds news : List Placed) (m : List Region) (as' : List ℕ) → HasRegions places m →
    HasRegions places (moved_memory olds news m as')
unfolding moved_memory
has_moved places olds news m as' has =
    let f = rewritten olds news in
    has_copied places f m (vacated (redirected f m m as') olds) olds news
    (has_vacated places (redirected f m m as') olds (has_redirected places f m m as' has))

-- ---- another word stays

-- two places of a region have two words
pub apart_in : (start a b : ℕ) → a % 8 ≡ 0 → b % 8 ≡ 0 → a ≢ b → start ≤ a → start ≤ b → (b - start) / 8 ≢ (a - start) / 8
apart_in start a b x y n h k = omega arith

read_here :
    (r : Region) (rs : List Region) (a b v : ℕ) (t : Bool) → a % 8 ≡ 0 → b % 8 ≡ 0 → a ≢ b → is_inside r a 8 ≡ true → is_inside r b 8 ≡ t →
    cond t (Some (part (slice_index (with_written r a 8 v).words (index_in r b)) (byte_in r b) 8)) (read rs b 8)
    ≡ cond t (Some (part (slice_index r.words (index_in r b)) (byte_in r b) 8)) (read rs b 8)
read_here r rs a b v true x y n h k =
    ap (λ w. Some (part w (byte_in r b) 8))
    (get_or-set_other r.words (index_in r a) (index_in r b) _ 0 (apart_in r.start a b x y n (inside_low r a 8 h) (inside_low r b 8 k)))
read_here r rs a b v false x y n h k = refl

read_by :
    (r : Region) (rs : List Region) (a b v : ℕ) (t : Bool) (o : Option (List Region)) → a % 8 ≡ 0 → b % 8 ≡ 0 → a ≢ b → is_inside r a 8 ≡ t →
    read (memory_or rs o) b 8 ≡ read rs b 8 →
    read (memory_or (r ∷ rs) (cond t (Some (with_written r a 8 v ∷ rs)) (option_map (λ rest. r ∷ rest) o))) b 8 ≡ read (r ∷ rs) b 8
read_by r rs a b v true o x y n h later = read_here r rs a b v (is_inside r b 8) x y n h refl
read_by r rs a b v false None x y n h later = refl
read_by r rs a b v false (Some new) x y n h later =
    ap (λ (o : Option ℕ). cond (is_inside r b 8) (Some (part (slice_index r.words (index_in r b)) (byte_in r b) 8)) o) later

read_other : (m : List Region) (a b v : ℕ) → a % 8 ≡ 0 → b % 8 ≡ 0 → a ≢ b → read (memory_or m (written m a 8 v)) b 8 ≡ read m b 8
read_other [] a b v x y n = refl
read_other (r ∷ rs) a b v x y n = read_by r rs a b v (is_inside r a 8) (written rs a 8 v) x y n refl (read_other rs a b v x y n)

word_by :
    (m : List Region) (a b v : ℕ) (s t : Bool) → (a % 8 == 0) ≡ s → (b % 8 == 0) ≡ t → a ≢ b →
    or_zero (cond t (read (memory_or m (cond s (written m a 8 v) None)) b 8) None) ≡ or_zero (cond t (read m b 8) None)
word_by m a b v s false e k n = refl
word_by m a b v false true e k n = refl
word_by m a b v true true e k n = ap or_zero (read_other m a b v (eqb-true (a % 8) 0 e) (eqb-true (b % 8) 0 k) n)

pub other_word : (m : List Region) (a b v : ℕ) → a ≢ b → memory_word (write m a v) b ≡ memory_word m b
unfolding memory_word write
other_word m a b v n = word_by m a b v (a % 8 == 0) (b % 8 == 0) refl refl n
