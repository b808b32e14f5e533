-- Which words of a machine's memory can be read and written, by the regions in which they lie.
use Rattle.std.proofs.Common.{◌≡◌, ℕ, zero, suc, ◌+◌, ◌-◌, ◌%◌, ◌<◌, ◌≤◌, Bool, true, false, cond, ◌&&◌, ◌||◌, ◌==◌, nat_le, List, [], ◌∷◌, map, length, Option, Some, None, slice_index, slice_get, refl, ap, arith, ◌∙◌, sym, subst}
use Rattle.std.specs.List.{list_any}
use Rattle.std.specs.Option.{is_some}
use Rattle.std.proofs.lemmas.Bool.{and_from, le-leb, eq-eqb, or_left, or_right}
use Rattle.image_form.specs.Tables.{Tables}
use Rattle.rv_machine.specs.Memory.{Region, byte_in, index_in, is_inside, read}
use Rattle.bs_words.specs.Memory.{part}
use Rattle.rv_machine.specs.Observation.{young_start, young_top}
use Rattle.rv_machine.specs.Places.{stack_end}
use Rattle.rv_machine.specs.Sound.{Extent, HasRegions, extent, extents}
use Rattle.moving_laws.specs.Words.{IsFormed, IsReadable}

-- a word at the address lies whole there
abbrev pub covers : ℕ → Extent → Bool
covers a e = nat_le e.start a && nat_le (a + 8) (e.start + e.bytes)

read_some : (m : List Region) (a : ℕ) → is_some (read m a 8) ≡ list_any (covers a) (map extent m)
read_some [] a = refl
read_some (r ∷ rs) a = by_test (is_inside r a 8) (read_some rs a)
  where
    by_test :
        (t : Bool) → is_some (read rs a 8) ≡ list_any (covers a) (map extent rs) →
        is_some (cond t (Some (part (slice_index r.words (index_in r a)) (byte_in r a) 8)) (read rs a 8)) ≡ (t || list_any (covers a) (map extent rs))
    by_test true later = refl
    by_test false later = later

-- what can be read is covered by a region
pub covered : (m : List Region) (a : ℕ) → IsReadable m a → list_any (covers a) (map extent m) ≡ true
covered m a r = sym (read_some m a) ∙ by_test (a % 8 == 0) r.is
  where
    by_test : (t : Bool) → is_some (cond t (read m a 8) None) ≡ true → is_some (read m a 8) ≡ true
    by_test true h = h
    by_test false h = absurd (cc)

some_if : (t : Bool) (o : Option ℕ) → t ≡ true → is_some o ≡ true → is_some (cond t o None) ≡ true
some_if true o e h = h
some_if false o e h = absurd (cc)

pub readable_covered : (places : List Extent) (m : List Region) (a : ℕ) → HasRegions places m → a % 8 ≡ 0 → list_any (covers a) places ≡ true → IsReadable m a
readable_covered places m a has e h = record {
  is = some_if (a % 8 == 0) (read m a 8) (eq-eqb (a % 8) 0 e) (read_some m a ∙ ap (list_any (covers a)) has.lie ∙ h);
}

pub formed_regions : (places : List Extent) (m : List Region) → HasRegions places m → IsFormed m
formed_regions places m has = record { each = has.each }

covers_by : (a start bytes : ℕ) → start ≤ a → a + 8 ≤ start + bytes → covers a (record { start = start; bytes = bytes }) ≡ true
covers_by a start bytes lo hi = and_from (nat_le start a) (nat_le (a + 8) (start + bytes)) (le-leb start a lo) (le-leb (a + 8) (start + bytes) hi)

any_at : (a : ℕ) (places : List Extent) (k : ℕ) (e : Extent) → slice_get places k ≡ Some e → covers a e ≡ true → list_any (covers a) places ≡ true
any_at a [] k e is h = absurd (cc)
any_at a (p ∷ ps) zero e is h =
    let same : p ≡ e = cc in
    or_left (covers a p) (list_any (covers a) ps) (subst (λ q. covers a q ≡ true) (sym same) h)
any_at a (p ∷ ps) (suc k) e is h = or_right (covers a p) (list_any (covers a) ps) (any_at a ps k e is h)

-- by the region of a machine in which the word lies
module _ (image : Tables) (heap base : ℕ) (m : List Region) (has : HasRegions (extents image heap base) m) where
  by_region : (a k start bytes : ℕ) → a % 8 ≡ 0 → slice_get (extents image heap base) k ≡ Some (record { start = start; bytes = bytes }) →
      start ≤ a → a + 8 ≤ start + bytes → IsReadable m a
  by_region a k start bytes e is lo hi =
      readable_covered (extents image heap base) m a has e
      (any_at a (extents image heap base) k (record { start = start; bytes = bytes }) is (covers_by a start bytes lo hi))

  pub data_readable : (a : ℕ) → a % 8 ≡ 0 → 0x10000000 ≤ a → a + 8 ≤ 0x10000000 + length image.bytes → IsReadable m a
  data_readable a e lo hi = by_region a 0 0x10000000 (length image.bytes) e refl lo hi

  pub limit_readable : IsReadable m 0x20000000
  limit_readable = by_region 0x20000000 1 0x20000000 4096 refl refl (omega arith) (omega arith)

  pub first_readable : (a : ℕ) → a % 8 ≡ 0 → 0x30000000 ≤ a → a + 8 ≤ 0x30000000 + heap → IsReadable m a
  first_readable a e lo hi = by_region a 2 0x30000000 heap e refl lo hi

  pub second_readable : (a : ℕ) → a % 8 ≡ 0 → 0x34000000 ≤ a → a + 8 ≤ 0x34000000 + heap → IsReadable m a
  second_readable a e lo hi = by_region a 3 0x34000000 heap e refl lo hi

  pub young_readable : (a : ℕ) → a % 8 ≡ 0 → young_start ≤ a → a < young_top → IsReadable m a
  young_readable a e lo hi = by_region a 4 young_start 65536 e refl lo (omega (arith, hi, e))

  pub stack_readable : (a : ℕ) → a % 8 ≡ 0 → base ≤ a → a + 8 ≤ stack_end → IsReadable m a
  stack_readable a e lo hi = by_region a 5 base (stack_end - base) e refl lo (omega (arith, lo, hi))

-- ---- memories whose regions lie alike

pub same_readable : (m m' : List Region) (a : ℕ) → map extent m' ≡ map extent m → IsReadable m a → IsReadable m' a
same_readable m m' a lie r = record { is = by_test (a % 8 == 0) r.is }
  where
    same : is_some (read m' a 8) ≡ is_some (read m a 8)
    same = read_some m' a ∙ ap (list_any (covers a)) lie ∙ sym (read_some m a)

    by_test : (t : Bool) → is_some (cond t (read m a 8) None) ≡ true → is_some (cond t (read m' a 8) None) ≡ true
    by_test true h = same ∙ h
    by_test false h = h
