-- Memories that differ in the limit word alone.
use Rattle.std.proofs.Common.{◌≡◌, ℕ, ◌%◌, ◌^◌, ◌<◌, ◌⊎◌, inl, inr, Bool, true, false, List, map, refl, ap, ◌∙◌, sym, subst, ⊎_elim}
use Rattle.std.specs.List.{AllByRecursion}
use Rattle.rv_machine.specs.Hart.{Hart}
use Rattle.rv_machine.specs.Memory.{Region, memory_word, write}
use Rattle.rv_machine.specs.Places.{domain_start, limit_asked}
use Rattle.rv_machine.specs.Run.{asked}
use Rattle.rv_machine.specs.Sound.{Extent, HasRegions, IsRegion, extent}
use Rattle.machine_laws.proofs.Memory.{has_write, other_word}
use Rattle.moving_laws.specs.Words.{IsFormed, IsReadable, held_word}
use Rattle.moving_laws.proofs.Usable.{same_readable}
use Rattle.moving_laws.proofs.Words.{readable_even, word_same, same_or_not}
use Rattle.moving_laws.proofs.Held.{AllShare, IsHeld, held_alike, held_other, hold, hold_lie, hold_other, hold_regions, hold_same, readable_or_not, word_hold, word_none, write_hold}
use Rattle.lin_machine.specs.View.{IsLike, IsLimit, KnownLimit}

-- ---- the limit word

-- it is the one or the other
pub known_either : (asks : Bool) (m : List Region) → KnownLimit asks m → IsLimit m
known_either true m e = inr e
known_either false m e = e

-- where the mover has asked it is known
pub known_asked : (asks : Bool) (m : List Region) → memory_word m domain_start ≡ limit_asked → KnownLimit asks m
known_asked true m e = e
known_asked false m e = inr e

-- where the word stays, so does what is known
pub known_same : (asks : Bool) (m m' : List Region) → memory_word m' domain_start ≡ memory_word m domain_start → KnownLimit asks m → KnownLimit asks m'
known_same true m m' same e = same ∙ e
known_same false m m' same e = ⊎_elim (λ q. inl (same ∙ q)) (λ q. inr (same ∙ q)) e

-- ---- the other words

pub like_refl : (m : List Region) → AllByRecursion IsRegion m → IsLike m m
like_refl m f = record { words = λ x n. refl; held = λ x e n. refl; lie = refl; each = f }

-- what can be read stays so
pub like_readable : (m m' : List Region) (x : ℕ) → IsLike m m' → IsReadable m x → IsReadable m' x
like_readable m m' x l r = same_readable m m' x l.lie r

pub like_regions : (places : List Extent) (m m' : List Region) → IsLike m m' → HasRegions places m → HasRegions places m'
like_regions places m m' l has = record { lie = l.lie ∙ has.lie; each = l.each }

regions_of : (m : List Region) → AllByRecursion IsRegion m → HasRegions (map extent m) m
regions_of m f = record { lie = refl; each = f }

pub like_limit : (m m' : List Region) (v : ℕ) → IsLike m m' → IsLike m (write m' domain_start v)
like_limit m m' v l =
    let h = has_write (map extent m') m' domain_start v (regions_of m' l.each) in
    record {
      words = λ x n. other_word m' domain_start x v (λ e. n (sym e)) ∙ l.words x n;
      held = λ x even n. held_other m' domain_start x v even (λ e. n (sym e)) ∙ l.held x even n;
      lie = h.lie ∙ l.lie;
      each = h.each;
    }

-- an ask is a write of the limit word
pub asked_is : (h : Hart) → asked h ≡ record h { memory = write h.memory domain_start limit_asked }
unfolding write
asked_is h = refl

pub like_write : (m m' : List Region) (x v : ℕ) → AllByRecursion IsRegion m → IsReadable m x → v < 2 ^ 64 → IsLike m m' → IsLike (write m x v) (write m' x v)
like_write m m' x v f r small l =
    let h = has_write (map extent m) m x v (regions_of m f) in
    let h' = has_write (map extent m') m' x v (regions_of m' l.each) in
    let formed : IsFormed m = record { each = f } in
    let formed' : IsFormed m' = record { each = l.each } in
    record {
      words = λ y n. ⊎_elim
          (λ (e : x ≡ y). subst (λ z. memory_word (write m' x v) z ≡ memory_word (write m x v) z) e
          (word_same m' x v formed' (like_readable m m' x l r) small ∙ sym (word_same m x v formed r small)))
          (λ ne. other_word m' x y v ne ∙ l.words y n ∙ sym (other_word m x y v ne))
          (same_or_not x y);
      held = λ y even n. ⊎_elim
          (λ (e : x ≡ y). subst (λ z. held_word (write m' x v) z ≡ held_word (write m x v) z) e
          (held_alike m m' x v l.lie f l.each (readable_even m x r) small (l.held x (readable_even m x r) (λ q. n (sym e ∙ q)))))
          (λ ne. held_other m' x y v even ne ∙ l.held y even n ∙ sym (held_other m x y v even ne))
          (same_or_not x y);
      lie = h'.lie ∙ l.lie ∙ sym h.lie;
      each = h'.each;
    }

-- also where the region ends inside the word that is set
pub like_hold : (m m' : List Region) (x z : ℕ) → AllByRecursion IsRegion m → (IsReadable m x → AllShare x 8 m) → (IsReadable m' x → AllShare x 8 m') →
    x % 8 ≡ 0 → IsHeld m x → IsHeld m' x → z < 2 ^ 64 → IsLike m m' → IsLike (hold m x z) (hold m' x z)
like_hold m m' x z f whole whole' even held held' small l = record {
  words = λ y n. ⊎_elim (λ (e : x ≡ y). subst (λ q. memory_word (hold m' x z) q ≡ memory_word (hold m x z) q) e (here (readable_or_not m x)))
      (λ ne. word_hold m' x y z even ne ∙ l.words y n ∙ sym (word_hold m x y z even ne)) (same_or_not x y);
  held = λ y e n. ⊎_elim
      (λ (q : x ≡ y). subst (λ k. held_word (hold m' x z) k ≡ held_word (hold m x z) k) q (hold_same m' x z l.each held' ∙ sym (hold_same m x z f held)))
      (λ ne. hold_other m' x y z even e ne ∙ l.held y e n ∙ sym (hold_other m x y z even e ne)) (same_or_not x y);
  lie = hold_lie m' x z ∙ l.lie ∙ sym (hold_lie m x z);
  each = (hold_regions (map extent m') m' x z small (regions_of m' l.each)).each;
}
  where
    -- the word of 8 bytes there, if there is one
    here : IsReadable m x ⊎ (IsReadable m x → ⊥) → memory_word (hold m' x z) x ≡ memory_word (hold m x z) x
    here (inl r) =
        let r' = like_readable m m' x l r in
        ap (λ k. memory_word k x) (sym (write_hold m' x z l.each (whole' r') r' small)) ∙ word_same m' x z (record { each = l.each }) r' small
        ∙ sym (word_same m x z (record { each = f }) r small) ∙ ap (λ k. memory_word k x) (write_hold m x z f (whole r) r small)
    here (inr none) =
        word_none (hold m' x z) x (λ r. none (same_readable m' m x (sym l.lie) (same_readable (hold m' x z) m' x (sym (hold_lie m' x z)) r)))
        ∙ sym (word_none (hold m x z) x (λ r. none (same_readable (hold m x z) m x (sym (hold_lie m x z)) r)))
