-- Words of the memory, after others were written.
use Rattle.std.proofs.Common.{◌≡◌, ◌≢◌, ℕ, ◌+◌, ◌%◌, ◌^◌, ◌<◌, ◌≤◌, ◌⊎◌, inl, inr, Bool, true, false, cond, ◌==◌, nat_le, List, [], ◌∷◌, length, map, slice_index, Option, Some, None, option_map, refl, ap, arith, ◌∙◌, sym, subst, get_or-set_same, ⊎_elim}
use Rattle.std.specs.List.{AllByRecursion}
use Rattle.std.specs.Option.{is_some}
use Rattle.std.proofs.lemmas.Bool.{and_parts, leb-true, eqb-true, cases_lt}
use Rattle.rv_machine.specs.Memory.{Region, byte_in, index_in, is_inside, memory_or, or_zero, read, stored_number, with_written, memory_word, write, written}
use Rattle.bs_words.specs.Memory.{part, replaced}
use Rattle.rv_machine.specs.Sound.{IsRegion, extent}
use Rattle.machine_laws.proofs.Memory.{has_write}
use Rattle.moving_laws.specs.Words.{IsFormed, IsReadable}

-- ---- the same place

back_again : (from old v : ℕ) → from ≡ 0 → v < 2 ^ 64 → part (replaced old from 8 v) from 8 ≡ v
back_again from old v e h = subst (λ n. part (replaced old n 8 v) n 8 ≡ v) (sym e) (at_zero old v h) where
  at_zero : (old v : ℕ) → v < 2 ^ 64 → part (replaced old 0 8 v) 0 8 ≡ v
  at_zero old v h = omega arith

inside_parts : (r : Region) (a : ℕ) → is_inside r a 8 ≡ true → (r.start ≤ a) × (a + 8 ≤ r.start + r.bytes)
inside_parts r a h =
    let p = and_parts (nat_le r.start a) (nat_le (a + 8) (r.start + r.bytes)) h in
    (leb-true r.start a p.0, leb-true (a + 8) (r.start + r.bytes) p.1)

read_same_here : (r : Region) (a v : ℕ) → IsRegion r → a % 8 ≡ 0 → is_inside r a 8 ≡ true → v < 2 ^ 64 →
    part (slice_index (with_written r a 8 v).words (index_in r a)) (byte_in r a) 8 ≡ v
read_same_here r a v is x h small =
    let p = inside_parts r a h in
    let i = index_in r a in
    let al = is.aligned in
    let en = is.covered in
    let low : r.start ≤ a = p.0 in
    let high : a + 8 ≤ r.start + r.bytes = p.1 in
    let inside : i < length r.words = omega (arith, al, en, low, high) in
    let none : byte_in r a ≡ 0 = omega (arith, al, low) in
    ap (λ w. part w (byte_in r a) 8) (get_or-set_same r.words i (replaced (slice_index r.words i) (byte_in r a) 8 v) 0 inside)
    ∙ back_again (byte_in r a) (slice_index r.words i) v none small

read_same : (m : List Region) (a v : ℕ) → AllByRecursion IsRegion m → a % 8 ≡ 0 → is_some (read m a 8) ≡ true → v < 2 ^ 64 →
    read (memory_or m (written m a 8 v)) a 8 ≡ Some v
read_same [] a v f x r small = absurd (cc)
read_same (r ∷ rs) a v f x some small = by_test (is_inside r a 8) refl (written rs a 8 v) some (read_same rs a v f.1 x) where
  by_test : (t : Bool) → is_inside r a 8 ≡ t → (o : Option (List Region)) →
      is_some (cond t (Some (part (slice_index r.words (index_in r a)) (byte_in r a) 8)) (read rs a 8)) ≡ true →
      (is_some (read rs a 8) ≡ true → v < 2 ^ 64 → read (memory_or rs o) a 8 ≡ Some v) →
      read (memory_or (r ∷ rs) (cond t (Some (with_written r a 8 v ∷ rs)) (option_map (λ rest. r ∷ rest) o))) a 8 ≡ Some v
  by_test true e o some later =
      ap (λ t. cond t (Some (part (slice_index (with_written r a 8 v).words (index_in r a)) (byte_in r a) 8)) (read rs a 8)) e
      ∙ ap Some (read_same_here r a v f.0 x e small)
  by_test false e None some later =
      ap (λ t. cond t (Some (part (slice_index r.words (index_in r a)) (byte_in r a) 8)) (read rs a 8)) e
      ∙ later some small
  by_test false e (Some new) some later =
      ap (λ t. cond t (Some (part (slice_index r.words (index_in r a)) (byte_in r a) 8)) (read new a 8)) e
      ∙ later some small

aligned_by : (m : List Region) (a : ℕ) (t : Bool) → (a % 8 == 0) ≡ t → is_some (cond t (read m a 8) None) ≡ true → t ≡ true
aligned_by m a true e h = refl
aligned_by m a false e h = absurd (cc)

-- a place that can be read is a multiple of 8
pub readable_even : (m : List Region) (a : ℕ) → IsReadable m a → a % 8 ≡ 0
readable_even m a r = eqb-true (a % 8) 0 (aligned_by m a (a % 8 == 0) refl r.is)

pub word_same : (m : List Region) (a v : ℕ) → IsFormed m → IsReadable m a → v < 2 ^ 64 → memory_word (write m a v) a ≡ v
unfolding memory_word write
word_same m a v f r small = by_test (a % 8 == 0) refl r.is where
  by_test : (t : Bool) → (a % 8 == 0) ≡ t → is_some (cond t (read m a 8) None) ≡ true →
      or_zero (cond t (read (memory_or m (cond t (written m a 8 v) None)) a 8) None) ≡ v
  by_test false e h = absurd (cc)
  by_test true e h = ap or_zero (read_same m a v f.each (eqb-true (a % 8) 0 e) h small)

-- ---- what can be read stays so

some_by :
    (r : Region) (rs : List Region) (a b v : ℕ) (t u : Bool) (o : Option (List Region)) →
    is_some (read (memory_or rs o) b 8) ≡ is_some (read rs b 8) →
    is_some (read (memory_or (r ∷ rs) (cond t (Some (with_written r a 8 v ∷ rs)) (option_map (λ rest. r ∷ rest) o))) b 8) ≡ is_some (read (r ∷ rs) b 8)
some_by r rs a b v true u o later = here (is_inside r b 8) where
  here : (w : Bool) → is_some (cond w (Some (part (slice_index (with_written r a 8 v).words (index_in r b)) (byte_in r b) 8))
      (read rs b 8)) ≡ is_some (cond w (Some (part (slice_index r.words (index_in r b)) (byte_in r b) 8)) (read rs b 8))
  here true = refl
  here false = refl
some_by r rs a b v false u None later = refl
some_by r rs a b v false u (Some new) later = here (is_inside r b 8) where
  here : (w : Bool) → is_some (cond w (Some (part (slice_index r.words (index_in r b)) (byte_in r b) 8))
      (read new b 8)) ≡ is_some (cond w (Some (part (slice_index r.words (index_in r b)) (byte_in r b) 8)) (read rs b 8))
  here true = refl
  here false = later

read_some : (m : List Region) (a b v : ℕ) → is_some (read (memory_or m (written m a 8 v)) b 8) ≡ is_some (read m b 8)
read_some [] a b v = refl
read_some (r ∷ rs) a b v = some_by r rs a b v (is_inside r a 8) true (written rs a 8 v) (read_some rs a b v)

loaded_some : (m : List Region) (a b v : ℕ) (s t : Bool) →
    is_some (cond t (read (memory_or m (cond s (written m a 8 v) None)) b 8) None) ≡ is_some (cond t (read m b 8) None)
loaded_some m a b v s false = refl
loaded_some m a b v false true = refl
loaded_some m a b v true true = read_some m a b v

pub readable_write : (m : List Region) (a b v : ℕ) → IsReadable m b → IsReadable (write m a v) b
unfolding write
readable_write m a b v r = record { is = loaded_some m a b v (a % 8 == 0) (b % 8 == 0) ∙ r.is }

pub readable_back : (m : List Region) (a b v : ℕ) → IsReadable (write m a v) b → IsReadable m b
unfolding write
readable_back m a b v r = record { is = sym (loaded_some m a b v (a % 8 == 0) (b % 8 == 0)) ∙ r.is }

-- what can be read can be written
written_some : (m : List Region) (a v : ℕ) → is_some (written m a 8 v) ≡ is_some (read m a 8)
written_some [] a v = refl
written_some (r ∷ rs) a v = by_test (is_inside r a 8) (written rs a 8 v) (written_some rs a v) where
  by_test : (t : Bool) (o : Option (List Region)) → is_some o ≡ is_some (read rs a 8) →
      is_some (cond t (Some (with_written r a 8 v ∷ rs))
      (option_map (λ rest. r ∷ rest) o)) ≡ is_some (cond t (Some (part (slice_index r.words (index_in r a)) (byte_in r a) 8)) (read rs a 8))
  by_test true o later = refl
  by_test false None later = later
  by_test false (Some new) later = later

some_or : (m : List Region) (o : Option (List Region)) → is_some o ≡ true → o ≡ Some (memory_or m o)
some_or m None h = absurd (cc)
some_or m (Some new) h = refl

pub stored_is : (m : List Region) (a v : ℕ) → IsReadable m a → stored_number m a 8 v ≡ Some (write m a v)
unfolding write
stored_is m a v r = some_or m (stored_number m a 8 v) (by_test (a % 8 == 0) r.is) where
  by_test : (t : Bool) → is_some (cond t (read m a 8) None) ≡ true → is_some (cond t (written m a 8 v) None) ≡ true
  by_test true h = written_some m a v ∙ h
  by_test false h = h

pub formed_write : (m : List Region) (a v : ℕ) → IsFormed m → IsFormed (write m a v)
formed_write m a v f = record { each = (has_write (map extent m) m a v (record { lie = refl; each = f.each })).each }

pub same_or_not : (a b : ℕ) → (a ≡ b) ⊎ (a ≢ b)
same_or_not a b =
    ⊎_elim (λ l. inr (λ e. omega (arith, l, e)))
    (λ l. ⊎_elim (λ k. inr (λ e. omega (arith, k, e))) (λ k. inl (omega (arith, l, k))) (cases_lt b a))
    (cases_lt a b)
