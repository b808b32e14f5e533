-- What copying, vacating and redirecting leave in the memory.
use Rattle.std.proofs.Common.{◌≡◌, ◌≢◌, ℕ, zero, suc, ◌+◌, ◌-◌, ◌*◌, ◌%◌, ◌^◌, ◌<◌, ◌≤◌, inl, inr, Bool, true, false, List, [], ◌∷◌, length, slice_index, replicate, refl, ap, arith, ◌∙◌, sym, subst, ⊎_elim}
use Rattle.std.specs.List.{AllByRecursion}
use Rattle.std.proofs.lemmas.List.{length-map, length-replicate}
use Rattle.rv_machine.specs.Hart.{Placed}
use Rattle.rv_machine.specs.Memory.{Region, memory_word, write, put, words_at}
use Rattle.rv_machine.specs.Moving.{rewritten_cells, rewritten_block, is_scanned, vacated, copied, redirected}
use Rattle.rv_machine.specs.Placement.{header_address, block_end}
use Rattle.rv_machine.specs.Places.{filler}
use Rattle.moving_laws.specs.Words.{IsFormed, IsReadable}
use Rattle.moving_laws.specs.Heap.{IsInHeap, AreApart, AllApart, IsBeside, SameSizes}
use Rattle.moving_laws.specs.Values.{start_of, cells_of_block}
use Rattle.moving_laws.specs.Stands.{AmongNumbers}
use Rattle.machine_laws.proofs.Memory.{word_below, other_word}
use Rattle.moving_laws.proofs.Words.{word_same, readable_write, formed_write, same_or_not}
use Rattle.moving_laws.proofs.Puts.{put_keeps, put_at, put_formed, put_readable, length_words_at, words_at_index, map_index}

-- ---- vacating

pub vacated_formed : (m : List Region) (bs : List Placed) → IsFormed m → IsFormed (vacated m bs)
vacated_formed m [] f = f
vacated_formed m (b ∷ bs) f = vacated_formed (put m (header_address b) (replicate (suc b.words) filler)) bs (put_formed m (replicate (suc b.words) filler)
    (header_address b) f)

pub vacated_readable : (m : List Region) (bs : List Placed) (x : ℕ) → IsReadable m x → IsReadable (vacated m bs) x
vacated_readable m [] x r = r
vacated_readable m (b ∷ bs) x r = vacated_readable (put m (header_address b) (replicate (suc b.words) filler)) bs x (put_readable m (replicate (suc b.words) filler)
    (header_address b) x r)

-- what is read at an address beside the blocks stays
module _ (at : List Region → ℕ) (x : ℕ) (keeps : (m : List Region) (a v : ℕ) → a ≢ x → at (write m a v) ≡ at m) where
  pub vacated_keeps : (m : List Region) (bs : List Placed) → AllByRecursion (IsBeside x) bs → at (vacated m bs) ≡ at m
  vacated_keeps m [] off = refl
  vacated_keeps m (b ∷ bs) off =
      let ws = replicate (suc b.words) filler in
      let len : length ws ≡ suc b.words = length-replicate (suc b.words) filler in
      let low = off.0.low in
      vacated_keeps (put m (header_address b) ws) bs off.1
      ∙ put_keeps at x keeps m ws (header_address b) (⊎_elim (λ l. inl l) (λ l. inr (omega (arith, l, len, low))) off.0.off)

pub vacated_off : (m : List Region) (bs : List Placed) (x : ℕ) → AllByRecursion (IsBeside x) bs → memory_word (vacated m bs) x ≡ memory_word m x
vacated_off m bs x off = vacated_keeps (λ k. memory_word k x) x (λ k b v n. other_word k b x v n) m bs off

-- ---- copying

-- a cell as it is copied
abbrev pub cell_after : Bool → (ℕ → ℕ) → ℕ → ℕ
cell_after true f w = f w
cell_after false f w = w

length_cells : (f : ℕ → ℕ) (b : Bool) (ws : List ℕ) → length (rewritten_cells b f ws) ≡ length ws
length_cells f true ws = length-map ws f
length_cells f false ws = refl

cells_index : (f : ℕ → ℕ) (b : Bool) (ws : List ℕ) (j : ℕ) → j < length ws → slice_index (rewritten_cells b f ws) j ≡ cell_after b f (slice_index ws j)
cells_index f true ws j l = map_index f ws j l
cells_index f false ws j l = refl

module _ (f : ℕ → ℕ) (old : List Region) where
  length_block : (o : Placed) → length (rewritten_block f old o) ≡ suc o.words
  length_block o = ap suc (length_cells f (is_scanned (memory_word old (header_address o))) (words_at old o.start o.words) ∙ length_words_at old o.words o.start)

  block_cell : (o : Placed) (j : ℕ) → j < o.words → slice_index (rewritten_block f old o)
      (suc j) ≡ cell_after (is_scanned (memory_word old (header_address o))) f (memory_word old (o.start + 8 * j))
  block_cell o j l =
      let n = length_words_at old o.words o.start in
      cells_index f (is_scanned (memory_word old (header_address o))) (words_at old o.start o.words) j (omega (arith, l, n))
      ∙ ap (cell_after (is_scanned (memory_word old (header_address o))) f) (words_at_index old o.words o.start j (o.start + 8 * j) refl l)

  pub copied_formed : (m : List Region) (os ns : List Placed) → IsFormed m → IsFormed (copied f old m os ns)
  copied_formed m [] ns fm = fm
  copied_formed m (o ∷ os) [] fm = fm
  copied_formed m (o ∷ os) (n ∷ ns) fm = copied_formed (put m (header_address n) (rewritten_block f old o)) os ns (put_formed m (rewritten_block f old o)
      (header_address n) fm)

  pub copied_readable : (m : List Region) (os ns : List Placed) (x : ℕ) → IsReadable m x → IsReadable (copied f old m os ns) x
  copied_readable m [] ns x r = r
  copied_readable m (o ∷ os) [] x r = r
  copied_readable m (o ∷ os) (n ∷ ns) x r = copied_readable (put m (header_address n) (rewritten_block f old o)) os ns x (put_readable m (rewritten_block f old o)
      (header_address n) x r)

  pub copied_keeps : (at : List Region → ℕ) (x : ℕ) → ((m : List Region) (a v : ℕ) → a ≢ x → at (write m a v) ≡ at m) → (m : List Region)
      (os ns : List Placed) → SameSizes os ns → AllByRecursion (IsBeside x) ns → at (copied f old m os ns) ≡ at m
  copied_keeps at x keeps m [] ns s off = refl
  copied_keeps at x keeps m (o ∷ os) [] s off = refl
  copied_keeps at x keeps m (o ∷ os) (n ∷ ns) s off =
      let ws = rewritten_block f old o in
      let len : length ws ≡ suc o.words = length_block o in
      let low = off.0.low in
      let size : n.words ≡ o.words = s.0 in
      copied_keeps at x keeps (put m (header_address n) ws) os ns s.1 off.1
      ∙ put_keeps at x keeps m ws (header_address n) (⊎_elim (λ l. inl l) (λ l. inr (omega (arith, l, len, low, size))) off.0.off)

  pub copied_off : (m : List Region) (os ns : List Placed) (x : ℕ) → SameSizes os ns → AllByRecursion (IsBeside x) ns → memory_word (copied f old m os ns) x ≡ memory_word m x
  copied_off m os ns x s off = copied_keeps (λ k. memory_word k x) x (λ k b v n. other_word k b x v n) m os ns s off

  -- a place of a block is beside the blocks that lie apart from it
  pub beside_apart : (n : Placed) (bs : List Placed) (x : ℕ) → IsInHeap n → AllByRecursion IsInHeap bs → AllByRecursion (AreApart n) bs → n.start - 8 ≤ x →
      x < block_end n → AllByRecursion (IsBeside x) bs
  beside_apart n [] x i all apart lo hi = tt
  beside_apart n (b ∷ bs) x i all apart lo hi =
      let lb = all.0.low in
      let ln = i.low in (
        record { low = omega (arith, lb); off = ⊎_elim (λ l. inl (omega (arith, l, hi, lb))) (λ l. inr (omega (arith, l, lo, ln))) apart.0 },
        beside_apart n bs x i all.1 apart.1 lo hi,
      )

  -- a block has landed at its new place
  pub record Lands (m : List Region) (o n : Placed) : Type 0 where
    pub header : memory_word m (header_address n) ≡ memory_word old (header_address o)
    pub cell : (j : ℕ) → j < o.words → memory_word m (n.start + 8 * j) ≡ cell_after (is_scanned (memory_word old (header_address o))) f (memory_word old (o.start + 8 * j))

  abbrev pub AllLand : List Region → List Placed → List Placed → Type 0
  AllLand m [] ns = Unit {0}
  AllLand m (o ∷ os) [] = ⊥
  AllLand m (o ∷ os) (n ∷ ns) = Lands m o n × AllLand m os ns

  -- every word of the blocks can be read
  abbrev pub AllReadable : List Region → List Placed → Type 0
  AllReadable m bs = AllByRecursion (λ b. (x : ℕ) → x % 8 ≡ 0 → b.start - 8 ≤ x → x < block_end b → IsReadable m x) bs

  all_readable_put : (m : List Region) (ws : List ℕ) (a : ℕ) (bs : List Placed) → AllReadable m bs → AllReadable (put m a ws) bs
  all_readable_put m ws a [] r = tt
  all_readable_put m ws a (b ∷ bs) r = (λ x e lo hi. put_readable m ws a x (r.0 x e lo hi), all_readable_put m ws a bs r.1)

  block_below : (o : Placed) (b : Bool) (j : ℕ) → ((w : ℕ) → w < 2 ^ 64 → f w < 2 ^ 64) → cell_after b f (memory_word old (o.start + 8 * j)) < 2 ^ 64
  block_below o true j small = small (memory_word old (o.start + 8 * j)) (word_below old (o.start + 8 * j))
  block_below o false j small = word_below old (o.start + 8 * j)

  pub landed :
      (m : List Region) (os ns : List Placed) → ((w : ℕ) → w < 2 ^ 64 → f w < 2 ^ 64) → IsFormed m → SameSizes os ns → AllByRecursion IsInHeap ns →
      AllApart ns → AllReadable m ns →
      AllLand (copied f old m os ns) os ns
  landed m [] ns small fm s inside apart r = tt
  landed m (o ∷ os) [] small fm s inside apart r = absurd s
  landed m (o ∷ os) (n ∷ ns) small fm s inside apart r =
      let ws = rewritten_block f old o in
      let m1 = put m (header_address n) ws in
      let len : length ws ≡ suc o.words = length_block o in
      let size : n.words ≡ o.words = s.0 in
      let low = inside.0.low in
      let even = inside.0.aligned in (
        record {
          header =
              copied_off m1 os ns (header_address n) s.1 (beside_apart n ns (header_address n) inside.0 inside.1 apart.0 (omega arith) (omega (arith, low)))
              ∙ put_at m ws (header_address n) 0 (header_address n) fm (omega arith) (omega (arith, len))
              (r.0 (header_address n) (omega (arith, low, even)) (omega arith) (omega (arith, low))) (word_below old (header_address o));
          cell = λ j l.
              let x : ℕ = n.start + 8 * j in
              let at : x ≡ header_address n + 8 * suc j = omega (arith, low) in
              let lo : n.start - 8 ≤ x = omega arith in
              let hi : x < block_end n = omega (arith, l, size) in
              let e8 : x % 8 ≡ 0 = omega (arith, even) in
              let is = block_cell o j l in
              copied_off m1 os ns x s.1 (beside_apart n ns x inside.0 inside.1 apart.0 lo hi)
              ∙ put_at m ws (header_address n) (suc j) x fm at (omega (arith, len, l)) (r.0 x e8 lo hi)
              (subst (λ w. w < 2 ^ 64) (sym is) (block_below o (is_scanned (memory_word old (header_address o))) j small))
              ∙ is;
        },
        landed m1 os ns small (put_formed m ws (header_address n) fm) s.1 inside.1 apart.1 (all_readable_put m ws (header_address n) ns r.1),
      )

  -- by serial
  pub lands_header : (m : List Region) (os ns : List Placed) (k : ℕ) → AllLand m os ns → k < length os →
      memory_word m (start_of ns k - 8) ≡ memory_word old (start_of os k - 8)
  lands_header m [] ns k a l = absurd (omega (arith, l))
  lands_header m (o ∷ os) [] k a l = absurd a
  lands_header m (o ∷ os) (n ∷ ns) zero a l = a.0.header
  lands_header m (o ∷ os) (n ∷ ns) (suc k) a l = lands_header m os ns k a.1 (omega (arith, l))

  pub lands_cell : (m : List Region) (os ns : List Placed) (k j : ℕ) → AllLand m os ns → k < length os → j < cells_of_block os k →
      memory_word m (start_of ns k + 8 * j) ≡ cell_after (is_scanned (memory_word old (start_of os k - 8))) f (memory_word old (start_of os k + 8 * j))
  lands_cell m [] ns k j a l h = absurd (omega (arith, l))
  lands_cell m (o ∷ os) [] k j a l h = absurd a
  lands_cell m (o ∷ os) (n ∷ ns) zero j a l h = a.0.cell j h
  lands_cell m (o ∷ os) (n ∷ ns) (suc k) j a l h = lands_cell m os ns k j a.1 (omega (arith, l)) h

-- ---- redirecting

module _ (f : ℕ → ℕ) (old : List Region) where
  pub redirected_formed : (m : List Region) (ps : List ℕ) → IsFormed m → IsFormed (redirected f old m ps)
  redirected_formed m [] fm = fm
  redirected_formed m (a ∷ ps) fm = redirected_formed (write m a (f (memory_word old a))) ps (formed_write m a (f (memory_word old a)) fm)

  pub redirected_readable : (m : List Region) (ps : List ℕ) (x : ℕ) → IsReadable m x → IsReadable (redirected f old m ps) x
  redirected_readable m [] x r = r
  redirected_readable m (a ∷ ps) x r = redirected_readable (write m a (f (memory_word old a))) ps x (readable_write m a x (f (memory_word old a)) r)

  -- a word that is as it is to be goes on so
  pub redirected_settled : (m : List Region) (ps : List ℕ) (x : ℕ) → IsFormed m → IsReadable m x → f (memory_word old x) < 2 ^ 64 → memory_word m x ≡ f (memory_word old x) →
      memory_word (redirected f old m ps) x ≡ f (memory_word old x)
  redirected_settled m [] x fm r small e = e
  redirected_settled m (a ∷ ps) x fm r small e =
      let v = f (memory_word old a) in
      redirected_settled (write m a v) ps x (formed_write m a v fm) (readable_write m a x v r) small
      (⊎_elim (λ (s : a ≡ x). subst (λ y. memory_word (write m y (f (memory_word old y))) x ≡ f (memory_word old x)) (sym s) (word_same m x (f (memory_word old x)) fm r small))
      (λ ne. other_word m a x v ne ∙ e) (same_or_not a x))

  -- a place that is named has its word rewritten
  pub redirected_in : (m : List Region) (ps : List ℕ) (x : ℕ) → IsFormed m → IsReadable m x → f (memory_word old x) < 2 ^ 64 → AmongNumbers x ps →
      memory_word (redirected f old m ps) x ≡ f (memory_word old x)
  redirected_in m [] x fm r small i = absurd i
  redirected_in m (a ∷ ps) x fm r small i =
      let v = f (memory_word old a) in
      ⊎_elim
      (λ (s : x ≡ a). redirected_settled (write m a v) ps x (formed_write m a v fm)
      (readable_write m a x v r) small (subst (λ y. memory_word (write m y (f (memory_word old y))) x ≡ f (memory_word old x)) s (word_same m x (f (memory_word old x)) fm r small)))
      (λ j. redirected_in (write m a v) ps x (formed_write m a v fm) (readable_write m a x v r) small j)
      i

  -- a place that is not named keeps its word
  pub redirected_keeps : (at : List Region → ℕ) (x : ℕ) → ((m : List Region) (a v : ℕ) → a ≢ x → at (write m a v) ≡ at m) → (m : List Region)
      (ps : List ℕ) → (AmongNumbers x ps → ⊥) → at (redirected f old m ps) ≡ at m
  redirected_keeps at x keeps m [] none = refl
  redirected_keeps at x keeps m (a ∷ ps) none =
      let v = f (memory_word old a) in
      redirected_keeps at x keeps (write m a v) ps (λ j. none (inr j)) ∙ keeps m a v (λ e. none (inl (sym e)))

  pub redirected_off : (m : List Region) (ps : List ℕ) (x : ℕ) → (AmongNumbers x ps → ⊥) → memory_word (redirected f old m ps) x ≡ memory_word m x
  redirected_off m ps x none = redirected_keeps (λ k. memory_word k x) x (λ k b v n. other_word k b x v n) m ps none
