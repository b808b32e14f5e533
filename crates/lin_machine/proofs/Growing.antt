-- The heap, and a function over it, where a block is made whose header and cells are to be written.
use Rattle.std.proofs.Common.{◌≡◌, ◌≢◌, ℕ, zero, suc, ◌+◌, ◌-◌, ◌*◌, ◌%◌, ◌<◌, ◌≤◌, ◌⊎◌, inl, inr, Bool, true, false, cond, ◌||◌, nat_eq, List, [], ◌∷◌, ◌++◌, length, replicate, Option, Some, None, slice_get, refl, ap, arith, ◌∙◌, sym, subst, ⊎_elim, length-append}
use Rattle.std.specs.List.{AllByRecursion}
use Rattle.std.proofs.lemmas.Bool.{and_from, cases_lt, eq-eqb, or_left, or_right}
use Rattle.std.proofs.lemmas.List.{length-replicate}
use Rattle.std.proofs.lemmas.Option.{slice_get_within}
use Rattle.bs_words.specs.Memory.{Cell, HeapBlock, InBlock, InHeader}
use Rattle.bs_words.specs.declared.values.Value.{Value}
use Rattle.bs_words.specs.declared.values.Value.TheVariants.{Word}
use Rattle.mach_ir.specs.Acts.{Around, cells_from, fresh_block, is_among_cells, same_cell, with_block}
use Rattle.mach_ir.specs.declared.blocks.NewBlock.{NewBlock}
use Rattle.rv_machine.specs.Hart.{Placed}
use Rattle.rv_machine.specs.Memory.{Region, memory_word}
use Rattle.rv_machine.specs.Moving.{is_scanned}
use Rattle.rv_machine.specs.Observation.{cells_of_header}
use Rattle.rv_machine.specs.Relocation.{root_addresses}
use Rattle.moving_laws.specs.Heap.{AreApart, IsInHeap}
use Rattle.moving_laws.specs.Stands.{StaticsStand}
use Rattle.moving_laws.specs.Values.{start_of, cells_of_block}
use Rattle.moving_laws.specs.Words.{IsReadable}
use Rattle.moving_laws.proofs.Words.{same_or_not}
use Rattle.lin_machine.specs.Contents.{blocks_of, cell_in, header_in, size_in, statics_of}
use Rattle.lin_machine.specs.Relation.{HeapStands}
use Rattle.lin_machine.specs.View.{Fixed}
use Rattle.lin_machine.proofs.Fresh.{blocks_more, fits_before, known_before, start_before, start_last, val_before, word_before, words_before, words_last}
use Rattle.lin_machine.proofs.Statics.{lie_blocks}
use Rattle.lin_machine.proofs.Storing.{statics_stay}

-- ---- cells that are to be written

among_second : (c : Cell) (xs ys : List Cell) → is_among_cells c (xs ++ ys) ≡ false → is_among_cells c ys ≡ false
among_second c [] ys e = e
among_second c (x ∷ xs) ys e = by_test (same_cell c x) e (among_second c xs ys)
  where
    by_test : (t : Bool) → (t || is_among_cells c (xs ++ ys)) ≡ false → (is_among_cells c (xs ++ ys) ≡ false → is_among_cells c ys ≡ false) → is_among_cells c ys ≡ false
    by_test true e later = absurd (cc)
    by_test false e later = later e

among_first : (c : Cell) (xs ys : List Cell) → is_among_cells c xs ≡ true → is_among_cells c (xs ++ ys) ≡ true
among_first c [] ys e = absurd (cc)
among_first c (x ∷ xs) ys e = by_test (same_cell c x) e (among_first c xs ys)
  where
    by_test : (t : Bool) → (t || is_among_cells c xs) ≡ true → (is_among_cells c xs ≡ true → is_among_cells c (xs ++ ys) ≡ true) → (t || is_among_cells c (xs ++ ys)) ≡ true
    by_test true e later = refl
    by_test false e later = later e

same_block : (s j : ℕ) → same_cell (InBlock s j) (InBlock s j) ≡ true
same_block s j = and_from (nat_eq s s) (nat_eq j j) (eq-eqb s s refl) (eq-eqb j j refl)

among_cells : (s i n j : ℕ) → i ≤ j → j < i + n → is_among_cells (InBlock s j) (cells_from s i n) ≡ true
among_cells s i zero j l h = absurd (omega (arith, l, h))
among_cells s i (suc n) j l h =
    ⊎_elim
    (λ (e : i ≡ j). or_left (same_cell (InBlock s j) (InBlock s i)) (is_among_cells (InBlock s j) (cells_from s (suc i) n))
    (subst (λ z. same_cell (InBlock s j) (InBlock s z) ≡ true) (sym e) (same_block s j)))
    (λ d. or_right (same_cell (InBlock s j) (InBlock s i)) (is_among_cells (InBlock s j) (cells_from s (suc i) n))
    (among_cells s (suc i) n j (after l d) (omega (arith, h))))
    (same_or_not i j)
  where
    after : i ≤ j → i ≢ j → suc i ≤ j
    after l d = ⊎_elim (λ k. k) (λ k. absurd (d (omega (arith, l, k)))) (cases_lt i j)

pub get_front : {X : Type 0} (xs ys : List X) (k : ℕ) → k < length xs → slice_get (xs ++ ys) k ≡ slice_get xs k
get_front [] ys k l = absurd (omega (arith, l))
get_front (x ∷ xs) ys zero l = refl
get_front (x ∷ xs) ys (suc k) l = get_front xs ys k (omega (arith, l))

get_last : {X : Type 0} (xs : List X) (x : X) → slice_get (xs ++ x ∷ []) (length xs) ≡ Some x
get_last [] x = refl
get_last (y ∷ xs) x = get_last xs x

past_replicate : (n j : ℕ) (v : Value) → n ≤ j → slice_get (replicate n v) j ≡ None
past_replicate zero j v l = refl
past_replicate (suc n) zero v l = absurd (omega (arith, l))
past_replicate (suc n) (suc j) v l = past_replicate n j v (omega (arith, l))

-- ---- the heap

module _ (s : Fixed) (bs : List Placed) (m : List Region) (a : Around) (h : HeapStands s bs m a) (b : NewBlock) (nb : Placed) (words : nb.words ≡ b.cells)
    (head : cells_of_header b.header ≡ b.cells)
    (is : IsInHeap nb) (apart : AllByRecursion (λ x. AreApart x nb) bs)
    (readable : (x : ℕ) → x % 8 ≡ 0 → nb.start - 8 ≤ x → x < nb.start + 8 * nb.words → IsReadable m x) where
  count_is : length a.memory.blocks ≡ length bs
  count_is = h.stand.count

  abbrev more : List Placed
  more = bs ++ nb ∷ []

  length_more : length (bs ++ nb ∷ []) ≡ suc (length bs)
  length_more = let n = length-append bs (nb ∷ []) in omega (arith, n)

  -- a block is one of those before, or the new one
  which : (k : ℕ) → k < length (bs ++ nb ∷ []) → (k < length bs) ⊎ (k ≡ length a.memory.blocks)
  which k l =
      let n = length_more in
      let c = count_is in
      ⊎_elim (λ i. inl i) (λ i. inr (omega (arith, i, l, n, c))) (cases_lt k (length bs))

  get_before : (k : ℕ) → k < length bs → slice_get (with_block b a).memory.blocks k ≡ slice_get a.memory.blocks k
  get_before k l = let c = count_is in get_front a.memory.blocks (fresh_block b ∷ []) k (omega (arith, l, c))

  get_new : slice_get (with_block b a).memory.blocks (length a.memory.blocks) ≡ Some (fresh_block b)
  get_new = get_last a.memory.blocks (fresh_block b)

  size_new : length (fresh_block b).cells ≡ b.cells
  size_new = length-replicate {A = Value} b.cells (Word 0)

  -- what was not to be written before
  left_before : (c : Cell) → is_among_cells c (with_block b a).unwritten ≡ false → is_among_cells c a.unwritten ≡ false
  left_before c e = among_second c (InHeader (length a.memory.blocks) ∷ cells_from (length a.memory.blocks) 0 b.cells) a.unwritten e

  -- nothing of the new block has been written
  no_header : (w : ℕ) → (blocks_of (with_block b a)).header (length a.memory.blocks) ≡ Some w → ⊥
  no_header w e =
      let t : is_among_cells (InHeader (length a.memory.blocks)) (with_block b a).unwritten ≡ true =
      or_left (same_cell (InHeader (length a.memory.blocks)) (InHeader (length a.memory.blocks))) _ (eq-eqb (length a.memory.blocks)
      (length a.memory.blocks) refl) in
      let none : (blocks_of (with_block b a)).header (length a.memory.blocks) ≡ None = ap (λ q. cond q None (header_in (slice_get
      (with_block b a).memory.blocks (length a.memory.blocks)))) t in
      cc

  no_cell : (j : ℕ) (v : Value) → (blocks_of (with_block b a)).cell (length a.memory.blocks) j ≡ Some v → ⊥
  no_cell j v e =
      ⊎_elim
      (λ l.
      let t : is_among_cells (InBlock (length a.memory.blocks) j) (with_block b a).unwritten ≡ true =
      or_right (same_cell (InBlock (length a.memory.blocks) j) (InHeader (length a.memory.blocks)))
      (is_among_cells (InBlock (length a.memory.blocks) j) (cells_from (length a.memory.blocks) 0 b.cells ++ a.unwritten))
      (among_first (InBlock (length a.memory.blocks) j)
      (cells_from (length a.memory.blocks) 0 b.cells) a.unwritten (among_cells (length a.memory.blocks) 0 b.cells j (omega arith) (omega (arith, l)))) in
      let none : (blocks_of (with_block b a)).cell (length a.memory.blocks) j ≡ None = ap (λ q. cond q None (cell_in (slice_get (with_block b a).memory.blocks
      (length a.memory.blocks)) j)) t in
      cc)
      (λ l.
      let p : cell_in (slice_get (with_block b a).memory.blocks (length a.memory.blocks)) j ≡ None = ap (λ o. cell_in o j) get_new
      ∙ past_replicate b.cells j (Word 0) l in
      none_by (is_among_cells (InBlock (length a.memory.blocks) j) (with_block b a).unwritten)
      (cell_in (slice_get (with_block b a).memory.blocks (length a.memory.blocks)) j) p e)
      (cases_lt j b.cells)
    where
      none_by : (t : Bool) (o : Option Value) → o ≡ None → cond t None o ≡ Some v → ⊥
      none_by true o p e = absurd (cc)
      none_by false o p e = absurd (cc)

  -- what the others hold they held
  header_before : (k w : ℕ) → k < length bs → (blocks_of (with_block b a)).header k ≡ Some w → (blocks_of a).header k ≡ Some w
  header_before k w l e = by_test (is_among_cells (InHeader k) (with_block b a).unwritten) refl e
    where
      by_test : (t : Bool) → is_among_cells (InHeader k) (with_block b a).unwritten ≡ t →
          cond t None (header_in (slice_get (with_block b a).memory.blocks k)) ≡ Some w → (blocks_of a).header k ≡ Some w
      by_test true f e = absurd (cc)
      by_test false f e = ap (λ q. cond q None (header_in (slice_get a.memory.blocks k))) (left_before (InHeader k) f) ∙ sym (ap header_in (get_before k l)) ∙ e

  cell_before : (k j : ℕ) (v : Value) → k < length bs → (blocks_of (with_block b a)).cell k j ≡ Some v → (blocks_of a).cell k j ≡ Some v
  cell_before k j v l e = by_test (is_among_cells (InBlock k j) (with_block b a).unwritten) refl e
    where
      by_test : (t : Bool) → is_among_cells (InBlock k j) (with_block b a).unwritten ≡ t →
          cond t None (cell_in (slice_get (with_block b a).memory.blocks k) j) ≡ Some v → (blocks_of a).cell k j ≡ Some v
      by_test true f e = absurd (cc)
      by_test false f e = ap (λ q. cond q None (cell_in (slice_get a.memory.blocks k) j)) (left_before (InBlock k j) f)
          ∙ sym (ap (λ o. cell_in o j) (get_before k l)) ∙ e

  pub heap_more : HeapStands s (bs ++ nb ∷ []) m (with_block b a)
  heap_more = record {
    old = blocks_more bs nb h.old is apart;
    readable = record {
      each = λ k x l e lo hi. ⊎_elim
          (λ i. h.readable.each k x i e (subst (λ q. q - 8 ≤ x) (start_before bs nb k i) lo)
          (let p = start_before bs nb k i in let q = words_before bs nb k i in omega (arith, hi, p, q)))
          (λ (i : k ≡ length a.memory.blocks).
          let t : k ≡ length bs = i ∙ count_is in
          let p : start_of (bs ++ nb ∷ []) k ≡ nb.start = ap (start_of (bs ++ nb ∷ [])) t ∙ start_last bs nb in
          let q : cells_of_block (bs ++ nb ∷ []) k ≡ nb.words = ap (cells_of_block (bs ++ nb ∷ [])) t ∙ words_last bs nb in
          readable x e (omega (arith, lo, p)) (omega (arith, hi, p, q)))
          (which k l);
    };
    stand = record {
      count = let n = length-append a.memory.blocks (fresh_block b ∷ []) in let c = count_is in let p = length_more in omega (arith, n, c, p);
      sizes = λ k l. ⊎_elim
          (λ i. words_before bs nb k i ∙ h.stand.sizes k i ∙ sym (ap size_in (get_before k i)))
          (λ (i : k ≡ length a.memory.blocks). ap (cells_of_block (bs ++ nb ∷ [])) (i ∙ count_is) ∙ words_last bs nb ∙ words ∙ sym size_new
          ∙ sym (ap size_in (ap (slice_get (with_block b a).memory.blocks) i ∙ get_new)))
          (which k l);
      header = λ k w l e. ⊎_elim
          (λ i. ap (λ q. memory_word m (q - 8)) (start_before bs nb k i) ∙ h.stand.header k w i (header_before k w i e))
          (λ (i : k ≡ length a.memory.blocks). absurd (no_header w (subst (λ z. (blocks_of (with_block b a)).header z ≡ Some w) i e)))
          (which k l);
      cell = λ k j v l n e. ⊎_elim
          (λ i.
          let f = cell_before k j v i e in
          let size = words_before bs nb k i in
          ap (λ q. memory_word m (q + 8 * j)) (start_before bs nb k i) ∙ h.stand.cell k j v i (omega (arith, n, size)) f
          ∙ sym (word_before s.image bs nb v (h.stand.known k j v i f)))
          (λ (i : k ≡ length a.memory.blocks). absurd (no_cell j v (subst (λ z. (blocks_of (with_block b a)).cell z j ≡ Some v) i e)))
          (which k l);
      known = λ k j v l e. ⊎_elim
          (λ i. known_before s.image bs nb v (h.stand.known k j v i (cell_before k j v i e)))
          (λ (i : k ≡ length a.memory.blocks). absurd (no_cell j v (subst (λ z. (blocks_of (with_block b a)).cell z j ≡ Some v) i e)))
          (which k l);
    };
    heads = λ k y e. ⊎_elim
        (λ i. h.heads k y (sym (get_before k i) ∙ e))
        (λ (i : k ≡ length a.memory.blocks).
        let same : fresh_block b ≡ y = one_of (ap (slice_get (with_block b a).memory.blocks) i ∙ get_new) e in
        subst (λ z. cells_of_header z.header ≡ length z.cells) same (head ∙ sym size_new))
        (which k (there k y e));
    fits = λ k j y v e f. ⊎_elim
        (λ i. fits_before s.image bs nb (is_scanned y.header) v (h.fits k j y v (sym (get_before k i) ∙ e) (cell_before k j v i f)))
        (λ (i : k ≡ length a.memory.blocks). absurd (no_cell j v (subst (λ z. (blocks_of (with_block b a)).cell z j ≡ Some v) i f)))
        (which k (there k y e));
    statics = statics_more (statics_stay s bs m m a.memory (with_block b a).memory.blocks (λ y even l. refl) h.statics);
    lie = lie_blocks s.image a.memory (with_block b a).memory.blocks h.lie;
  }
    where
      one_of : {o : Option HeapBlock} {p q : HeapBlock} → o ≡ Some p → o ≡ Some q → p ≡ q
      one_of e f = cc

      there : (k : ℕ) (y : HeapBlock) → slice_get (with_block b a).memory.blocks k ≡ Some y → k < length (bs ++ nb ∷ [])
      there k y e =
          let w = slice_get_within (with_block b a).memory.blocks k y e in
          let n = length-append a.memory.blocks (fresh_block b ∷ []) in
          let c = count_is in
          let p = length_more in
          omega (arith, w, n, c, p)

      statics_more : StaticsStand s.image bs m (root_addresses s.image) (statics_of (with_block b a).memory) →
          StaticsStand s.image (bs ++ nb ∷ []) m (root_addresses s.image) (statics_of (with_block b a).memory)
      statics_more st = record {
        cell = λ x v e. st.cell x v e ∙ sym (word_before s.image bs nb v (st.known x v e));
        kind = λ x v e. ⊎_elim (λ k. inl (val_before s.image bs nb v k.0, k.1)) (λ k. inr k) (st.kind x v e);
        known = λ x v e. known_before s.image bs nb v (st.known x v e);
        place = st.place;
      }
