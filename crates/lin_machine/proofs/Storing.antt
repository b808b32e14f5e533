-- A word of a block is written: what the heap stands for then.
use Rattle.std.proofs.Common.{◌≡◌, ◌≢◌, ℕ, zero, suc, ◌+◌, ◌-◌, ◌*◌, ◌/◌, ◌%◌, ◌^◌, ◌<◌, ◌≤◌, ◌⊎◌, inl, inr, Bool, true, false, cond, ◌&&◌, ◌||◌, ◌==◌, nat_eq, nat_le, List, [], ◌∷◌, length, map, Option, Some, None, slice_get, slice_set, refl, ap, arith, ◌∙◌, sym, subst, ⊎_elim, length-set}
use Rattle.std.specs.Prelude.{sum}
use Rattle.std.specs.List.{AllByRecursion, fold}
use Rattle.std.proofs.lemmas.Bool.{and_parts, eqb-true}
use Rattle.std.proofs.lemmas.Option.{slice_get_within}
use Rattle.bs_words.specs.Memory.{Cell, HeapBlock, InBlock, InHeader, InStatic, Memory, StaticList, block_bytes, heap_need, in_statics}
use Rattle.bs_words.specs.declared.values.Value.{Value}
use Rattle.mach_ir.specs.Acts.{Around, is_among_cells, same_cell, without}
use Rattle.rv_machine.specs.Hart.{Placed}
use Rattle.rv_machine.specs.Memory.{Region, memory_word, write}
use Rattle.rv_machine.specs.Moving.{is_scanned}
use Rattle.rv_machine.specs.Observation.{cells_of_header}
use Rattle.rv_machine.specs.Sound.{HasRegions, extents}
use Rattle.machine_laws.proofs.Memory.{other_word}
use Rattle.rv_machine.specs.Placement.{bytes_used, block_end}
use Rattle.rv_machine.specs.Relocation.{root_addresses}
use Rattle.moving_laws.specs.Stands.{StaticsStand}
use Rattle.moving_laws.specs.Heap.{AllApart, AreApart}
use Rattle.moving_laws.specs.Values.{FitsCell, IsKnown, start_of, value_word, cells_of_block}
use Rattle.moving_laws.specs.Words.{IsReadable, held_word}
use Rattle.moving_laws.proofs.Held.{held_other}
use Rattle.moving_laws.proofs.Rewriting.{start_inside}
use Rattle.moving_laws.proofs.Usable.{formed_regions}
use Rattle.moving_laws.proofs.Words.{readable_write, same_or_not, word_same}
use Rattle.lin_machine.specs.Contents.{blocks_of, cell_in, header_in, size_in, static_in, statics_of}
use Rattle.lin_machine.specs.Relation.{HeapStands, StandsFor}
use Rattle.lin_machine.specs.View.{Fixed}
use Rattle.lin_machine.proofs.Statics.{lie_blocks}

-- ---- what all blocks take

sum_from : (n : ℕ) (xs : List ℕ) → fold ◌+◌ n xs ≡ n + sum xs
sum_from n [] = omega arith
sum_from n (x ∷ xs) = let p = sum_from (n + x) xs in let q = sum_from (0 + x) xs in omega (arith, p, q)

bytes_are : (bs : List HeapBlock) (ps : List Placed) → length bs ≡ length ps → ((k : ℕ) → k < length ps → cells_of_block ps k ≡ size_in (slice_get bs k)) →
    bytes_used ps ≡ sum (map block_bytes bs)
bytes_are [] [] e h = refl
bytes_are [] (p ∷ ps) e h = absurd (omega (arith, e))
bytes_are (b ∷ bs) [] e h = absurd (omega (arith, e))
bytes_are (b ∷ bs) (p ∷ ps) e h =
    let r = bytes_are bs ps (omega (arith, e)) (λ k l. h (suc k) (omega (arith, l))) in
    let w : p.words ≡ length b.cells = h 0 (omega arith) in
    let split : sum (map block_bytes (b ∷ bs)) ≡ 0 + 8 * (length b.cells + 1) + sum (map block_bytes bs) = sum_from (0 + 8 * (length b.cells + 1))
    (map block_bytes bs) in
    omega (arith, r, w, split)

-- the bytes of the blocks are the heap need of the text's memory
pub bytes_need : (s : Fixed) (placed : List Placed) (m : List Region) (a : Around) → HeapStands s placed m a → bytes_used placed ≡ heap_need a.memory
bytes_need s placed m a h = bytes_are a.memory.blocks placed h.stand.count h.stand.sizes

-- ---- places of words differ

beside : (b : Placed) (bs : List Placed) (k : ℕ) → AllByRecursion (AreApart b) bs → k < length bs → (block_end b + 8 ≤ start_of bs k)
    ⊎ (start_of bs k + 8 * cells_of_block bs k + 8 ≤ b.start)
beside b [] k far l = absurd (omega (arith, l))
beside b (x ∷ bs) zero far l = far.0
beside b (x ∷ bs) (suc k) far l = beside b bs k far.1 (omega (arith, l))

-- two blocks, each with its header, have no word in common
pub blocks_apart : (bs : List Placed) (j k : ℕ) → AllApart bs → j < length bs → k < length bs → j ≢ k →
    (start_of bs j + 8 * cells_of_block bs j + 8 ≤ start_of bs k) ⊎ (start_of bs k + 8 * cells_of_block bs k + 8 ≤ start_of bs j)
blocks_apart [] j k far l m n = absurd (omega (arith, l))
blocks_apart (b ∷ bs) zero zero far l m n = absurd (n refl)
blocks_apart (b ∷ bs) zero (suc k) far l m n = beside b bs k far.0 (omega (arith, m))
blocks_apart (b ∷ bs) (suc j) zero far l m n = ⊎_elim (λ x. inr x) (λ x. inl x) (beside b bs j far.0 (omega (arith, l)))
blocks_apart (b ∷ bs) (suc j) (suc k) far l m n = blocks_apart bs j k far.1 (omega (arith, l)) (omega (arith, m)) (λ e. n (ap suc e))

-- ---- cells that have been written

pub same_cell-true : (c d : Cell) → same_cell c d ≡ true → c ≡ d
same_cell-true (InHeader s) (InHeader t) e = ap InHeader (eqb-true s t e)
same_cell-true (InHeader s) (InBlock t j) e = absurd (cc)
same_cell-true (InHeader s) (InStatic t j) e = absurd (cc)
same_cell-true (InBlock s i) (InHeader t) e = absurd (cc)
same_cell-true (InBlock s i) (InBlock t j) e =
    let p = and_parts (nat_eq s t) (nat_eq i j) e in
    ap (λ n. InBlock n i) (eqb-true s t p.0) ∙ ap (InBlock t) (eqb-true i j p.1)
same_cell-true (InBlock s i) (InStatic t j) e = absurd (cc)
same_cell-true (InStatic s i) (InHeader t) e = absurd (cc)
same_cell-true (InStatic s i) (InBlock t j) e = absurd (cc)
same_cell-true (InStatic s i) (InStatic t j) e =
    let p = and_parts (nat_eq s t) (nat_eq i j) e in
    ap (λ n. InStatic n i) (eqb-true s t p.0) ∙ ap (InStatic t) (eqb-true i j p.1)

-- a cell that is none of those left, is the one that was taken away, or was none of them before
pub without_is : (c d : Cell) (ds : List Cell) → is_among_cells d (without c ds) ≡ false → (d ≡ c) ⊎ (is_among_cells d ds ≡ false)
without_is c d [] e = inr refl
without_is c d (x ∷ ds) e = by_test (same_cell c x) refl e (without_is c d ds)
  where
    by_same : (t : Bool) → same_cell d x ≡ t → (c ≡ x) → (d ≡ c) ⊎ (is_among_cells d ds ≡ false) → (d ≡ c) ⊎ ((t || is_among_cells d ds) ≡ false)
    by_same true f g later = inl (same_cell-true d x f ∙ sym g)
    by_same false f g later = later

    by_other : (t : Bool) → (t || is_among_cells d (without c ds)) ≡ false → (is_among_cells d (without c ds) ≡ false → (d ≡ c) ⊎ (is_among_cells d ds ≡ false)) → (d ≡ c)
        ⊎ ((t || is_among_cells d ds) ≡ false)
    by_other true e later = absurd (cc)
    by_other false e later = later e

    by_test : (t : Bool) → same_cell c x ≡ t → is_among_cells d (cond t (without c ds) (x ∷ without c ds)) ≡ false →
        (is_among_cells d (without c ds) ≡ false → (d ≡ c) ⊎ (is_among_cells d ds ≡ false)) →
        (d ≡ c) ⊎ ((same_cell d x || is_among_cells d ds) ≡ false)
    by_test true f e later = by_same (same_cell d x) refl (same_cell-true c x f) (later e)
    by_test false f e later = by_other (same_cell d x) e later

-- ---- lists of which an element is set

set_same : {X : Type 0} (xs : List X) (k : ℕ) (y z : X) → slice_get xs k ≡ Some z → slice_get (slice_set xs k y) k ≡ Some y
set_same [] k y z e = absurd (cc)
set_same (x ∷ xs) zero y z e = refl
set_same (x ∷ xs) (suc k) y z e = set_same xs k y z e

set_there : {X : Type 0} (xs : List X) (k : ℕ) (y : X) → k < length xs → slice_get (slice_set xs k y) k ≡ Some y
set_there [] k y l = absurd (omega (arith, l))
set_there (x ∷ xs) zero y l = refl
set_there (x ∷ xs) (suc k) y l = set_there xs k y (omega (arith, l))

set_other : {X : Type 0} (xs : List X) (k j : ℕ) (y : X) → k ≢ j → slice_get (slice_set xs k y) j ≡ slice_get xs j
set_other [] k j y d = refl
set_other (x ∷ xs) zero zero y d = absurd (d refl)
set_other (x ∷ xs) zero (suc j) y d = refl
set_other (x ∷ xs) (suc k) zero y d = refl
set_other (x ∷ xs) (suc k) (suc j) y d = set_other xs k j y (λ e. d (ap suc e))

-- ---- static cells do not depend on the blocks

statics_in : (memory : Memory) (bs : List HeapBlock) (k : ℕ) (lists : List StaticList) (y : ℕ) →
    static_in (record memory { blocks = bs }) (in_statics k lists y 1) ≡ static_in memory (in_statics k lists y 1)
statics_in memory bs k [] y = refl
statics_in memory bs k (l ∷ lists) y = by_test (nat_le l.start y && nat_le (y + 1) (l.start + l.size)) (statics_in memory bs (suc k) lists y)
  where
    by_test : (t : Bool) → static_in (record memory { blocks = bs }) (in_statics (suc k) lists y 1) ≡ static_in memory (in_statics (suc k) lists y 1) →
        static_in (record memory { blocks = bs }) (cond t (Some (InStatic k ((y - l.start) / 8))) (in_statics (suc k) lists y 1))
        ≡ static_in memory (cond t (Some (InStatic k ((y - l.start) / 8))) (in_statics (suc k) lists y 1))
    by_test true later = refl
    by_test false later = later

pub statics_same : (memory : Memory) (bs : List HeapBlock) (y : ℕ) → statics_of (record memory { blocks = bs }) y ≡ statics_of memory y
statics_same memory bs y = ap (λ o. cond (y % 8 == 0) o None) (by_test (y % 1 == 0))
  where
    by_test : (t : Bool) → static_in (record memory { blocks = bs })
        (cond t (in_statics 0 memory.statics y 1) None) ≡ static_in memory (cond t (in_statics 0 memory.statics y 1) None)
    by_test true = statics_in memory bs 0 memory.statics y
    by_test false = refl

-- what stands for static cells stands for them whatever the blocks hold, where their words stay
pub statics_stay : (s : Fixed) (placed : List Placed) (m m' : List Region) (memory : Memory) (bs : List HeapBlock) →
    ((y : ℕ) → y % 8 ≡ 0 → y < 0x20000000 → held_word m' y ≡ held_word m y) →
    StaticsStand s.image placed m (root_addresses s.image) (statics_of memory) → StaticsStand s.image placed m' (root_addresses s.image)
    (statics_of (record memory { blocks = bs }))
statics_stay s placed m m' memory bs same h =
    let short = s.functions.tables.bytes.short in
    record {
      cell = λ y v e. let f = sym (statics_same memory bs y) ∙ e in let p = h.place y v f in let t = p.2 in same y p.0 (omega (arith, t, short)) ∙ h.cell y v f;
      kind = λ y v e. h.kind y v (sym (statics_same memory bs y) ∙ e);
      known = λ y v e. h.known y v (sym (statics_same memory bs y) ∙ e);
      place = λ y v e. h.place y v (sym (statics_same memory bs y) ∙ e);
    }

-- ---- a cell of a block is written

module _ (s : Fixed) (placed : List Placed) (m : List Region) (regions : HasRegions (extents s.image s.heap s.base) m) (a : Around)
    (h : HeapStands s placed m a)
    (k n value : ℕ) (x : Value) (b : HeapBlock) (there : slice_get a.memory.blocks k ≡ Some b) (inside : n < length b.cells) (small : value < 2 ^ 64)
    (stands : StandsFor s placed value x)
    (fits : FitsCell s.image (length placed) (is_scanned b.header) x) (unwritten : List Cell)
    (fewer : (c : Cell) → is_among_cells c unwritten ≡ false → (c ≡ InBlock k n) ⊎ (is_among_cells c a.unwritten ≡ false)) where
  abbrev new_block : HeapBlock
  new_block = record b { cells = slice_set b.cells n x }

  abbrev pub stored_around : Around
  stored_around = record a {
    memory = record a.memory { blocks = slice_set a.memory.blocks k (record b { cells = slice_set b.cells n x }) };
    unwritten = unwritten;
  }

  abbrev pub stored_at : ℕ
  stored_at = start_of placed k + 8 * n

  abbrev m' : List Region
  m' = write m (start_of placed k + 8 * n) value

  count_is : length a.memory.blocks ≡ length placed
  count_is = h.stand.count

  k_in : k < length placed
  k_in = let w = slice_get_within a.memory.blocks k b there in let c = count_is in omega (arith, w, c)

  size_is : cells_of_block placed k ≡ length b.cells
  size_is = h.stand.sizes k k_in ∙ ap size_in there

  near : (start_of placed k % 8 ≡ 0) × (0x30000008 ≤ start_of placed k) × (start_of placed k ≤ 0x38010000)
  near = start_inside placed k h.old.inside k_in

  readable_there : IsReadable m (start_of placed k + 8 * n)
  readable_there = let e = size_is in let p = near in h.readable.each k (start_of placed k + 8 * n) k_in (omega (arith, p)) (omega (arith, p))
      (omega (arith, e, inside))

  -- another word stays
  stays : (y : ℕ) → start_of placed k + 8 * n ≢ y → memory_word m' y ≡ memory_word m y
  stays y d = other_word m (start_of placed k + 8 * n) y value d

  head_differs : (j : ℕ) → j < length placed → start_of placed k + 8 * n ≢ start_of placed j - 8
  head_differs j l q =
      let p = near in
      let e = size_is in
      ⊎_elim
      (λ (t : j ≡ k). let f : start_of placed j ≡ start_of placed k = ap (start_of placed) t in omega (arith, q, f, p))
      (λ d. ⊎_elim (λ z. omega (arith, q, z, p)) (λ z. omega (arith, q, z, e, inside)) (blocks_apart placed j k h.old.apart l k_in d))
      (same_or_not j k)

  cell_differs : (j i : ℕ) → j < length placed → i < cells_of_block placed j → ((j ≡ k) → i ≢ n) → start_of placed k + 8 * n ≢ start_of placed j + 8 * i
  cell_differs j i l w d q =
      let e = size_is in
      let p = start_inside placed j h.old.inside l in
      ⊎_elim
      (λ (t : j ≡ k). let f : start_of placed j ≡ start_of placed k = ap (start_of placed) t in d t (omega (arith, q, f)))
      (λ o. ⊎_elim (λ z. omega (arith, q, z, w)) (λ z. omega (arith, q, z, e, inside)) (blocks_apart placed j k h.old.apart l k_in o))
      (same_or_not j k)

  -- a block as it is then
  set_by : (j : ℕ) (y : HeapBlock) → slice_get (slice_set a.memory.blocks k new_block) j ≡ Some y → ((j ≡ k) × (y ≡ new_block))
      ⊎ ((j ≢ k) × (slice_get a.memory.blocks j ≡ Some y))
  set_by j y e =
      ⊎_elim
      (λ (t : j ≡ k). inl (
        t,
        (let f : slice_get (slice_set a.memory.blocks k new_block) k ≡ Some y = subst (λ i. slice_get (slice_set a.memory.blocks k new_block) i ≡ Some y) t e in
            one_of (set_same a.memory.blocks k new_block b there) f),
      ))
      (λ d. inr (d, sym (set_other a.memory.blocks k j new_block (λ q. d (sym q))) ∙ e))
      (same_or_not j k)
    where
      one_of : {o : Option HeapBlock} {p q : HeapBlock} → o ≡ Some p → o ≡ Some q → q ≡ p
      one_of e f = cc

  header_as : (j : ℕ) → header_in (slice_get (slice_set a.memory.blocks k new_block) j) ≡ header_in (slice_get a.memory.blocks j)
  header_as j =
      ⊎_elim
      (λ (t : j ≡ k). subst (λ i. header_in (slice_get (slice_set a.memory.blocks k new_block) i) ≡ header_in (slice_get a.memory.blocks i)) (sym t)
      (ap header_in (set_same a.memory.blocks k new_block b there) ∙ sym (ap header_in there)))
      (λ d. ap header_in (set_other a.memory.blocks k j new_block (λ q. d (sym q))))
      (same_or_not j k)

  size_as : (j : ℕ) → size_in (slice_get (slice_set a.memory.blocks k new_block) j) ≡ size_in (slice_get a.memory.blocks j)
  size_as j =
      ⊎_elim
      (λ (t : j ≡ k). subst (λ i. size_in (slice_get (slice_set a.memory.blocks k new_block) i) ≡ size_in (slice_get a.memory.blocks i)) (sym t)
      (ap size_in (set_same a.memory.blocks k new_block b there) ∙ length-set b.cells n x ∙ sym (ap size_in there)))
      (λ d. ap size_in (set_other a.memory.blocks k j new_block (λ q. d (sym q))))
      (same_or_not j k)

  -- what a cell then holds: the one that was written this value, another what it held
  cell_as : (j i : ℕ) (v : Value) → cond (is_among_cells (InBlock j i) unwritten) None (cell_in (slice_get (slice_set a.memory.blocks k new_block) j) i) ≡ Some v →
      ((j ≡ k) × (i ≡ n) × (v ≡ x)) ⊎ (((j ≡ k) → i ≢ n) × ((blocks_of a).cell j i ≡ Some v))
  cell_as j i v e = ⊎_elim (λ (t : j ≡ k). ⊎_elim (λ (u : i ≡ n). inl (t, u, here t u)) (λ d. inr ((λ q. d), other (λ q. d))) (same_or_not i n))
      (λ d. inr ((λ q. absurd (d q)), other (λ q. absurd (d q)))) (same_or_not j k)
    where
      parts : (t : Bool) (o : Option Value) → cond t None o ≡ Some v → (t ≡ false) × (o ≡ Some v)
      parts true o e = absurd (cc)
      parts false o e = (refl, e)

      here : j ≡ k → i ≡ n → v ≡ x
      here t u =
          let p = (parts (is_among_cells (InBlock j i) unwritten) (cell_in (slice_get (slice_set a.memory.blocks k new_block) j) i) e).1 in
          let q : cell_in (slice_get (slice_set a.memory.blocks k new_block) k) n ≡ Some v = subst (λ z. cell_in (slice_get
          (slice_set a.memory.blocks k new_block) z) n ≡ Some v) t (subst (λ z. cell_in (slice_get
          (slice_set a.memory.blocks k new_block) j) z ≡ Some v) u p) in
          let r : cell_in (slice_get (slice_set a.memory.blocks k new_block) k) n ≡ Some x = ap (λ o. cell_in o n)
          (set_same a.memory.blocks k new_block b there) ∙ set_there b.cells n x inside in
          cc

      unequal : InBlock j i ≡ InBlock k n → (j ≡ k) × (i ≡ n)
      unequal q = (cc, cc)

      old_cell : ((j ≡ k) → i ≢ n) → cell_in (slice_get (slice_set a.memory.blocks k new_block) j) i ≡ cell_in (slice_get a.memory.blocks j) i
      old_cell d =
          ⊎_elim
          (λ (t : j ≡ k). subst (λ z. cell_in (slice_get (slice_set a.memory.blocks k new_block) z) i ≡ cell_in (slice_get a.memory.blocks z) i) (sym t)
          (ap (λ o. cell_in o i) (set_same a.memory.blocks k new_block b there) ∙ set_other b.cells n i x (λ q. d t (sym q))
          ∙ sym (ap (λ o. cell_in o i) there)))
          (λ o. ap (λ q. cell_in q i) (set_other a.memory.blocks k j new_block (λ q. o (sym q))))
          (same_or_not j k)

      other : ((j ≡ k) → i ≢ n) → (blocks_of a).cell j i ≡ Some v
      other d =
          let p = parts (is_among_cells (InBlock j i) unwritten) (cell_in (slice_get (slice_set a.memory.blocks k new_block) j) i) e in
          ⊎_elim (λ q. let u = unequal q in absurd (d u.0 u.1))
          (λ f. ap (λ t. cond t None (cell_in (slice_get a.memory.blocks j) i)) f ∙ sym (old_cell d) ∙ p.1)
          (fewer (InBlock j i) p.0)

  pub heap_stored : HeapStands s placed (write m (start_of placed k + 8 * n) value) stored_around
  heap_stored =
      let p = near in
      record {
        old = h.old;
        readable = record { each = λ j y l e lo hi. readable_write m (start_of placed k + 8 * n) y value (h.readable.each j y l e lo hi) };
        stand = record {
          count = length-set a.memory.blocks k new_block ∙ h.stand.count;
          sizes = λ j l. h.stand.sizes j l ∙ sym (size_as j);
          header = λ j w l e.
              stays (start_of placed j - 8) (head_differs j l) ∙ h.stand.header j w l (head_before j w (is_among_cells (InHeader j) unwritten) refl e);
          cell = λ j i v l w e.
              ⊎_elim
              (λ q.
              let here : start_of placed k + 8 * n ≡ start_of placed j + 8 * i =
              subst (λ z. start_of placed k + 8 * n ≡ start_of placed z + 8 * i) (sym q.0)
              (subst (λ z. start_of placed k + 8 * n ≡ start_of placed k + 8 * z) (sym q.1) refl) in
              subst (λ y. memory_word m' y ≡ value_word s.image placed v) here
              (word_same m (start_of placed k + 8 * n) value (formed_regions (extents s.image s.heap s.base) m regions) readable_there small ∙ stands.is
              ∙ ap (value_word s.image placed) (sym q.2)))
              (λ q. stays (start_of placed j + 8 * i) (cell_differs j i l w q.0) ∙ h.stand.cell j i v l w q.1)
              (cell_as j i v e);
          known = λ j i v l e. ⊎_elim (λ q. subst (IsKnown s.image (length placed)) (sym q.2) stands.known) (λ q. h.stand.known j i v l q.1) (cell_as j i v e);
        };
        heads = λ j y e. ⊎_elim
            (λ q. subst (λ z. cells_of_header z.header ≡ length z.cells) (sym q.1) (h.heads k b there ∙ sym (length-set b.cells n x)))
            (λ q. h.heads j y q.1)
            (set_by j y e);
        fits = λ j i y v e f. ⊎_elim
            (λ q. subst (λ z. FitsCell s.image (length placed) (is_scanned y.header) z) (sym q.2)
            (⊎_elim (λ r. subst (λ z. FitsCell s.image (length placed) (is_scanned z.header) x) (sym r.1) fits) (λ r. absurd (r.0 q.0)) (set_by j y e)))
            (λ q. ⊎_elim
            (λ r. subst (λ z. FitsCell s.image (length placed) (is_scanned z.header) v) (sym r.1)
            (h.fits j i b v (subst (λ z. slice_get a.memory.blocks z ≡ Some b) (sym r.0) there) q.1))
            (λ r. h.fits j i y v r.1 q.1)
            (set_by j y e))
            (cell_as j i v f);
        statics = statics_stay s placed m m' a.memory (slice_set a.memory.blocks k new_block)
            (λ y even l. held_other m (start_of placed k + 8 * n) y value even (λ q. omega (arith, q, l, p))) h.statics;
        lie = lie_blocks s.image a.memory (slice_set a.memory.blocks k new_block) h.lie;
      }
    where
      not_cell : (j : ℕ) → InHeader j ≡ InBlock k n → ⊥
      not_cell j q = absurd (cc)

      head_before : (j w : ℕ) (t : Bool) → is_among_cells (InHeader j) unwritten ≡ t →
          cond t None (header_in (slice_get (slice_set a.memory.blocks k new_block) j)) ≡ Some w → (blocks_of a).header j ≡ Some w
      head_before j w true f e = absurd (cc)
      head_before j w false f e =
          ⊎_elim (λ q. absurd (not_cell j q)) (λ g. ap (λ t. cond t None (header_in (slice_get a.memory.blocks j))) g ∙ sym (header_as j) ∙ e)
          (fewer (InHeader j) f)
