-- A cell of a block or of static data, or a header, has the word of its value at its address.
use Rattle.std.proofs.Common.{◌≡◌, ◌≢◌, ℕ, zero, suc, ◌+◌, ◌-◌, ◌*◌, ◌/◌, ◌%◌, ◌^◌, ◌<◌, ◌≤◌, Bool, true, false, cond, ◌==◌, nat_le, List, [], ◌∷◌, length, Option, Some, None, option_map, slice_get, slice_index_or, refl, ap, arith, ◌∙◌, sym, subst, mod-eq_of_lt}
use Rattle.std.specs.List.{AllByRecursion}
use Rattle.std.proofs.lemmas.Bool.{eqb-true, leb-true}
use Rattle.std.proofs.lemmas.Option.{slice_get-map, slice_get_within, get_or_from_slice_get}
use Rattle.bs_words.specs.Memory.{Cell, HeapBlock, InBlock, InHeader, Memory, cell_at, cell_of_block, in_block, sizes, value_in_cell}
use Rattle.bs_words.specs.Word.{add_word}
use Rattle.bs_words.specs.declared.values.Value.{Value}
use Rattle.bs_words.specs.declared.values.Value.TheVariants.{Word, Block, Function}
use Rattle.bs_words.proofs.Lists.{got}
use Rattle.mach_ir.specs.Acts.{Around, is_among_cells, moved_by}
use Rattle.rv_machine.specs.Hart.{Placed}
use Rattle.rv_machine.specs.Memory.{Region, memory_word}
use Rattle.rv_machine.specs.Sound.{HasRegions, extents}
use Rattle.moving_laws.specs.Heap.{IsInHeap}
use Rattle.moving_laws.specs.Values.{start_of, value_word, cells_of_block}
use Rattle.moving_laws.specs.Words.{IsReadable}
use Rattle.moving_laws.proofs.Rewriting.{start_inside}
use Rattle.moving_laws.proofs.Usable.{data_readable}
use Rattle.lin_machine.specs.Contents.{blocks_of, cell_in, header_in, size_in, statics_of}
use Rattle.lin_machine.specs.Relation.{HeapStands, StandsFor}
use Rattle.lin_machine.specs.View.{Fixed}
use Rattle.lin_machine.proofs.Statics.{held_readable, static_whole}

-- ---- lists

-- a block of this size is there
pub block_there : (memory : Memory) (k n : ℕ) → slice_get (sizes memory) k ≡ Some n → (b : HeapBlock) × (slice_get memory.blocks k ≡ Some b)
    × (length b.cells ≡ n)
block_there memory k n e = by_case (slice_get memory.blocks k) refl (sym (slice_get-map (λ (b : HeapBlock). length b.cells) memory.blocks k) ∙ e)
  where
    by_case : (o : Option HeapBlock) → slice_get memory.blocks k ≡ o → option_map (λ (b : HeapBlock). length b.cells) o ≡ Some n → (b : HeapBlock)
        × (slice_get memory.blocks k ≡ Some b) × (length b.cells ≡ n)
    by_case None h f = absurd (cc)
    by_case (Some b) h f = (b, h, let same : Some (length b.cells) ≡ Some n = f in cc)

-- ---- addresses

-- the address so many bytes further
pub moved_word : (s : Fixed) (placed : List Placed) (offset w : ℕ) (x : Value) → offset < 2 ^ 64 → w < 2 ^ 64 → ((f : ℕ) → x ≡ Function f → ⊥) →
    w ≡ value_word s.image placed x → add_word w offset ≡ value_word s.image placed (moved_by offset x)
unfolding add_word
moved_word s placed zero w x l small other e = (let h : w + 0 ≡ w = omega arith in ap (λ n. n % 2 ^ 64) h ∙ mod-eq_of_lt small) ∙ e
moved_word s placed (suc o) w (Word a) l small other e = ap (λ n. (n + suc o) % 2 ^ 64) e
moved_word s placed (suc o) w (Block k p) l small other e = ap (λ n. (n + suc o) % 2 ^ 64) e ∙ sums (start_of placed k) p (suc o)
  where
    sums : (a b c : ℕ) → ((a + b) % 2 ^ 64 + c) % 2 ^ 64 ≡ (a + (b + c) % 2 ^ 64) % 2 ^ 64
    sums a b c = omega arith
moved_word s placed (suc o) w (Function f) l small other e = absurd (other f refl)

-- a pointer's address is that of its byte, counted from the header's first byte
block_address : (start o : ℕ) → 0x30000008 ≤ start → start ≤ 0x38010000 → (o + 8) % 2 ^ 64 ≤ 2 ^ 32 → add_word start o + 8 ≡ start + (o + 8) % 2 ^ 64
unfolding add_word
block_address start o low high most = omega (arith, low, high, most)

-- a block ends below the young area's top
pub words_end : (bs : List Placed) (k : ℕ) → AllByRecursion IsInHeap bs → k < length bs → start_of bs k + 8 * cells_of_block bs k ≤ 0x38010000
words_end [] k all l = absurd (omega (arith, l))
words_end (b ∷ bs) zero all l = all.0.high
words_end (b ∷ bs) (suc k) all l = words_end bs k all.1 (omega (arith, l))

-- ---- what is at an address

-- A word that can be accessed at an address, and what it stands for.
pub record IsCellAt (s : Fixed) (placed : List Placed) (m : List Region) (at : ℕ) (v : Value) : Type 0 where
  pub stands : StandsFor s placed (memory_word m at) v
  pub readable : IsReadable m at
  pub low : 0x10000000 ≤ at
  pub no_limit : at ≢ 0x20000000

module _ (s : Fixed) (placed : List Placed) (m : List Region) (regions : HasRegions (extents s.image s.heap s.base) m) (a : Around)
    (h : HeapStands s placed m a) where
  blocks_count : length a.memory.blocks ≡ length placed
  blocks_count = h.stand.count

  -- a cell that has been written
  unwritten_by : (b : Bool) (o : Option Value) (v : Value) → b ≡ false → o ≡ Some v → cond b None o ≡ Some v
  unwritten_by true o v e f = absurd (cc)
  unwritten_by false o v e f = f

  unheaded_by : (b : Bool) (o : Option ℕ) (w : ℕ) → b ≡ false → o ≡ Some w → cond b None o ≡ Some w
  unheaded_by true o w e f = absurd (cc)
  unheaded_by false o w e f = f

  -- where the bytes of a block lie
  pub in_block_at : (k from : ℕ) (b : HeapBlock) (at : ℕ) → slice_get a.memory.blocks k ≡ Some b → from % 8 ≡ 0 → from + 8 ≤ 8 * (length b.cells + 1) →
      at + 8 ≡ start_of placed k + from →
      is_among_cells (cell_of_block k (from / 8)) a.unwritten ≡ false → IsCellAt s placed m at (value_in_cell a.memory (cell_of_block k (from / 8)))
  in_block_at k from b at there even inside e written =
      let i : k < length placed = let w = slice_get_within a.memory.blocks k b there in let n = blocks_count in omega (arith, w, n) in
      let near = start_inside placed k h.old.inside i in
      let size : cells_of_block placed k ≡ length b.cells = h.stand.sizes k i ∙ ap size_in there in
      let low : 0x30000000 ≤ at = omega (arith, e, near) in
      record {
        stands = by_place (from / 8) refl i near written;
        readable = h.readable.each k at i (omega (arith, e, near, even)) (omega (arith, e)) (omega (arith, e, inside, size));
        low = omega (arith, low);
        no_limit = λ q. omega (arith, q, low);
      }
    where
      by_place : (n : ℕ) → from / 8 ≡ n → k < length placed → (start_of placed k % 8 ≡ 0) × (0x30000008 ≤ start_of placed k)
          × (start_of placed k ≤ 0x38010000) →
          is_among_cells (cell_of_block k n) a.unwritten ≡ false → StandsFor s placed (memory_word m at) (value_in_cell a.memory (cell_of_block k n))
      by_place zero q i near written =
          let here : at ≡ start_of placed k - 8 = omega (arith, e, q, even, near) in
          let head = h.stand.header k b.header i (unheaded_by (is_among_cells (InHeader k) a.unwritten)
          (header_in (slice_get a.memory.blocks k)) b.header written (ap header_in there)) in
          record {
            is = ap (memory_word m) here ∙ head ∙ sym (ap (λ (c : HeapBlock). c.header) (get_or_from_slice_get a.memory.blocks k b (record { header = 0; cells = [] }) there));
            known = tt;
          }
      by_place (suc j) q i near written =
          let here : at ≡ start_of placed k + 8 * j = omega (arith, e, q, even) in
          let within : j < length b.cells = omega (arith, inside, q) in
          let v = got b.cells j within in
          let held : (blocks_of a).cell k j ≡ Some v.0 = unwritten_by (is_among_cells (InBlock k j) a.unwritten)
          (cell_in (slice_get a.memory.blocks k) j) v.0 written (ap (λ o. cell_in o j) there ∙ v.1) in
          let size : cells_of_block placed k ≡ length b.cells = h.stand.sizes k i ∙ ap size_in there in
          let value : value_in_cell a.memory (InBlock k j) ≡ v.0 =
          ap (λ (c : HeapBlock). slice_index_or c.cells j (Word 0)) (get_or_from_slice_get a.memory.blocks k b (record { header = 0; cells = [] }) there)
          ∙ get_or_from_slice_get b.cells j v.0 (Word 0) v.1 in
          subst (StandsFor s placed (memory_word m at)) (sym value)
          (record { is = ap (memory_word m) here ∙ h.stand.cell k j v.0 i (omega (arith, within, size)) held; known = h.stand.known k j v.0 i held })

  -- the address of a value, and the cell that is there
  pub cell_there : (x : Value) (cell : Cell) → cell_at a.memory 8 x ≡ Some cell → is_among_cells cell a.unwritten ≡ false →
      IsCellAt s placed m (value_word s.image placed x) (value_in_cell a.memory cell)
  cell_there (Word w) cell e written =
      let t = static_whole s.image a.memory w cell h.lie e in
      let held : statics_of a.memory w ≡ Some (value_in_cell a.memory cell) = t.2 in
      let place = h.statics.place w (value_in_cell a.memory cell) held in
      let short = s.functions.tables.bytes.short in
      let p2 = t.1 in
      let readable = data_readable s.image s.heap s.base m regions w t.0 place.1 t.1 in
      record {
        stands = record {
          is = sym (held_readable s m regions w readable) ∙ h.statics.cell w (value_in_cell a.memory cell) held;
          known = h.statics.known w (value_in_cell a.memory cell) held;
        };
        readable = readable;
        low = place.1;
        no_limit = λ q. omega (arith, q, p2, short);
      }
  cell_there (Block k o) cell e written = by_even (o % 8 == 0) refl e
    where
      by_size : (n : Option ℕ) → slice_get (sizes a.memory) k ≡ n → o % 8 ≡ 0 → in_block k n ((o + 8) % 2 ^ 64) 8 ≡ Some cell →
          IsCellAt s placed m (value_word s.image placed (Block k o)) (value_in_cell a.memory cell)
      by_size None f even g = absurd (cc)
      by_size (Some n) f even g = by_room (nat_le ((o + 8) % 2 ^ 64 + 8) (8 * (n + 1))) refl g
        where
          by_room : (t : Bool) → nat_le ((o + 8) % 2 ^ 64 + 8) (8 * (n + 1)) ≡ t → cond t (Some (cell_of_block k ((o + 8) % 2 ^ 64 / 8))) None ≡ Some cell →
              IsCellAt s placed m (value_word s.image placed (Block k o)) (value_in_cell a.memory cell)
          by_room false t g = absurd (cc)
          by_room true t g =
              let same : cell_of_block k ((o + 8) % 2 ^ 64 / 8) ≡ cell = some_is g in
              let b = block_there a.memory k n f in
              let room = leb-true ((o + 8) % 2 ^ 64 + 8) (8 * (n + 1)) t in
              let size = b.2 in
              let i : k < length placed = let w = slice_get_within a.memory.blocks k b.0 b.1 in let c = blocks_count in omega (arith, w, c) in
              let near = start_inside placed k h.old.inside i in
              let ends = words_end placed k h.old.inside i in
              let count : cells_of_block placed k ≡ n = h.stand.sizes k i ∙ ap size_in b.1 ∙ size in
              let most : (o + 8) % 2 ^ 64 ≤ 2 ^ 32 = omega (arith, room, ends, count) in
              subst (λ q. IsCellAt s placed m (value_word s.image placed (Block k o)) (value_in_cell a.memory q)) same
              (in_block_at k ((o + 8) % 2 ^ 64) b.0 (value_word s.image placed (Block k o)) b.1 (omega (arith, even)) (omega (arith, room, size))
              (block_address (start_of placed k) o near.1 near.2 most)
              (subst (λ q. is_among_cells q a.unwritten ≡ false) (sym same) written))
            where
              some_is : {p q : Cell} → Some p ≡ Some q → p ≡ q
              some_is e = cc

      by_even : (t : Bool) → (o % 8 == 0) ≡ t → cond t (in_block k (slice_get (sizes a.memory) k) ((o + 8) % 2 ^ 64) 8) None ≡ Some cell →
          IsCellAt s placed m (value_word s.image placed (Block k o)) (value_in_cell a.memory cell)
      by_even false t g = absurd (cc)
      by_even true t g = by_size (slice_get (sizes a.memory) k) refl (eqb-true (o % 8) 0 t) g
  cell_there (Function f) cell e written = absurd (cc)
