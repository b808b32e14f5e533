-- Stores of every chunk follow their lines.
use Rattle.std.proofs.Common.{◌≡◌, ℕ, ◌+◌, ◌-◌, ◌*◌, ◌%◌, ◌^◌, ◌<◌, ◌≤◌, ◌⊎◌, inl, inr, Bool, true, false, cond, List, [], length, Some, Result, Ok, Err, refl, ap, arith, ◌∙◌, sym, subst, ⊎_elim, slice_get, slice_set, slice_index_or, nat_eq, nat_lt, nat_le}
use Rattle.bs_words.specs.Fits.{data_start, fits, misfit}
use Rattle.bs_words.specs.Memory.{Cell, cell_at, end_of_data, offset_in_cell, value_in_cell, width, HeapBlock, InBlock, InHeader, InStatic, Memory, in_statics, put_in, put_part, put_whole, replaced, stored_as, stored_in, type_in, type_of_cells, with_cell_value}
use Rattle.bs_words.specs.Memory as memory
use Rattle.bs_words.specs.declared.types.Chunk.{Chunk}
use Rattle.bs_words.specs.declared.types.Chunk.TheVariants as chunk
use Rattle.bs_words.specs.declared.types.Ty.{Ty}
use Rattle.bs_words.specs.declared.types.Ty.TheVariants as ty
use Rattle.bs_words.specs.declared.values.Kind.{Kind}
use Rattle.bs_words.specs.declared.values.Value.{Value}
use Rattle.bs_words.specs.declared.values.Value.TheVariants.{Word, Block, Function}
use Rattle.bs_words.proofs.Truths.{bool_same}
use Rattle.mach_ir.specs.Acts.{Act, Around, Goes, On, Stuck, is_among_cells, after_store, first_written, stuck_unless, stored_act, without}
use Rattle.rv_machine.specs.Hart.{Placed}
use Rattle.rv_machine.specs.Memory.{Region, write}
use Rattle.lin_machine.specs.Relation.{StandsFor, HeapStands}
use Rattle.lin_machine.specs.View.{Fixed}
use Rattle.line_values.proofs.Cells.{Lies, head_cell, own_cell, static_cell, Reached}
use Rattle.std.proofs.lemmas.Bool.{eqb-true, leb-true, le-leb, ltb-true, lt-ltb}
use Rattle.std.proofs.lemmas.Option.{get_or_from_slice_get}
use Rattle.rv_machine.proofs.Bytes.{replaced-below}
use Rattle.moving_laws.specs.Values.{FitsCell, IsKnown, start_of}
use Rattle.rv_machine.specs.Moving.{is_scanned}
use Rattle.rv_machine.specs.Sound.{HasRegions, extents}
use Rattle.lin_machine.proofs.Storing.{heap_stored, without_is}
use Rattle.lin_machine.proofs.Writing.{heap_headed}
use Rattle.moving_laws.specs.Words.{IsReadable, held_word}
use Rattle.moving_laws.proofs.Held.{held_below, hold}
use Rattle.moving_laws.proofs.Fitting.{int_still}
use Rattle.lin_machine.proofs.Statics.{hold_readable}
use Rattle.line_values.proofs.Statics.{static_stored, val_of}

-- ---- the value of a cell after a store

ok_memory : {x z : Memory} → ◌≡◌ {A = Result Memory Kind} (Ok x) (Ok z) → x ≡ z
ok_memory e = cc

-- a memory in which a cell has a value that fits it
record Puts (s : Fixed) (placed : List Placed) (memory after : Memory) (cell : Cell) (w : ℕ) : Type 0 where
  pub value : Value
  pub is : after ≡ with_cell_value memory cell value
  pub fits_cell : fits (end_of_data memory) (type_in memory cell) value ≡ true
  pub stands : StandsFor s placed w value

put_by : (end : ℕ) (memory after : Memory) (cell : Cell) (v : Value) → put_in end memory cell v ≡ Ok after →
    (after ≡ with_cell_value memory cell v) × (fits end (type_in memory cell) v ≡ true)
put_by end memory after cell v e = by_test (fits end (type_in memory cell) v) refl e
  where
    by_test : (t : Bool) → fits end (type_in memory cell) v ≡ t → cond t (Ok (with_cell_value memory cell v)) (Err (misfit (type_in memory cell))) ≡ Ok after →
        (after ≡ with_cell_value memory cell v) × (t ≡ true)
    by_test true t e = (sym (ok_memory e), refl)
    by_test false t e = absurd (cc)

whole_by : (t : Ty) (end : ℕ) (memory after : Memory) (cell : Cell) (v : Value) → put_whole t end memory cell v ≡ Ok after → put_in end memory cell v ≡ Ok after
whole_by t end memory after cell v e = by_test (fits end t v) e
  where
    by_test : (b : Bool) → cond b (put_in end memory cell v) (Err (misfit t)) ≡ Ok after → put_in end memory cell v ≡ Ok after
    by_test true e = e
    by_test false e = absurd (cc)

part_by : (end : ℕ) (memory after : Memory) (cell : Cell) (from bytes : ℕ) (old new : Value) → put_part end memory cell from bytes old new ≡ Ok after →
    (x y : ℕ) × (old ≡ Word x) × (new ≡ Word y) × (put_in end memory cell (Word (replaced x from bytes y)) ≡ Ok after)
part_by end memory after cell from bytes (Word x) (Word y) e = (x, y, refl, refl, e)
part_by end memory after cell from bytes (Word x) (Block k o) e = absurd (cc)
part_by end memory after cell from bytes (Word x) (Function f) e = absurd (cc)
part_by end memory after cell from bytes (Block k o) new e = absurd (cc)
part_by end memory after cell from bytes (Function f) new e = absurd (cc)

module _ (s : Fixed) (placed : List Placed) (memory after : Memory) (cell : Cell) (old w from : ℕ) (small : old < 2 ^ 64) (fits_w : w < 2 ^ 64) (v : Value)
    (stands : StandsFor s placed w v) where
  whole_puts : (t : Ty) → from + 8 ≤ 8 → put_whole t (end_of_data memory) memory cell v ≡ Ok after → Puts s placed memory after cell (replaced old from 8 w)
  whole_puts t l e =
      let p = put_by (end_of_data memory) memory after cell v (whole_by t (end_of_data memory) memory after cell v e) in
      let zero : from ≡ 0 = omega (arith, l) in
      let same : replaced old from 8 w ≡ w = ap (λ z. replaced old z 8 w) zero ∙ at_zero in
      record { value = v; is = p.0; fits_cell = p.1; stands = subst (λ z. StandsFor s placed z v) (sym same) stands }
    where
      at_zero : replaced old 0 8 w ≡ w
      at_zero = omega (arith, small, fits_w)

  part_puts : (bytes : ℕ) → StandsFor s placed old (value_in_cell memory cell) →
      put_part (end_of_data memory) memory cell from bytes (value_in_cell memory cell) v ≡ Ok after → Puts s placed memory after cell (replaced old from bytes w)
  part_puts bytes before e =
      let g = part_by (end_of_data memory) memory after cell from bytes (value_in_cell memory cell) v e in
      let p = put_by (end_of_data memory) memory after cell (Word (replaced g.0 from bytes g.1)) g.4 in
      let is_old : old ≡ g.0 = (subst (StandsFor s placed old) g.2 before).is in
      let is_new : w ≡ g.1 = (subst (StandsFor s placed w) g.3 stands).is in
      record {
        value = Word (replaced g.0 from bytes g.1);
        is = p.0;
        fits_cell = p.1;
        stands = record { is = ap (λ z. replaced z from bytes w) is_old ∙ ap (replaced g.0 from bytes) is_new; known = tt };
      }

  -- a store of a whole cell, or into a cell that has been written
  puts : (k : Chunk) → from + width k ≤ 8 → (width k ≡ 8) ⊎ StandsFor s placed old (value_in_cell memory cell) →
      stored_as k (end_of_data memory) memory cell from v ≡ Ok after → Puts s placed memory after cell (replaced old from (width k) w)
  puts chunk.Int l before e = whole_puts ty.Int l e
  puts chunk.Val l before e = whole_puts ty.Val l e
  puts chunk.U8 l (inl f) e = absurd (omega (arith, f))
  puts chunk.I8 l (inl f) e = absurd (omega (arith, f))
  puts chunk.U16 l (inl f) e = absurd (omega (arith, f))
  puts chunk.I16 l (inl f) e = absurd (omega (arith, f))
  puts chunk.U32 l (inl f) e = absurd (omega (arith, f))
  puts chunk.I32 l (inl f) e = absurd (omega (arith, f))
  puts chunk.U8 l (inr before) e = part_puts 1 before e
  puts chunk.I8 l (inr before) e = part_puts 1 before e
  puts chunk.U16 l (inr before) e = part_puts 2 before e
  puts chunk.I16 l (inr before) e = part_puts 2 before e
  puts chunk.U32 l (inr before) e = part_puts 4 before e
  puts chunk.I32 l (inr before) e = part_puts 4 before e

-- ---- where the cells of blocks lie

scan_same : (h : ℕ) → nat_lt (h % 2 ^ 8) 251 ≡ nat_le (h % 256) 250
scan_same h =
    bool_same _ _ (λ e. let l = ltb-true (h % 2 ^ 8) 251 e in le-leb (h % 256) 250 (omega (arith, l)))
    (λ e. let l = leb-true (h % 256) 250 e in lt-ltb (h % 2 ^ 8) 251 (omega (arith, l)))

-- ---- what is where a word is written

fits_by : (s : Fixed) (count end : ℕ) (t : Bool) (v : Value) → end ≤ data_start + length s.image.bytes → IsKnown s.image count v →
    fits end (cond t ty.Val ty.Int) v ≡ true → FitsCell s.image count t v
fits_by s count end true v l known e = val_of s.image count end v l known e
fits_by s count end false v l known e = int_still end v e

module _ (s : Fixed) (placed : List Placed) (m : List Region) (regions : HasRegions (extents s.image s.heap s.base) m) (a : Around)
    (h : HeapStands s placed m a) (at value : ℕ) (small : value < 2 ^ 64) where
  block_puts : (k j : ℕ) (b : HeapBlock) → slice_get a.memory.blocks k ≡ Some b → j < length b.cells → at ≡ start_of placed k + 8 * j → IsReadable m at →
      (after : Memory) → Puts s placed a.memory after (InBlock k j) value → (unwritten : List Cell) →
      ((c : Cell) → is_among_cells c unwritten ≡ false → (c ≡ InBlock k j) ⊎ (is_among_cells c a.unwritten ≡ false)) →
      HeapStands s placed (hold m at value) (record a { memory = after; unwritten = unwritten })
  block_puts k j b there inside e can after p unwritten fewer =
      let ends = h.lie.ends in
      let block : slice_index_or a.memory.blocks k (record { header = 0; cells = [] }) ≡ b =
      get_or_from_slice_get a.memory.blocks k b (record { header = 0; cells = [] }) there in
      let scanned : fits (end_of_data a.memory) (cond (is_scanned b.header) ty.Val ty.Int) p.value ≡ true =
      ap (λ t. fits (end_of_data a.memory) (cond t ty.Val ty.Int) p.value) (scan_same b.header)
      ∙ ap (λ (z : HeapBlock). fits (end_of_data a.memory) (type_of_cells z.header) p.value) (sym block) ∙ p.fits_cell in
      let heap = heap_stored s placed m regions a h k j value p.value b there inside small p.stands
      (fits_by s (length placed) (end_of_data a.memory) (is_scanned b.header) p.value (omega (arith, ends)) p.stands.known scanned) unwritten fewer in
      subst (λ q. HeapStands s placed q (record a { memory = after; unwritten = unwritten })) (sym (hold_readable s m regions at value can small))
      (subst (λ x. HeapStands s placed (write m x value) (record a { memory = after; unwritten = unwritten })) (sym e)
      (subst (λ (x : Memory). HeapStands s placed (write m (start_of placed k + 8 * j) value) (record a { memory = x; unwritten = unwritten }))
      (ap (λ (z : HeapBlock). record (a.memory) { blocks = slice_set a.memory.blocks k (record z { cells = slice_set z.cells j p.value }) }) (sym block)
      ∙ sym p.is) heap))

  static_puts : (l j : ℕ) → at % 8 ≡ 0 → in_statics 0 a.memory.statics at 1 ≡ Some (InStatic l j) → (after : Memory) →
      Puts s placed a.memory after (InStatic l j) value → HeapStands s placed (hold m at value) (record a { memory = after; unwritten = a.unwritten })
  static_puts l j even there after p =
      subst (λ (x : Memory). HeapStands s placed (hold m at value) (record a { memory = x; unwritten = a.unwritten })) (sym p.is)
      (static_stored s placed m regions a h at value l j p.value even there small p.stands p.fits_cell)

-- ---- each store

module _ (s : Fixed) (placed : List Placed) (m : List Region) (regions : HasRegions (extents s.image s.heap s.base) m) (a : Around)
    (h : HeapStands s placed m a) (ch : Chunk) (x v : Value) (w : ℕ) (fits_w : w < 2 ^ 64) (stands : StandsFor s placed w v)
    (Then : Act → Type 0) (stuck : Then Stuck) where
  module _ (cell : Cell) (there : cell_at a.memory (width ch) x ≡ Some cell) (reach : Reached s placed m a x (width ch) cell)
      (go : (memory : Memory) (unwritten : List Cell) →
      HeapStands s placed (hold m reach.at (replaced (held_word m reach.at) reach.byte (width ch) w)) (record a { memory = memory; unwritten = unwritten }) →
      Then (Goes [] On (record a { memory = memory; unwritten = unwritten }))) where
    old_small : held_word m reach.at < 2 ^ 64
    old_small = held_below m reach.at regions.each

    new_small : replaced (held_word m reach.at) reach.byte (width ch) w < 2 ^ 64
    new_small = replaced-below (held_word m reach.at) reach.byte (width ch) w reach.inside (held_below m reach.at regions.each)

    stored_is : memory.stored ch a.memory x v ≡ stored_in ch a.memory reach.byte (Some cell) v
    stored_is = ap (λ o. stored_in ch a.memory (offset_in_cell x) o v) there ∙ ap (λ o. stored_in ch a.memory o (Some cell) v) reach.offset

    -- where the cell is no header
    puts_of : (after : Memory) → (width ch ≡ 8) ⊎ (is_among_cells cell a.unwritten ≡ false) →
        stored_as ch (end_of_data a.memory) a.memory cell reach.byte v ≡ Ok after →
        Puts s placed a.memory after cell (replaced (held_word m reach.at) reach.byte (width ch) w)
    puts_of after before e =
        puts s placed a.memory after cell (held_word m reach.at) w reach.byte (held_below m reach.at regions.each) fits_w v stands ch reach.inside
        (⊎_elim (λ f. inl f) (λ f. inr (reach.is f)) before) e

    by_result : (unwritten : List Cell) (o : Result Memory Kind) →
        ((after : Memory) → o ≡ Ok after → HeapStands s placed (hold m reach.at (replaced (held_word m reach.at) reach.byte (width ch) w))
        (record a { memory = after; unwritten = unwritten })) → Then (after_store a unwritten o)
    by_result unwritten (Ok after) f = go after unwritten (f after refl)
    by_result unwritten (Err kind) f = stuck

  -- the header of a block: written first, as the allocation says it
  head_goes : (k : ℕ) (b : HeapBlock) → slice_get a.memory.blocks k ≡ Some b → k < length placed → cell_at a.memory (width ch) x ≡ Some (InHeader k) →
      (reach : Reached s placed m a x (width ch) (InHeader k)) → reach.at ≡ start_of placed k - 8 →
      ((memory : Memory) (unwritten : List Cell) →
      HeapStands s placed (hold m reach.at (replaced (held_word m reach.at) reach.byte (width ch) w)) (record a { memory = memory; unwritten = unwritten }) →
      Then (Goes [] On (record a { memory = memory; unwritten = unwritten }))) →
      (t : Bool) → is_among_cells (InHeader k) a.unwritten ≡ t →
      Then (cond t (first_written ch a (InHeader k) x v) (after_store a a.unwritten (memory.stored ch a.memory x v)))
  head_goes k b there i cell reach at go true f =
      by_chunk ch v stands refl refl
    where
      no_static : (l j : ℕ) → InHeader k ≡ InStatic l j → ⊥
      no_static l j q = absurd (cc)

      header_is : (slice_index_or a.memory.blocks k (record { header = 0; cells = [] })).header ≡ b.header
      header_is = ap (λ (z : HeapBlock). z.header) (get_or_from_slice_get a.memory.blocks k b (record { header = 0; cells = [] }) there)

      whole_word : ch ≡ chunk.Int → replaced (held_word m reach.at) reach.byte (width ch) w ≡ w
      whole_word c =
          let eight : width ch ≡ 8 = ap width c in
          let inside = reach.inside in
          let zero : reach.byte ≡ 0 = omega (arith, inside, eight) in
          ap (λ z. replaced (held_word m reach.at) reach.byte z w) eight ∙ ap (λ z. replaced (held_word m reach.at) z 8 w) zero
          ∙ at_zero (held_word m reach.at) (held_below m reach.at regions.each)
        where
          at_zero : (old : ℕ) → old < 2 ^ 64 → replaced old 0 8 w ≡ w
          at_zero old l = omega (arith, l, fits_w)

      by_word : (y : ℕ) → w ≡ y → ch ≡ chunk.Int → (b' : Bool) →
          nat_eq y (slice_index_or a.memory.blocks k (record { header = 0; cells = [] })).header ≡ b' →
          Then (stuck_unless b' (Goes [] On (record a { unwritten = without (InHeader k) a.unwritten })))
      by_word y e c false g = stuck
      by_word y e c true g =
          let same : w ≡ b.header = e ∙ eqb-true y _ g ∙ header_is in
          let fits_h : b.header < 2 ^ 64 = omega (arith, same, fits_w) in
          let heap = heap_headed s placed m regions a h k b there fits_h (without (InHeader k) a.unwritten)
          (λ d q. without_is (InHeader k) d a.unwritten q) in
          go a.memory (without (InHeader k) a.unwritten)
          (subst (λ q. HeapStands s placed q (record a { unwritten = without (InHeader k) a.unwritten }))
          (sym (hold_readable s m regions reach.at (replaced (held_word m reach.at) reach.byte (width ch) w) (reach.readable no_static)
          (new_small (InHeader k) cell reach go)))
          (subst (λ z. HeapStands s placed (write m z (replaced (held_word m reach.at) reach.byte (width ch) w))
          (record a { unwritten = without (InHeader k) a.unwritten })) (sym at)
          (subst (λ z. HeapStands s placed (write m (start_of placed k - 8) z) (record a { unwritten = without (InHeader k) a.unwritten }))
          (sym (whole_word c ∙ same)) heap)))

      by_chunk : (k' : Chunk) (v' : Value) → StandsFor s placed w v' → ch ≡ k' → v ≡ v' → Then (first_written k' a (InHeader k) x v')
      by_chunk chunk.Int (Word y) st c q =
          by_word y st.is c (nat_eq y (slice_index_or a.memory.blocks k (record { header = 0; cells = [] })).header) refl
      by_chunk chunk.Int (Block j o) st c q = stuck
      by_chunk chunk.Int (Function g) st c q = stuck
      by_chunk chunk.Val v' st c q = stuck
      by_chunk chunk.U8 v' st c q = stuck
      by_chunk chunk.I8 v' st c q = stuck
      by_chunk chunk.U16 v' st c q = stuck
      by_chunk chunk.I16 v' st c q = stuck
      by_chunk chunk.U32 v' st c q = stuck
      by_chunk chunk.I32 v' st c q = stuck
  head_goes k b there i cell reach at go false f =
      subst (λ o. Then (after_store a a.unwritten o)) (sym (stored_is (InHeader k) cell reach go)) stuck

  block_static : (k j l i : ℕ) → InBlock k j ≡ InStatic l i → ⊥
  block_static k j l i q = absurd (cc)

  own_goes : (k j : ℕ) (b : HeapBlock) → slice_get a.memory.blocks k ≡ Some b → j < length b.cells → cell_at a.memory (width ch) x ≡ Some (InBlock k j) →
      (reach : Reached s placed m a x (width ch) (InBlock k j)) → reach.at ≡ start_of placed k + 8 * j →
      ((memory : Memory) (unwritten : List Cell) →
      HeapStands s placed (hold m reach.at (replaced (held_word m reach.at) reach.byte (width ch) w)) (record a { memory = memory; unwritten = unwritten }) →
      Then (Goes [] On (record a { memory = memory; unwritten = unwritten }))) →
      (t : Bool) → is_among_cells (InBlock k j) a.unwritten ≡ t →
      Then (cond t (first_written ch a (InBlock k j) x v) (after_store a a.unwritten (memory.stored ch a.memory x v)))
  own_goes k j b there inside cell reach at go false f =
      by_result (InBlock k j) cell reach go a.unwritten (memory.stored ch a.memory x v)
      (λ after e. block_puts s placed m regions a h reach.at (replaced (held_word m reach.at) reach.byte (width ch) w) (new_small (InBlock k j) cell reach go)
      k j b there inside at (reach.readable (λ l i q. block_static k j l i q)) after
      (puts_of (InBlock k j) cell reach go after (inr f) (sym (stored_is (InBlock k j) cell reach go) ∙ e)) a.unwritten (λ c q. inr q))
  own_goes k j b there inside cell reach at go true f = by_width (nat_eq (width ch) 8) refl
    where
      by_width : (t : Bool) → nat_eq (width ch) 8 ≡ t →
          Then (stuck_unless t (after_store a (without (InBlock k j) a.unwritten) (memory.stored ch a.memory x v)))
      by_width false t = stuck
      by_width true t =
          by_result (InBlock k j) cell reach go (without (InBlock k j) a.unwritten) (memory.stored ch a.memory x v)
          (λ after e. block_puts s placed m regions a h reach.at (replaced (held_word m reach.at) reach.byte (width ch) w)
          (new_small (InBlock k j) cell reach go) k j b there inside at (reach.readable (λ l i q. block_static k j l i q)) after
          (puts_of (InBlock k j) cell reach go after (inl (eqb-true (width ch) 8 t)) (sym (stored_is (InBlock k j) cell reach go) ∙ e))
          (without (InBlock k j) a.unwritten) (λ c q. without_is (InBlock k j) c a.unwritten q))

  static_goes : (l j : ℕ) → cell_at a.memory (width ch) x ≡ Some (InStatic l j) → (reach : Reached s placed m a x (width ch) (InStatic l j)) →
      in_statics 0 a.memory.statics reach.at 1 ≡ Some (InStatic l j) →
      ((memory : Memory) (unwritten : List Cell) →
      HeapStands s placed (hold m reach.at (replaced (held_word m reach.at) reach.byte (width ch) w)) (record a { memory = memory; unwritten = unwritten }) →
      Then (Goes [] On (record a { memory = memory; unwritten = unwritten }))) →
      (t : Bool) → is_among_cells (InStatic l j) a.unwritten ≡ t →
      Then (cond t (first_written ch a (InStatic l j) x v) (after_store a a.unwritten (memory.stored ch a.memory x v)))
  static_goes l j cell reach there go true f = stuck
  static_goes l j cell reach there go false f =
      by_result (InStatic l j) cell reach go a.unwritten (memory.stored ch a.memory x v)
      (λ after e. static_puts s placed m regions a h reach.at (replaced (held_word m reach.at) reach.byte (width ch) w)
      (new_small (InStatic l j) cell reach go) l j reach.even there after
      (puts_of (InStatic l j) cell reach go after (inr f) (sym (stored_is (InStatic l j) cell reach go) ∙ e)))

  -- Whatever the cell is: the store is stuck, or the machine's write is that of the memory.
  pub store_goes : (cell : Cell) → cell_at a.memory (width ch) x ≡ Some cell → (reach : Reached s placed m a x (width ch) cell) →
      ((memory : Memory) (unwritten : List Cell) →
      HeapStands s placed (hold m reach.at (replaced (held_word m reach.at) reach.byte (width ch) w)) (record a { memory = memory; unwritten = unwritten }) →
      Then (Goes [] On (record a { memory = memory; unwritten = unwritten }))) →
      Lies placed a reach.at cell → Then (stored_act ch a (Some cell) x v)
  store_goes (InHeader k) cell reach go (head_cell {b} l there at) = head_goes k b there l cell reach at go (is_among_cells (InHeader k) a.unwritten) refl
  store_goes (InBlock k j) cell reach go (own_cell {b} l there inside inside' at) =
      own_goes k j b there inside cell reach at go (is_among_cells (InBlock k j) a.unwritten) refl
  store_goes (InStatic l j) cell reach go (static_cell there) = static_goes l j cell reach there go (is_among_cells (InStatic l j) a.unwritten) refl
