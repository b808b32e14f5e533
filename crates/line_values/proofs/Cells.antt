-- The cell of an access of any width lies at the address of its first byte.
use Rattle.std.proofs.Common.{◌≡◌, ◌≢◌, ℕ, zero, suc, ◌+◌, ◌-◌, ◌*◌, ◌/◌, ◌%◌, ◌^◌, ◌<◌, ◌≤◌, inl, inr, Bool, true, false, cond, ◌==◌, nat_le, List, length, Option, Some, None, slice_get, refl, ap, arith, ◌∙◌, sym, subst}
use Rattle.std.proofs.lemmas.Bool.{cond-true, eq-eqb, eqb-true, le-leb, leb-true}
use Rattle.bs_words.specs.Fits.{data_start}
use Rattle.bs_words.specs.Memory.{Cell, InStatic, cell_at, cell_of_block, in_block, in_statics, offset_in_cell, sizes, value_in_cell, HeapBlock, InBlock, InHeader, IsWidth}
use Rattle.bs_words.specs.Word.{add_word}
use Rattle.bs_words.specs.declared.values.Value.{Value}
use Rattle.bs_words.specs.declared.values.Value.TheVariants.{Word, Block, Function}
use Rattle.mach_ir.specs.Acts.{Around, is_among_cells}
use Rattle.rv_machine.specs.Hart.{Placed}
use Rattle.rv_machine.specs.Memory.{Region}
use Rattle.rv_machine.specs.Sound.{HasRegions, extents}
use Rattle.moving_laws.specs.Values.{start_of, value_word, cells_of_block}
use Rattle.moving_laws.proofs.Rewriting.{start_inside}
use Rattle.lin_machine.specs.Contents.{size_in}
use Rattle.lin_machine.specs.Relation.{HeapStands, StandsFor}
use Rattle.lin_machine.specs.View.{Fixed}
use Rattle.lin_machine.proofs.Loading.{block_there, cell_there, words_end}
use Rattle.lin_machine.proofs.Statics.{data_held, first_in, held_readable, listed_below, readable_held, static_at}
use Rattle.std.proofs.lemmas.Option.{slice_get_within}
use Rattle.line_values.proofs.Bytes.{width_some}
use Rattle.line_values.proofs.Statics.{is_in}
use Rattle.moving_laws.specs.Words.{IsReadable, held_word}
use Rattle.moving_laws.proofs.Held.{IsDataOrAbove, IsHeld}

-- ---- widths

-- the bytes of an access that is aligned lie in one word
pub in_a_word : (a w : ℕ) → IsWidth w → a % w ≡ 0 → a % 8 + w ≤ 8
in_a_word a w (inl e) m = omega (arith, e)
in_a_word a w (inr (inl e)) m = let n : a % 2 ≡ 0 = subst (λ k. a % k ≡ 0) e m in omega (arith, e, n)
in_a_word a w (inr (inr (inl e))) m = let n : a % 4 ≡ 0 = subst (λ k. a % k ≡ 0) e m in omega (arith, e, n)
in_a_word a w (inr (inr (inr e))) m = let n : a % 8 ≡ 0 = subst (λ k. a % k ≡ 0) e m in omega (arith, e, n)

-- and so they do where a multiple of 8 is added
still_aligned : (a b w : ℕ) → IsWidth w → b % 8 ≡ a % 8 → a % w ≡ 0 → b % w ≡ 0
still_aligned a b w (inl e) q m = let h : b % 1 ≡ 0 = omega arith in subst (λ k. b % k ≡ 0) (sym e) h
still_aligned a b w (inr (inl e)) q m =
    let n : a % 2 ≡ 0 = subst (λ k. a % k ≡ 0) e m in let h : b % 2 ≡ 0 = omega (arith, n, q) in subst (λ k. b % k ≡ 0) (sym e) h
still_aligned a b w (inr (inr (inl e))) q m =
    let n : a % 4 ≡ 0 = subst (λ k. a % k ≡ 0) e m in let h : b % 4 ≡ 0 = omega (arith, n, q) in subst (λ k. b % k ≡ 0) (sym e) h
still_aligned a b w (inr (inr (inr e))) q m =
    let n : a % 8 ≡ 0 = subst (λ k. a % k ≡ 0) e m in let h : b % 8 ≡ 0 = omega (arith, n, q) in subst (λ k. b % k ≡ 0) (sym e) h

-- ---- where it lies

-- the header or a cell of a block, or a cell of static data, by the address
pub data Lies (placed : List Placed) (a : Around) (at : ℕ) : Cell → Type 0 where
  head_cell : {k : ℕ} {b : HeapBlock} → k < length placed → slice_get a.memory.blocks k ≡ Some b → at ≡ start_of placed k - 8 →
      Lies placed a at (InHeader k)
  own_cell : {k j : ℕ} {b : HeapBlock} → k < length placed → slice_get a.memory.blocks k ≡ Some b → j < length b.cells → j < cells_of_block placed k →
      at ≡ start_of placed k + 8 * j → Lies placed a at (InBlock k j)
  static_cell : {l j : ℕ} → in_statics 0 a.memory.statics at 1 ≡ Some (InStatic l j) → Lies placed a at (InStatic l j)

-- a cell at the address of its first byte, and so many bytes further the access
pub record Reached (s : Fixed) (placed : List Placed) (m : List Region) (a : Around) (x : Value) (w : ℕ) (cell : Cell) : Type 0 where
  pub at : ℕ
  pub byte : ℕ
  pub address : value_word s.image placed x ≡ at + byte
  pub offset : offset_in_cell x ≡ byte
  pub inside : byte + w ≤ 8
  pub aligned : (at + byte) % w ≡ 0
  pub even : at % 8 ≡ 0
  pub area : IsDataOrAbove s.image at (byte + w)
  pub held : IsHeld m at
  -- the last cell of static data may be cut off
  pub readable : ((l j : ℕ) → cell ≡ InStatic l j → ⊥) → IsReadable m at
  pub low : 0x10000000 ≤ at
  pub no_limit : at ≢ 0x20000000
  pub below : at < 0x38010000
  pub lies : Lies placed a at cell
  -- what is there once it has been written
  pub is : is_among_cells cell a.unwritten ≡ false → StandsFor s placed (held_word m at) (value_in_cell a.memory cell)

module _ (s : Fixed) (placed : List Placed) (m : List Region) (regions : HasRegions (extents s.image s.heap s.base) m) (a : Around)
    (h : HeapStands s placed m a) (w : ℕ) (width : IsWidth w) where
  some_is : {p q : Cell} → Some p ≡ Some q → p ≡ q
  some_is e = cc

  if_true : (t : Bool) (o : Option Cell) (cell : Cell) → cond t o None ≡ Some cell → (t ≡ true) × (o ≡ Some cell)
  if_true true o cell e = (refl, e)
  if_true false o cell e = absurd (cc)

  block_same : (k o : ℕ) (n : Option ℕ) (cell : Cell) → o % 8 + w ≤ 8 → in_block k n ((o + 8) % 2 ^ 64) w ≡ Some cell →
      in_block k n ((o - o % 8 + 8) % 2 ^ 64) 8 ≡ Some cell
  block_same k o None cell inside e = absurd (cc)
  block_same k o (Some n) cell inside e =
      let p = if_true (nat_le ((o + 8) % 2 ^ 64 + w) (8 * (n + 1))) (Some (cell_of_block k ((o + 8) % 2 ^ 64 / 8))) cell e in
      let room = leb-true ((o + 8) % 2 ^ 64 + w) (8 * (n + 1)) p.0 in
      let one = width_some w width in
      let same : (o - o % 8 + 8) % 2 ^ 64 / 8 ≡ (o + 8) % 2 ^ 64 / 8 = omega arith in
      cond-true (nat_le ((o - o % 8 + 8) % 2 ^ 64 + 8) (8 * (n + 1))) _ _ (le-leb ((o - o % 8 + 8) % 2 ^ 64 + 8) (8 * (n + 1)) (omega (arith, room, one)))
      ∙ ap (λ i. Some (cell_of_block k i)) same ∙ p.1

  place_by : (start o n words from i : ℕ) → 0x30000008 ≤ start → start % 8 ≡ 0 → start + 8 * words ≤ 0x38010000 → words ≡ n → from ≡ (o + 8) % 2 ^ 64 →
      from + 8 ≤ 8 * (n + 1) → o % 8 ≡ 0 → from / 8 ≡ i → (add_word start o + 8 ≡ start + 8 * i) × (i ≤ n)
  unfolding add_word
  place_by start o n words from i low al high e f room even g = (omega (arith, low, al, high, e, f, room, even, g), omega (arith, room, g))

  -- where a cell of a block lies
  block_cell : (k o : ℕ) (cell : Cell) → cell_at a.memory 8 (Block k o) ≡ Some cell → Lies placed a (add_word (start_of placed k) o) cell
  block_cell k o cell e =
      let p = if_true (o % 8 == 0) (in_block k (slice_get (sizes a.memory) k) ((o + 8) % 2 ^ 64) 8) cell e in
      by_size (slice_get (sizes a.memory) k) refl (eqb-true (o % 8) 0 p.0) p.1
    where
      by_size : (n : Option ℕ) → slice_get (sizes a.memory) k ≡ n → o % 8 ≡ 0 → in_block k n ((o + 8) % 2 ^ 64) 8 ≡ Some cell →
          Lies placed a (add_word (start_of placed k) o) cell
      by_size None f even g = absurd (cc)
      by_size (Some n) f even g =
          let p = if_true (nat_le ((o + 8) % 2 ^ 64 + 8) (8 * (n + 1))) (Some (cell_of_block k ((o + 8) % 2 ^ 64 / 8))) cell g in
          let room = leb-true ((o + 8) % 2 ^ 64 + 8) (8 * (n + 1)) p.0 in
          let b = block_there a.memory k n f in
          let within = slice_get_within a.memory.blocks k b.0 b.1 in
          let count = h.stand.count in
          let i : k < length placed = omega (arith, within, count) in
          let near = start_inside placed k h.old.inside i in
          let size : cells_of_block placed k ≡ n = h.stand.sizes k i ∙ ap size_in b.1 ∙ b.2 in
          by_index ((o + 8) % 2 ^ 64 / 8) (some_is p.1)
          (place_by (start_of placed k) o n (cells_of_block placed k) ((o + 8) % 2 ^ 64) ((o + 8) % 2 ^ 64 / 8) near.1 near.0
          (words_end placed k h.old.inside i) size refl
          room even refl)
          b.0 b.1 b.2 i near.1 size
        where
          by_index : (x : ℕ) → cell_of_block k x ≡ cell → (add_word (start_of placed k) o + 8 ≡ start_of placed k + 8 * x) × (x ≤ n) → (b : HeapBlock) →
              slice_get a.memory.blocks k ≡ Some b → length b.cells ≡ n → k < length placed → 0x30000008 ≤ start_of placed k → cells_of_block placed k ≡ n →
              Lies placed a (add_word (start_of placed k) o) cell
          by_index zero c p b there len i low size =
              let e = p.0 in
              let here : add_word (start_of placed k) o ≡ start_of placed k - 8 = omega (arith, e, low) in
              subst (Lies placed a (add_word (start_of placed k) o)) c (head_cell i there here)
          by_index (suc j) c p b there len i low size =
              let e = p.0 in
              let few = p.1 in
              let here : add_word (start_of placed k) o ≡ start_of placed k + 8 * j = omega (arith, e) in
              let inside : j < length b.cells = omega (arith, few, len) in
              let inside' : j < cells_of_block placed k = omega (arith, few, size) in
              subst (Lies placed a (add_word (start_of placed k) o)) c (own_cell i there inside inside' here)

  -- it lies above the data, and can be read
  record IsHigh (at : ℕ) : Type 0 where
    pub high : 0x20000008 ≤ at
    pub below : at < 0x38010000
    pub readable : IsReadable m at

  high_of : (at : ℕ) (cell : Cell) → at % 8 ≡ 0 → Lies placed a at cell → ((l j : ℕ) → cell ≡ InStatic l j → ⊥) → IsHigh at
  high_of at cell even (head_cell {k} {b} l there e) none =
      let near = start_inside placed k h.old.inside l in
      record {
        high = omega (arith, e, near);
        below = omega (arith, e, near);
        readable = h.readable.each k at l even (omega (arith, e)) (omega (arith, e, near));
      }
  high_of at cell even (own_cell {k} {j} {b} l there inside inside' e) none =
      let near = start_inside placed k h.old.inside l in
      record {
        high = omega (arith, e, near);
        below = (let top = words_end placed k h.old.inside l in omega (arith, e, top, inside'));
        readable = h.readable.each k at l even (omega (arith, e)) (omega (arith, e, inside'));
      }
  high_of at cell even (static_cell {l} {j} f) none = absurd (none l j refl)

  no_static : (k o l j : ℕ) → cell_at a.memory 8 (Block k o) ≡ Some (InStatic l j) → ⊥
  no_static k o l j e =
      let p = if_true (o % 8 == 0) (in_block k (slice_get (sizes a.memory) k) ((o + 8) % 2 ^ 64) 8) (InStatic l j) e in
      by_size (slice_get (sizes a.memory) k) p.1
    where
      by_size : (n : Option ℕ) → in_block k n ((o + 8) % 2 ^ 64) 8 ≡ Some (InStatic l j) → ⊥
      by_size None g = absurd (cc)
      by_size (Some n) g =
          by_index ((o + 8) % 2 ^ 64 / 8)
          (some_is (if_true (nat_le ((o + 8) % 2 ^ 64 + 8) (8 * (n + 1))) (Some (cell_of_block k ((o + 8) % 2 ^ 64 / 8))) (InStatic l j) g).1)
        where
          by_index : (x : ℕ) → cell_of_block k x ≡ InStatic l j → ⊥
          by_index zero c = absurd (cc)
          by_index (suc x) c = absurd (cc)

  block_in : (k o : ℕ) (cell : Cell) → cell_at a.memory 8 (Block k o) ≡ Some cell → k < length placed
  block_in k o cell e =
      let p = if_true (o % 8 == 0) (in_block k (slice_get (sizes a.memory) k) ((o + 8) % 2 ^ 64) 8) cell e in
      by_size (slice_get (sizes a.memory) k) refl p.1
    where
      by_size : (n : Option ℕ) → slice_get (sizes a.memory) k ≡ n → in_block k n ((o + 8) % 2 ^ 64) 8 ≡ Some cell → k < length placed
      by_size None f g = absurd (cc)
      by_size (Some n) f g =
          let b = block_there a.memory k n f in
          let within = slice_get_within a.memory.blocks k b.0 b.1 in
          let count = h.stand.count in
          omega (arith, within, count)

  block_bytes : (start o : ℕ) → start % 8 ≡ 0 →
      (add_word start o ≡ add_word start (o - o % 8) + o % 8) × (add_word start (o - o % 8) % 8 ≡ 0)
      × ((add_word start (o - o % 8) + o % 8) % 8 ≡ o % 8)
  unfolding add_word
  block_bytes start o e = (omega (arith, e), omega (arith, e), omega (arith, e))

  static_of : (x : ℕ) (cell : Cell) → in_statics 0 a.memory.statics x 1 ≡ Some cell → (l : ℕ) × (j : ℕ) × (cell ≡ InStatic l j) × Lies placed a x cell
  static_of x cell e =
      let r = is_in 0 a.memory.statics x cell e in
      (0 + r.index, (x - r.list.start) / 8, r.is, subst (Lies placed a x) (sym r.is) (static_cell (e ∙ ap Some r.is)))

  pub reached : (x : Value) (cell : Cell) → cell_at a.memory w x ≡ Some cell → Reached s placed m a x w cell
  reached (Word x) cell e =
      let p = if_true (x % w == 0) (in_statics 0 a.memory.statics x w) cell e in
      let al : x % w ≡ 0 = eqb-true (x % w) 0 p.0 in
      let inside = in_a_word x w width al in
      let sum : x ≡ x - x % 8 + x % 8 = omega arith in
      let there : in_statics 0 a.memory.statics (x - x % 8) 1 ≡ Some cell =
      first_in 0 data_start a.memory.statics (x - x % 8) (x % 8) w cell h.lie.lists (omega arith) (width_some w width) inside
      (subst (λ y. in_statics 0 a.memory.statics y w ≡ Some cell) sum p.1) in
      let value = static_at a.memory (x - x % 8) cell (omega arith) there in
      let place = h.statics.place (x - x % 8) (value_in_cell a.memory cell) value in
      let high = listed_below 0 data_start a.memory.statics x w cell h.lie.lists p.1 in
      let ends = h.lie.ends in
      let lies = static_of (x - x % 8) cell there in
      record {
        at = x - x % 8;
        byte = x % 8;
        address = omega arith;
        offset = refl;
        inside = inside;
        aligned = subst (λ z. z % w ≡ 0) sum al;
        even = omega arith;
        area = inl (omega (arith, high, ends));
        held = data_held s m regions (x - x % 8) place.1 place.2;
        readable = λ none. absurd (none lies.0 lies.1 lies.2);
        low = place.1;
        no_limit = (let short = s.functions.tables.bytes.short in let top = place.2 in λ q. omega (arith, q, short, top));
        below = (let short = s.functions.tables.bytes.short in let top = place.2 in omega (arith, short, top));
        lies = lies.3;
        is = λ written. record {
          is = h.statics.cell (x - x % 8) (value_in_cell a.memory cell) value;
          known = h.statics.known (x - x % 8) (value_in_cell a.memory cell) value;
        };
      }
  reached (Block k o) cell e =
      let p = if_true (o % w == 0) (in_block k (slice_get (sizes a.memory) k) ((o + 8) % 2 ^ 64) w) cell e in
      let al : o % w ≡ 0 = eqb-true (o % w) 0 p.0 in
      let inside = in_a_word o w width al in
      let there : cell_at a.memory 8 (Block k (o - o % 8)) ≡ Some cell =
      cond-true ((o - o % 8) % 8 == 0) _ _ (eq-eqb ((o - o % 8) % 8) 0 (omega arith))
      ∙ block_same k o (slice_get (sizes a.memory) k) cell inside p.1 in
      let i = block_in k (o - o % 8) cell there in
      let near = start_inside placed k h.old.inside i in
      let bytes = block_bytes (start_of placed k) o near.0 in
      let lies = block_cell k (o - o % 8) cell there in
      let up = high_of (add_word (start_of placed k) (o - o % 8)) cell bytes.1 lies (λ l j q. no_static k (o - o % 8) l j (there ∙ ap Some q)) in
      let high = up.high in
      record {
        at = add_word (start_of placed k) (o - o % 8);
        byte = o % 8;
        address = bytes.0;
        offset = refl;
        inside = inside;
        aligned = still_aligned o (add_word (start_of placed k) (o - o % 8) + o % 8) w width bytes.2 al;
        even = bytes.1;
        area = inr (omega (arith, high));
        held = readable_held s m regions (add_word (start_of placed k) (o - o % 8)) up.readable;
        readable = λ none. up.readable;
        low = omega (arith, high);
        no_limit = λ q. omega (arith, q, high);
        below = up.below;
        lies = lies;
        is = λ written. subst (λ z. StandsFor s placed z (value_in_cell a.memory cell))
            (sym (held_readable s m regions (add_word (start_of placed k) (o - o % 8)) up.readable))
            (cell_there s placed m regions a h (Block k (o - o % 8)) cell there written).stands;
      }
  reached (Function f) cell e = absurd (cc)
