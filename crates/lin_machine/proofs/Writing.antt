-- A function over a word of the heap that is written, and the header of a block.
use Rattle.std.proofs.Common.{◌≡◌, ◌≢◌, ℕ, ◌+◌, ◌-◌, ◌*◌, ◌%◌, ◌^◌, ◌<◌, ◌≤◌, ◌⊎◌, Bool, true, false, cond, List, length, map, Some, None, slice_get, slice_index, refl, ap, arith, ◌∙◌, sym, subst, ⊎_elim}
use Rattle.std.proofs.lemmas.Option.{slice_get_within}
use Rattle.bs_words.specs.Memory.{Cell, HeapBlock, InBlock, InHeader, Memory}
use Rattle.bs_words.specs.declared.values.Value.{Value}
use Rattle.lin_ir.specs.Meaning.{Locations}
use Rattle.mach_ir.specs.Acts.{Around, is_among_cells}
use Rattle.rv_machine.specs.Hart.{Placed}
use Rattle.rv_machine.specs.Memory.{Region, memory_word, write}
use Rattle.rv_machine.specs.Sound.{HasRegions, extents}
use Rattle.machine_laws.proofs.Memory.{other_word}
use Rattle.moving_laws.specs.Values.{start_of, cells_of_block}
use Rattle.moving_laws.specs.Waiting.{traps_at}
use Rattle.moving_laws.specs.Words.{IsReadable}
use Rattle.moving_laws.proofs.Held.{held_other}
use Rattle.moving_laws.proofs.Rewriting.{start_inside}
use Rattle.moving_laws.proofs.Usable.{formed_regions}
use Rattle.moving_laws.proofs.Words.{readable_write, same_or_not, word_same}
use Rattle.lin_machine.specs.Contents.{blocks_of, cell_in, header_in}
use Rattle.lin_machine.specs.Relation.{Below, HeapStands, Laid, ReturnStands, StandsFor, Within, blocks_by_serial}
use Rattle.lin_machine.specs.View.{Fixed, View}
use Rattle.lin_machine.proofs.Keeping.{traps_at_all, traps_kept, waits_kept}
use Rattle.lin_machine.proofs.Storing.{blocks_apart, statics_stay}

-- ---- the stack stays where a word below it changes

pub within_changed :
    (s : Fixed) (laid : Laid) (v : View) (young : List Placed) (taken : ℕ) (held : Locations) (a : Around) (c : Below) (m' : List Region) (memory : Memory)
    (unwritten : List Cell) → HasRegions (extents s.image s.heap s.base) m' → ((y : ℕ) → 0x38010008 ≤ y → memory_word m' y ≡ memory_word v.memory y) →
    HeapStands s (blocks_by_serial v young) m' (record a { memory = memory; unwritten = unwritten }) → Within s laid v young taken held a c →
    Within s laid (record v { memory = m' }) young taken held (record a { memory = memory; unwritten = unwritten }) c
within_changed s laid v young taken held a c m' memory unwritten regions keeps heap w =
    let lo = w.low in
    let b = s.stack.low in
    let wl = w.waits.low in
    let high : 0x38010008 ≤ s.base = omega (arith, b) in
    record {
      own = w.own;
      usable = record { regions = regions; heap = w.usable.heap; apart = w.usable.apart };
      frame = w.frame;
      low = w.low;
      carried = w.carried;
      slots = λ k x h.
          let p = w.slots k x h in
          let same = keeps (slice_index v.registers 2 + (8 * k + 16 * length a.tries)) (omega (arith, lo, high)) in
          (p.0, subst (λ z. StandsFor s (blocks_by_serial v young) z x) (sym same) p.1);
      back = return_kept laid.saves refl high w.back;
      waits = waits_kept s (blocks_by_serial v young) v.memory m' c (λ y l h. keeps y (omega (arith, l, wl, high))) w.waits;
      traps = traps_kept s (blocks_by_serial v young) v.memory m' (slice_index v.registers 9)
          (traps_at (slice_index v.registers 2) (map laid.handler a.tries)) c
          (λ y l h. keeps y (omega (arith, l, wl, high)))
          (traps_at_all _ (slice_index v.registers 2) (map laid.handler a.tries)
          (λ y q h. (keeps y (omega (arith, q, lo, high)), keeps (y + 8) (omega (arith, q, lo, high)))))
          w.waits w.traps;
      heap = heap;
    }
  where
    return_kept : (b : Bool) → b ≡ laid.saves → 0x38010008 ≤ s.base → ReturnStands b v c → ReturnStands b (record v { memory = m' }) c
    return_kept true e high h =
        let room : 8 * laid.slots + 8 ≤ laid.frame = subst (λ t. 8 * laid.slots + cond t 8 0 ≤ laid.frame) (sym e) laid.room in
        let f = w.frame in
        let lo = w.low in
        keeps (c.top - 8) (omega (arith, f, lo, room, high)) ∙ h
    return_kept false e high h = h

-- ---- the header of a block is written, as the allocation says it

module _ (s : Fixed) (placed : List Placed) (m : List Region) (regions : HasRegions (extents s.image s.heap s.base) m) (a : Around)
    (h : HeapStands s placed m a)
    (k : ℕ) (b : HeapBlock) (there : slice_get a.memory.blocks k ≡ Some b) (small : b.header < 2 ^ 64) (unwritten : List Cell)
    (fewer : (c : Cell) → is_among_cells c unwritten ≡ false → (c ≡ InHeader k) ⊎ (is_among_cells c a.unwritten ≡ false)) where
  k_in : k < length placed
  k_in = let w = slice_get_within a.memory.blocks k b there in let c = h.stand.count in omega (arith, w, c)

  near : (start_of placed k % 8 ≡ 0) × (0x30000008 ≤ start_of placed k) × (start_of placed k ≤ 0x38010000)
  near = start_inside placed k h.old.inside k_in

  readable_there : IsReadable m (start_of placed k - 8)
  readable_there = let p = near in h.readable.each k (start_of placed k - 8) k_in (omega (arith, p)) (omega (arith, p)) (omega (arith, p))

  abbrev m' : List Region
  m' = write m (start_of placed k - 8) b.header

  cell_differs : (j i : ℕ) → j < length placed → i < cells_of_block placed j → start_of placed k - 8 ≢ start_of placed j + 8 * i
  cell_differs j i l w q =
      let p = near in
      ⊎_elim
      (λ (t : j ≡ k). let f : start_of placed j ≡ start_of placed k = ap (start_of placed) t in omega (arith, q, f, p))
      (λ o. ⊎_elim (λ z. omega (arith, q, z, w, p)) (λ z. omega (arith, q, z, p)) (blocks_apart placed j k h.old.apart l k_in o))
      (same_or_not j k)

  head_differs : (j : ℕ) → j < length placed → j ≢ k → start_of placed k - 8 ≢ start_of placed j - 8
  head_differs j l d q =
      let p = near in
      let r = start_inside placed j h.old.inside l in
      ⊎_elim (λ z. omega (arith, q, z, p, r)) (λ z. omega (arith, q, z, p, r)) (blocks_apart placed j k h.old.apart l k_in d)

  pub heap_headed : HeapStands s placed (write m (start_of placed k - 8) b.header) (record a { unwritten = unwritten })
  heap_headed =
      let p = near in
      record {
        old = h.old;
        readable = record { each = λ j y l e lo hi. readable_write m (start_of placed k - 8) y b.header (h.readable.each j y l e lo hi) };
        stand = record {
          count = h.stand.count;
          sizes = h.stand.sizes;
          header = λ j w l e. ⊎_elim
              (λ (t : j ≡ k).
              let f : (blocks_of (record a { unwritten = unwritten })).header k ≡ Some w = subst (λ z. (blocks_of
              (record a { unwritten = unwritten })).header z ≡ Some w) t e in
              let g : b.header ≡ w = head_is (is_among_cells (InHeader k) unwritten) w f in
              subst (λ z. memory_word m' (start_of placed z - 8) ≡ w) (sym t)
              (word_same m (start_of placed k - 8) b.header (formed_regions (extents s.image s.heap s.base) m regions) readable_there small ∙ g))
              (λ d. other_word m (start_of placed k - 8) (start_of placed j - 8) b.header (head_differs j l d)
              ∙ h.stand.header j w l (head_before j w (is_among_cells (InHeader j) unwritten) refl d e))
              (same_or_not j k);
          cell = λ j i v l w e. other_word m (start_of placed k - 8) (start_of placed j + 8 * i) b.header (cell_differs j i l w)
              ∙ h.stand.cell j i v l w (cell_before j i v (is_among_cells (InBlock j i) unwritten) refl e);
          known = λ j i v l e. h.stand.known j i v l (cell_before j i v (is_among_cells (InBlock j i) unwritten) refl e);
        };
        heads = h.heads;
        fits = λ j i y v e f. h.fits j i y v e (cell_before j i v (is_among_cells (InBlock j i) unwritten) refl f);
        statics = statics_stay s placed m m' a.memory a.memory.blocks (λ y even l. held_other m (start_of placed k - 8) y b.header even (λ q. omega
            (arith, q, l, p))) h.statics;
        lie = h.lie;
      }
    where
      head_is : (t : Bool) (w : ℕ) → cond t None (header_in (slice_get a.memory.blocks k)) ≡ Some w → b.header ≡ w
      head_is true w e = absurd (cc)
      head_is false w e = let f : header_in (slice_get a.memory.blocks k) ≡ Some b.header = ap header_in there in cc

      head_before : (j w : ℕ) (t : Bool) → is_among_cells (InHeader j) unwritten ≡ t → j ≢ k → cond t None (header_in (slice_get a.memory.blocks j)) ≡ Some w →
          (blocks_of a).header j ≡ Some w
      head_before j w true f d e = absurd (cc)
      head_before j w false f d e =
          ⊎_elim (λ q. absurd (d (same_head j q))) (λ g. ap (λ t. cond t None (header_in (slice_get a.memory.blocks j))) g ∙ e) (fewer (InHeader j) f)
        where
          same_head : (j : ℕ) → InHeader j ≡ InHeader k → j ≡ k
          same_head j q = cc

      cell_before : (j i : ℕ) (v : Value) (t : Bool) → is_among_cells (InBlock j i) unwritten ≡ t → cond t None (cell_in (slice_get a.memory.blocks j) i) ≡ Some v →
          (blocks_of a).cell j i ≡ Some v
      cell_before j i v true f e = absurd (cc)
      cell_before j i v false f e =
          ⊎_elim (λ q. absurd (no_head q)) (λ g. ap (λ t. cond t None (cell_in (slice_get a.memory.blocks j) i)) g ∙ e) (fewer (InBlock j i) f)
        where
          no_head : InBlock j i ≡ InHeader k → ⊥
          no_head q = absurd (cc)
