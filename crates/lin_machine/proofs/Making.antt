-- A function makes a block of bytes that were taken off s10 before.
use Rattle.std.proofs.Common.{◌≡◌, ℕ, ◌+◌, ◌*◌, ◌%◌, ◌≤◌, inl, inr, List, [], ◌∷◌, ◌++◌, length, reverse, Option, Some, None, slice_index, refl, ap, arith, ◌∙◌, sym, subst, length-append}
use Rattle.std.specs.List.{AllByRecursion}
use Rattle.bs_words.specs.declared.values.Value.{Value}
use Rattle.bs_words.specs.declared.values.Value.TheVariants.{Block}
use Rattle.lin_ir.specs.Meaning.{Locations}
use Rattle.mach_ir.specs.Acts.{Around, with_block}
use Rattle.mach_ir.specs.declared.blocks.NewBlock.{NewBlock}
use Rattle.rv_machine.specs.Hart.{Placed}
use Rattle.rv_machine.specs.Observation.{cells_of_header, young_start}
use Rattle.rv_machine.specs.Placement.{block_end}
use Rattle.rv_machine.specs.Space.{IsHeapBlock}
use Rattle.machine_laws.proofs.Apart.{all-append, all-reverse, all_of}
use Rattle.machine_laws.proofs.InHeap.{ends_below}
use Rattle.moving_laws.specs.Heap.{AreApart, IsInHeap}
use Rattle.moving_laws.specs.Values.{start_of}
use Rattle.moving_laws.specs.Young.{Rises}
use Rattle.moving_laws.proofs.Rewriting.{at_start}
use Rattle.moving_laws.proofs.Usable.{young_readable}
use Rattle.lin_machine.specs.Relation.{AreCarried, Below, HeapStands, Laid, SlotsHold, StandsFor, Waits, Within}
use Rattle.lin_machine.specs.Relation as relation
use Rattle.lin_machine.specs.View.{Fixed, View}
use Rattle.lin_machine.proofs.Fresh.{placed_more, stands_more, start_last, waits_more}
use Rattle.lin_machine.proofs.Growing.{heap_more}
use Rattle.lin_machine.proofs.Moving.{rises_top}

-- the young blocks lie from an address on
young_above : (at : ℕ) (bs : List Placed) → Rises at bs → AllByRecursion (λ (b : Placed). at + 8 ≤ b.start) bs
young_above at [] r = tt
young_above at (b ∷ bs) r =
    let e = r.0 in
    (omega (arith, e), all_of (λ c. block_end b + 8 ≤ c.start) (λ c. at + 8 ≤ c.start) (λ c l. omega (arith, l, e)) bs (young_above (block_end b) bs r.3))

module _ (s : Fixed) (laid : Laid) (v : View) (young : List Placed) (taken left : ℕ) (held : Locations) (a : Around) (c : Below)
    (within : Within s laid v young taken held a c)
    (b : NewBlock) (some : 1 ≤ b.cells) (most : b.cells ≤ 256) (head : cells_of_header b.header ≡ b.cells) (bytes : taken ≡ left + 8 * (b.cells + 1))
    (room : young_start ≤ slice_index v.registers 26 + left) where
  -- it lies right below the young blocks
  abbrev pub made : Placed
  made = record { start = slice_index v.registers 26 + left + 8; words = b.cells }

  abbrev old : List Placed
  old = v.blocks ++ reverse young

  ends : block_end made ≡ slice_index v.registers 26 + taken
  ends = omega (arith, bytes)

  top : slice_index v.registers 26 + taken ≤ 0x38010000
  top = rises_top (slice_index v.registers 26 + taken) young within.own.rises

  even : made.start % 8 ≡ 0
  even = let e = within.own.from_even in omega (arith, e, bytes)

  is_inside : IsInHeap made
  is_inside = let e = ends in let t = top in record { aligned = even; low = omega (arith, room); high = omega (arith, e, t) }

  apart : AllByRecursion (λ x. AreApart x made) (v.blocks ++ reverse young)
  apart =
      let e = ends in
      all-append (λ x. AreApart x made) v.blocks (reverse young)
      (all_of (IsHeapBlock s.heap) (λ x. AreApart x made)
      (λ x k. let below = ends_below s.heap x within.usable.heap.most k.inside in inl (omega (arith, below, room))) v.blocks within.usable.heap.each)
      (all-reverse (λ x. AreApart x made) young
      (all_of (λ x. slice_index v.registers 26 + taken + 8 ≤ x.start) (λ x. AreApart x made) (λ x l. inr (omega (arith, l, e))) young
      (young_above (slice_index v.registers 26 + taken) young within.own.rises)))

  more_is : relation.blocks_by_serial v (made ∷ young) ≡ (v.blocks ++ reverse young) ++ made ∷ []
  more_is = placed_more v.blocks young made

  carried : (o : Option Value) → AreCarried s (v.blocks ++ reverse young) v.registers held o →
      AreCarried s ((v.blocks ++ reverse young) ++ made ∷ []) v.registers held o
  carried None hold = λ r x h. let p = hold r x h in (p.0, stands_more s old made (slice_index v.registers r) x p.1)
  carried (Some x) hold = stands_more s old made (slice_index v.registers 10) x hold

  waits : Waits s ((v.blocks ++ reverse young) ++ made ∷ []) v.memory c
  waits =
      let w = within.waits in
      record {
        low = w.low;
        high = w.high;
        even = w.even;
        back = w.back;
        backs = w.backs;
        chain = w.chain;
        waits = waits_more s.image old made v.memory c.waiting c.frames w.waits;
        bottom = w.bottom;
      }

  pub within_made : Within s laid v (made ∷ young) left held (with_block b a) c
  within_made =
      let e = ends in
      let t = top in
      let ev = even in
      record {
        own = record {
          are = within.own.are;
          from_even = omega (arith, ev);
          from_low = room;
          rises = (refl, some, most, subst (λ n. Rises n young) (sym e) within.own.rises);
          domain = within.own.domain;
        };
        usable = within.usable;
        frame = within.frame;
        low = within.low;
        carried = subst (λ p. AreCarried s p v.registers held a.raised) (sym more_is) (carried a.raised within.carried);
        slots = subst (λ p. SlotsHold s laid p v.memory (slice_index v.registers 2) (length a.tries) held) (sym more_is)
            (λ k x h. let p = within.slots k x h in (p.0, stands_more s old made _ x p.1));
        back = within.back;
        waits = subst (λ p. Waits s p v.memory c) (sym more_is) waits;
        traps = within.traps;
        heap = subst (λ p. HeapStands s p v.memory (with_block b a)) (sym more_is)
            (heap_more s old v.memory a within.heap b made refl head is_inside apart
            (λ x x8 lo hi. young_readable s.image s.heap s.base v.memory within.usable.regions x x8 (omega (arith, lo, room)) (omega (arith, hi, e, t))));
      }

  -- its address stands for the pointer to it
  pub made_stands : (w : ℕ) → w ≡ slice_index v.registers 26 + left + 8 → StandsFor s (relation.blocks_by_serial v (made ∷ young)) w (Block (length a.memory.blocks) 0)
  made_stands w is =
      let n = within.heap.stand.count in
      let t = top in
      let e = ends in
      let start : start_of ((v.blocks ++ reverse young) ++ made ∷ [])
      (length a.memory.blocks) ≡ made.start = ap (start_of ((v.blocks ++ reverse young) ++ made ∷ [])) n ∙ start_last old made in
      let count = length-append old (made ∷ []) in
      subst (λ p. StandsFor s p w (Block (length a.memory.blocks) 0)) (sym more_is)
      (record {
        is = is ∙ sym start ∙ sym (at_start (start_of ((v.blocks ++ reverse young) ++ made ∷ []) (length a.memory.blocks)) 0 refl (omega (arith, start, t, e)));
        known = (omega (arith, n, count), omega arith);
      })
