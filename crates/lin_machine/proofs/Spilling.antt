-- A slot is written.
use Rattle.std.proofs.Common.{◌≡◌, ℕ, ◌+◌, ◌-◌, ◌*◌, ◌%◌, ◌^◌, ◌<◌, ◌≤◌, Bool, true, false, cond, List, length, map, Option, Some, None, slice_index, refl, ap, arith, ◌∙◌, sym, subst, ⊎_elim}
use Rattle.std.proofs.lemmas.List.{length-map}
use Rattle.bs_words.specs.declared.types.Loc.{Loc}
use Rattle.bs_words.specs.declared.types.Loc.TheVariants as loc
use Rattle.bs_words.specs.declared.values.Value.{Value}
use Rattle.mach_ir.specs.Acts.{Around}
use Rattle.rv_machine.specs.Hart.{Placed}
use Rattle.rv_machine.specs.Memory.{Region, memory_word, write}
use Rattle.rv_machine.specs.Sound.{extents}
use Rattle.machine_laws.proofs.Memory.{has_write, other_word}
use Rattle.moving_laws.specs.Waiting.{traps_at}
use Rattle.moving_laws.specs.Words.{IsReadable}
use Rattle.moving_laws.proofs.Held.{held_other}
use Rattle.moving_laws.proofs.Usable.{formed_regions, stack_readable}
use Rattle.moving_laws.proofs.Words.{readable_write, word_same}
use Rattle.lin_machine.specs.Files.{IsPut}
use Rattle.lin_machine.specs.Relation.{AreCarried, Below, Laid, ReturnStands, StandsFor, Within, blocks_by_serial}
use Rattle.lin_machine.specs.Straight.{IsPast}
use Rattle.lin_machine.specs.View.{Fixed, View}
use Rattle.lin_machine.proofs.Keeping.{heap_kept, traps_at_all, traps_kept, waits_kept}
use Rattle.lin_machine.proofs.Standing.{AreScratch, within_past}
use Rattle.bs_words.proofs.Places.{same_slot}

module _ (s : Fixed) (laid : Laid) (v : View) (young : List Placed) (taken : ℕ) (file : Loc → Option Value) (a : Around) (c : Below)
    (within : Within s laid v young taken file a c) where
  -- where a slot lies
  abbrev pub slot_at : ℕ → ℕ
  slot_at k = slice_index v.registers 2 + (8 * k + 16 * length a.tries)

  -- a place of the frame
  pub record InFrame (x : ℕ) : Type 0 where
    pub aligned : x % 8 ≡ 0
    pub low : s.base ≤ x
    pub readable : IsReadable v.memory x
    pub high : x + 8 ≤ c.top
    pub above : slice_index v.registers 2 + 16 * length a.tries ≤ x

  base_high : 0x38010008 ≤ s.base
  base_high = let b = s.stack.low in omega (arith, b)

  room_by : (b : Bool) (x y z : ℕ) → x + cond b y 0 ≤ z → x ≤ z
  room_by true x y z h = omega (arith, h)
  room_by false x y z h = omega (arith, h)

  pub slot_in : (k : ℕ) → k < laid.slots → InFrame (slot_at k)
  slot_in k i =
      let f = within.frame in
      let lo = within.low in
      let room = room_by laid.saves (8 * laid.slots) 8 laid.frame laid.room in
      let hi = within.waits.high in
      let ev = within.waits.even in
      let fe = laid.even in
      let al : slot_at k % 8 ≡ 0 = omega (arith, f, ev, fe) in
      let low : s.base ≤ slot_at k = omega (arith, lo) in
      let top : slot_at k + 8 ≤ c.top = omega (arith, f, room, i) in
      record {
        aligned = al;
        low = low;
        readable = stack_readable s.image s.heap s.base v.memory within.usable.regions (slot_at k) al low (omega (arith, top, hi));
        high = top;
        above = omega arith;
      }

  -- the return address lies above the slots
  back_by : (b : Bool) (k value : ℕ) → b ≡ laid.saves → k < laid.slots → ReturnStands b v c →
      ReturnStands b (record v { memory = write v.memory (slot_at k) value }) c
  back_by true k value e i h =
      let room : 8 * laid.slots + 8 ≤ laid.frame = subst (λ t. 8 * laid.slots + cond t 8 0 ≤ laid.frame) (sym e) laid.room in
      let f = within.frame in
      other_word v.memory (slot_at k) (c.top - 8) value (λ q. omega (arith, q, f, room, i)) ∙ h
  back_by false k value e i h = h

  pub within_slot :
      (k value : ℕ) (x : Value) (file' : Loc → Option Value) → k < laid.slots → value < 2 ^ 64 → StandsFor s (blocks_by_serial v young) value x →
      IsPut (loc.Slot k) x file file' →
      Within s laid (record v { memory = write v.memory (slice_index v.registers 2 + (8 * k + 16 * length a.tries)) value }) young taken file' a c
  within_slot k value x file' i small stands put =
      let m' : List Region = write v.memory (slot_at k) value in
      let there = slot_in k i in
      let lo = there.low in
      let hi = there.high in
      let above = there.above in
      let bh = base_high in
      let n = length-map a.tries laid.handler in
      record {
        own = within.own;
        usable = record {
          regions = has_write (extents s.image s.heap s.base) v.memory (slot_at k) value within.usable.regions;
          heap = within.usable.heap;
          apart = within.usable.apart;
        };
        frame = within.frame;
        low = within.low;
        carried = carried a.raised within.carried;
        slots = λ q y h. ⊎_elim
            (λ p.
            let e : q ≡ k = same_slot refl p.0 in
            let here : memory_word m' (slot_at k) ≡ value = word_same v.memory (slot_at k) value (formed_regions
            (extents s.image s.heap s.base) v.memory within.usable.regions) there.readable small in
            subst (λ z. (z < laid.slots) × StandsFor s (blocks_by_serial v young) (memory_word m' (slot_at z)) y) (sym e)
            (i, subst (λ z. StandsFor s (blocks_by_serial v young) (memory_word m' (slot_at k)) z) (sym p.1) (subst (λ z. StandsFor s (blocks_by_serial v young) z x) (sym here) stands)))
            (λ p.
            let o = within.slots q y p.1 in
            let same : memory_word m' (slot_at q) ≡ memory_word v.memory (slot_at q) =
            other_word v.memory (slot_at k) (slot_at q) value (λ t. p.0 (ap loc.Slot (let e : q ≡ k = omega (arith, t) in e))) in
            (o.0, subst (λ z. StandsFor s (blocks_by_serial v young) z y) (sym same) o.1))
            (put.each (loc.Slot q) y h);
        back = back_by laid.saves k value refl i within.back;
        waits = waits_kept s (blocks_by_serial v young) v.memory m' c (λ y l h. other_word v.memory (slot_at k) y value (λ t. omega (arith, t, l, hi))) within.waits;
        traps = traps_kept s (blocks_by_serial v young) v.memory m' (slice_index v.registers 9) (traps_at (slice_index v.registers 2) (map laid.handler a.tries)) c
            (λ y l h. other_word v.memory (slot_at k) y value (λ t. omega (arith, t, l, hi)))
            (traps_at_all _ (slice_index v.registers 2) (map laid.handler a.tries)
            (λ y q h. (
              other_word v.memory (slot_at k) y value (λ t. omega (arith, t, h, n)),
              other_word v.memory (slot_at k)
                  (y + 8) value (λ t. omega (arith, t, h, n)),
            )))
            within.waits within.traps;
        heap = heap_kept s (blocks_by_serial v young) v.memory m' a
            (λ y q ne. other_word v.memory (slot_at k) y value (λ t. omega (arith, t, q, lo, bh)))
            (λ y e q. held_other v.memory (slot_at k) y value e (λ t. omega (arith, t, q, lo, bh)))
            (λ y r. readable_write v.memory (slot_at k) y value r) within.heap;
      }
    where
      not_machine : (q : ℕ) → loc.Machine q ≡ loc.Slot k → ⊥
      not_machine q e = absurd (cc)

      carried : (o : Option Value) → AreCarried s (blocks_by_serial v young) v.registers file o → AreCarried s (blocks_by_serial v young) v.registers file' o
      carried None hold = λ q y h. hold q y (⊎_elim (λ p. absurd (not_machine q p.0)) (λ p. p.1) (put.each (loc.Machine q) y h))
      carried (Some y) hold = hold

  -- and scratch registers have changed on the way
  pub within_spilled :
      (w : View) (n : ℕ) (rs : List ℕ) (k value : ℕ) (x : Value) (file' : Loc → Option Value) →
      IsPast n rs (write v.memory (slice_index v.registers 2 + (8 * k + 16 * length a.tries)) value) v w → AreScratch rs →
      k < laid.slots → value < 2 ^ 64 → StandsFor s (blocks_by_serial v young) value x → IsPut (loc.Slot k) x file file' → Within s laid w young taken file' a c
  within_spilled w n rs k value x file' past scratch i small stands put =
      within_past s laid (record v { memory = write v.memory (slot_at k) value }) w young taken file' a c n rs
      (record { place = past.place; are = past.are; others = past.others; memory = past.memory; blocks = past.blocks })
      scratch (within_slot k value x file' i small stands put)
