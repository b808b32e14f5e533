-- A function begins and is left, and traps are pushed, popped and taken, as far as registers and
-- memory say.
use Rattle.std.proofs.Common.{◌≡◌, ◌≢◌, ℕ, ◌+◌, ◌-◌, ◌*◌, ◌%◌, ◌<◌, ◌≤◌, Bool, true, false, cond, List, [], ◌∷◌, map, Option, Some, None, slice_get, slice_index, refl, ap, arith, ◌∙◌, sym, subst, ⊎_elim}
use Rattle.bs_words.specs.Memory.{Memory}
use Rattle.bs_words.specs.declared.types.Loc.TheVariants as loc
use Rattle.bs_words.specs.declared.values.Value.{Value}
use Rattle.lin_ir.specs.Meaning.{Locations}
use Rattle.mach_ir.specs.Acts.{Around, is_complete}
use Rattle.mach_ir.specs.Runs.{entry_around}
use Rattle.rv_machine.specs.Hart.{Placed}
use Rattle.rv_machine.specs.Memory.{Region, memory_word, write, code_start}
use Rattle.rv_machine.specs.Placement.{are_apart}
use Rattle.rv_machine.specs.Sound.{HasRegions, extents}
use Rattle.rv_machine.specs.Space.{IsHeap}
use Rattle.machine_laws.proofs.Memory.{has_write, other_word}
use Rattle.moving_laws.specs.Waiting.{traps_at}
use Rattle.moving_laws.specs.Words.{IsReadable, held_word}
use Rattle.moving_laws.proofs.Held.{held_other}
use Rattle.moving_laws.proofs.Usable.{formed_regions, stack_readable}
use Rattle.moving_laws.proofs.Words.{readable_write, word_same}
use Rattle.lin_machine.specs.Moments.{AtEntry, AtReturn}
use Rattle.lin_machine.specs.Relation.{AreCarried, Below, HeapStands, IsLocationRegister, IsUsable, Laid, ReturnStands, StandsFor, TrapsStand, Waits, Within, blocks_by_serial}
use Rattle.lin_machine.specs.Straight.{Differs}
use Rattle.lin_machine.specs.View.{Fixed, View}
use Rattle.lin_machine.proofs.Frames.{heap_whole}
use Rattle.lin_machine.proofs.Keeping.{heap_kept, traps_kept, waits_kept}
use Rattle.lin_machine.proofs.Standing.{own_past}

pub usable_past : (s : Fixed) (v w : View) (m : List Region) → w.memory ≡ m → w.blocks ≡ v.blocks → HasRegions (extents s.image s.heap s.base) m →
    IsUsable s v → IsUsable s w
usable_past s v w m em eb has u = record {
  regions = subst (λ k. HasRegions (extents s.image s.heap s.base) k) (sym em) has;
  heap = subst (λ bs. IsHeap s.heap bs) (sym eb) u.heap;
  apart = ap are_apart eb ∙ u.apart;
}

pub placed_past : (v w : View) (young : List Placed) → w.blocks ≡ v.blocks → blocks_by_serial w young ≡ blocks_by_serial v young
placed_past v w young e = ap (λ bs. blocks_by_serial (record v { blocks = bs }) young) e

-- ---- a function is left: sp is back where it was, and a0 is as it was

module _ (s : Fixed) (laid : Laid) (v w : View) (young : List Placed) (held : Locations) (a : Around) (c : Below) (within : Within s laid v young 0 held a c)
    (differs : Differs (1 ∷ 2 ∷ 6 ∷ 7 ∷ []) v.memory v w) (top : slice_index w.registers 2 ≡ c.top) (none : a.raised ≡ None) (left : a.tries ≡ [])
    (whole : is_complete a ≡ true) where
  off : (q : ℕ) → q ≢ 1 → q ≢ 2 → q ≢ 6 → q ≢ 7 → slice_index w.registers q ≡ slice_index v.registers q
  off q n1 n2 n6 n7 = differs.others q (λ i. ⊎_elim n1 (λ j. ⊎_elim n2 (λ k. ⊎_elim n6 (λ l. ⊎_elim n7 (λ f. f) l) k) j) i)

  pub leaves : (value : Option Value) → ((x : Value) → value ≡ Some x → held (loc.Machine 10) ≡ Some x) → code_start + 4 * w.place ≡ c.back →
      AtReturn s w young value a.memory c
  leaves value there place =
      let same = placed_past v w young differs.blocks in
      let e9 = off 9 (λ e. omega (arith, e)) (λ e. omega (arith, e)) (λ e. omega (arith, e)) (λ e. omega (arith, e)) in
      record {
        place = place;
        own = own_past v.registers w.registers young 0 differs.are (off 26 (λ e. omega (arith, e)) (λ e. omega (arith, e)) (λ e. omega (arith, e))
            (λ e. omega (arith, e)))
            (off 27 (λ e. omega (arith, e)) (λ e. omega (arith, e)) (λ e. omega (arith, e)) (λ e. omega (arith, e))) within.own;
        usable = usable_past s v w v.memory differs.memory differs.blocks within.usable.regions within.usable;
        top = top;
        value_in = λ x h.
            let p = (subst (λ o. AreCarried s (blocks_by_serial v young) v.registers held o) none within.carried) 10 x (there x h) in
            subst (λ b. StandsFor s b (slice_index w.registers 10) x) (sym same)
            (subst (λ z. StandsFor s (blocks_by_serial v young) z x)
            (sym (off 10 (λ e. omega (arith, e)) (λ e. omega (arith, e)) (λ e. omega (arith, e)) (λ e. omega (arith, e)))) p.1);
        waits = subst (λ b. Waits s b w.memory c) (sym same) (subst (λ m. Waits s (blocks_by_serial v young) m c) (sym differs.memory) within.waits);
        traps = subst (λ m. TrapsStand s m (slice_index w.registers 9) [] c) (sym differs.memory)
            (subst (λ t. TrapsStand s v.memory t [] c) (sym e9)
            (subst (λ ts. TrapsStand s v.memory (slice_index v.registers 9) (traps_at (slice_index v.registers 2) (map laid.handler ts)) c) left within.traps));
        heap = subst (λ b. HeapStands s b w.memory (entry_around a.memory)) (sym same)
            (subst (λ m. HeapStands s (blocks_by_serial v young) m (entry_around a.memory)) (sym differs.memory) (heap_whole s (blocks_by_serial v young) v.memory a whole within.heap));
      }

-- ---- a function begins: its frame is below sp as it was, and the return address has its place

-- what the file of a function that begins may hold
pub record IsBegun (arguments : List Value) (held : Locations) : Type 0 where
  pub register : (r : ℕ) (x : Value) → held (loc.Machine r) ≡ Some x → (k : ℕ) × (r ≡ 10 + k) × (slice_get arguments k ≡ Some x)
  pub slot : (k : ℕ) (x : Value) → held (loc.Slot k) ≡ Some x → ⊥

argument_location : (k r : ℕ) → k < 16 → r ≡ 10 + k → IsLocationRegister r
argument_location k r l e = record {
  some = omega (arith, e);
  below = omega (arith, e, l);
  no_trap = λ t. omega (arith, t, e);
  no_young = λ t. omega (arith, t, e, l);
  no_domain = λ t. omega (arith, t, e, l);
  no_scratch = (λ t. omega (arith, t, e), λ t. omega (arith, t, e));
}

-- the memory in which the return address is saved, if it is
abbrev pub saved : Bool → List Region → ℕ → ℕ → List Region
saved true m at back = write m at back
saved false m at back = m

module _ (s : Fixed) (laid : Laid) (v w : View) (young : List Placed) (entry : ℕ) (arguments : List Value) (memory : Memory) (c : Below)
    (at : AtEntry s v young entry arguments memory c)
    (fits : s.base + laid.frame ≤ c.top) (differs : Differs (2 ∷ 6 ∷ 7 ∷ []) (saved laid.saves v.memory (c.top - 8) c.back) v w)
    (low : slice_index w.registers 2 ≡ c.top - laid.frame) where
  off_entry : (q : ℕ) → q ≢ 2 → q ≢ 6 → q ≢ 7 → slice_index w.registers q ≡ slice_index v.registers q
  off_entry q n2 n6 n7 = differs.others q (λ i. ⊎_elim n2 (λ k. ⊎_elim n6 (λ l. ⊎_elim n7 (λ f. f) l) k) i)

  base_high : 0x38010008 ≤ s.base
  base_high = let b = s.stack.low in omega (arith, b)

  -- every word but that one stays
  saved_off : (b : Bool) (y : ℕ) → c.top - 8 ≢ y → memory_word (saved b v.memory (c.top - 8) c.back) y ≡ memory_word v.memory y
  saved_off true y n = other_word v.memory (c.top - 8) y c.back n
  saved_off false y n = refl

  saved_regions : (b : Bool) → HasRegions (extents s.image s.heap s.base) (saved b v.memory (c.top - 8) c.back)
  saved_regions true = has_write (extents s.image s.heap s.base) v.memory (c.top - 8) c.back at.usable.regions
  saved_regions false = at.usable.regions

  saved_readable : (b : Bool) (y : ℕ) → IsReadable v.memory y → IsReadable (saved b v.memory (c.top - 8) c.back) y
  saved_readable true y r = readable_write v.memory (c.top - 8) y c.back r
  saved_readable false y r = r

  -- where there is a word for it, it lies in the frame
  some_room : (b : Bool) → b ≡ laid.saves → (b ≡ true) → 8 ≤ laid.frame
  some_room true e t = let r = subst (λ k. 8 * laid.slots + cond k 8 0 ≤ laid.frame) (sym e) laid.room in omega (arith, r)
  some_room false e t = absurd (cc)

  stack_same : (b : Bool) → b ≡ laid.saves → (y : ℕ) → c.top ≤ y → memory_word (saved b v.memory (c.top - 8) c.back) y ≡ memory_word v.memory y
  stack_same true e y l = let r = some_room true e refl in saved_off true y (λ q. omega (arith, q, l, r, fits))
  stack_same false e y l = refl

  heap_same : (b : Bool) → b ≡ laid.saves → (y : ℕ) → y < 0x38010008 → memory_word (saved b v.memory (c.top - 8) c.back) y ≡ memory_word v.memory y
  heap_same true e y l = let r = some_room true e refl in let bh = base_high in saved_off true y (λ q. omega (arith, q, l, r, fits, bh))
  heap_same false e y l = refl

  held_same : (b : Bool) → b ≡ laid.saves → (y : ℕ) → y % 8 ≡ 0 → y < 0x20000000 →
      held_word (saved b v.memory (c.top - 8) c.back) y ≡ held_word v.memory y
  held_same true e y even l =
      let r = some_room true e refl in let bh = base_high in held_other v.memory (c.top - 8) y c.back even (λ q. omega (arith, q, l, r, fits, bh))
  held_same false e y even l = refl

  back_stands : (b : Bool) → b ≡ laid.saves → ReturnStands b (record w { memory = saved b v.memory (c.top - 8) c.back }) c
  back_stands true e =
      let r = some_room true e refl in
      let hi = at.waits.high in
      let ev = at.waits.even in
      let bh = at.waits.back.high in
      let can : IsReadable v.memory (c.top - 8) = stack_readable s.image s.heap s.base v.memory at.usable.regions (c.top - 8) (omega (arith, ev, r, fits))
      (omega (arith, r, fits)) (omega (arith, hi, r, fits)) in
      word_same v.memory (c.top - 8) c.back (formed_regions (extents s.image s.heap s.base) v.memory at.usable.regions) can (omega (arith, bh))
  back_stands false e = off_entry 1 (λ e. omega (arith, e)) (λ e. omega (arith, e)) (λ e. omega (arith, e)) ∙ at.back

  returns_as : (b : Bool) → ReturnStands b (record w { memory = saved laid.saves v.memory (c.top - 8) c.back }) c → ReturnStands b w c
  returns_as true h = ap (λ m. memory_word m (c.top - 8)) differs.memory ∙ h
  returns_as false h = h

  pub begins : (held : Locations) → IsBegun arguments held → Within s laid w young 0 held (entry_around memory) c
  begins held begun =
      let m' : List Region = saved laid.saves v.memory (c.top - 8) c.back in
      let same = placed_past v w young differs.blocks in
      let e9 = off_entry 9 (λ e. omega (arith, e)) (λ e. omega (arith, e)) (λ e. omega (arith, e)) in
      record {
        own = own_past v.registers w.registers young 0 differs.are (off_entry 26 (λ e. omega (arith, e)) (λ e. omega (arith, e)) (λ e. omega (arith, e)))
            (off_entry 27 (λ e. omega (arith, e)) (λ e. omega (arith, e)) (λ e. omega (arith, e))) at.own;
        usable = usable_past s v w m' differs.memory differs.blocks (saved_regions laid.saves) at.usable;
        frame = omega (arith, low, fits);
        low = omega (arith, low, fits);
        carried = λ r x h.
            let g = begun.register r x h in
            let p = at.arguments_in g.0 x g.2 in
            let e = g.1 in
            let here : slice_index w.registers r ≡ slice_index v.registers (10 + g.0) = ap (slice_index w.registers) e ∙ off_entry (10 + g.0)
            (λ q. omega (arith, q)) (λ q. omega (arith, q)) (λ q. omega (arith, q)) in (
              argument_location g.0 r p.0 e,
              subst (λ b. StandsFor s b (slice_index w.registers r) x) (sym same) (subst (λ z. StandsFor s (blocks_by_serial v young) z x) (sym here) p.1),
            );
        slots = λ k x h. absurd (begun.slot k x h);
        back = returns_as laid.saves (back_stands laid.saves refl);
        waits = subst (λ b. Waits s b w.memory c) (sym same) (subst (λ m. Waits s (blocks_by_serial v young) m c) (sym differs.memory)
            (waits_kept s (blocks_by_serial v young) v.memory m' c (λ y l h. stack_same laid.saves refl y l) at.waits));
        traps = subst (λ m. TrapsStand s m (slice_index w.registers 9) [] c) (sym differs.memory)
            (subst (λ t. TrapsStand s m' t [] c) (sym e9)
            (traps_kept s (blocks_by_serial v young) v.memory m' (slice_index v.registers 9) [] c (λ y l h. stack_same laid.saves refl y l) tt at.waits at.traps));
        heap = subst (λ b. HeapStands s b w.memory (entry_around memory)) (sym same)
            (subst (λ m. HeapStands s (blocks_by_serial v young) m (entry_around memory)) (sym differs.memory)
            (heap_kept s (blocks_by_serial v young) v.memory m' (entry_around memory) (λ y l n. heap_same laid.saves refl y l)
            (λ y e l. held_same laid.saves refl y e l)
            (λ y r. saved_readable laid.saves y r) at.heap));
      }
