-- A try is pushed and popped, and a raise takes the innermost one, as far as registers and memory
-- say.
use Rattle.std.proofs.Common.{◌≡◌, ◌≢◌, ℕ, suc, ◌+◌, ◌-◌, ◌*◌, ◌%◌, ◌<◌, ◌≤◌, Bool, true, false, cond, List, [], ◌∷◌, ◌++◌, length, map, Option, Some, None, slice_index, refl, ap, arith, ◌∙◌, sym, subst, ⊎_elim}
use Rattle.std.proofs.lemmas.List.{length-map}
use Rattle.bs_words.specs.declared.types.Loc.TheVariants as loc
use Rattle.bs_words.specs.declared.values.Value.{Value}
use Rattle.lin_ir.specs.Meaning.{Locations}
use Rattle.mach_ir.specs.Acts.{Around, is_complete}
use Rattle.mach_ir.specs.Runs.{entry_around}
use Rattle.rv_machine.specs.Hart.{Placed}
use Rattle.rv_machine.specs.Memory.{Region, memory_word, write, code_start}
use Rattle.rv_machine.specs.Places.{stack_bottom}
use Rattle.rv_machine.specs.Sound.{HasRegions, extents}
use Rattle.machine_laws.proofs.Memory.{has_write, other_word}
use Rattle.moving_laws.specs.Waiting.{IsBack, TrapsFrom, traps_at}
use Rattle.moving_laws.specs.Words.{IsReadable, held_word}
use Rattle.moving_laws.proofs.Held.{held_other}
use Rattle.moving_laws.proofs.Usable.{formed_regions, stack_readable}
use Rattle.moving_laws.proofs.Words.{readable_write, word_same}
use Rattle.lin_machine.specs.Moments.{AtThrow, IsThrown}
use Rattle.lin_machine.specs.Relation.{AreCarried, Below, HeapStands, Laid, RegistersHold, ReturnStands, StandsFor, Waits, Within, blocks_by_serial, waiting_trap_frames}
use Rattle.lin_machine.specs.Straight.{Differs}
use Rattle.lin_machine.specs.View.{Fixed, View}
use Rattle.lin_machine.proofs.Frames.{heap_around, heap_whole}
use Rattle.lin_machine.proofs.Keeping.{heap_kept, traps_at_all, traps_kept, waits_kept}
use Rattle.lin_machine.proofs.Standing.{own_past}
use Rattle.lin_machine.proofs.Turning.{placed_past, usable_past}

trap_low : (base : ℕ) (m : List Region) (t : ℕ) (ts : List (ℕ × ℕ)) (last : ℕ) → base ≤ last → TrapsFrom base m t ts last → base ≤ t
trap_low base m t [] last l r = let e : t ≡ last = r in omega (arith, e, l)
trap_low base m t (x ∷ ts) last l r = r.1

module _ (s : Fixed) (laid : Laid) (v w : View) (young : List Placed) (held : Locations) (a : Around) (c : Below)
    (within : Within s laid v young 0 held a c) where
  abbrev sp : ℕ
  sp = slice_index v.registers 2

  base_high : 0x38010008 ≤ s.base
  base_high = let b = s.stack.low in omega (arith, b)

  base_low : s.base ≤ stack_bottom
  base_low = s.stack.high

  sp_even : slice_index v.registers 2 % 8 ≡ 0
  sp_even = let f = within.frame in let ev = within.waits.even in let fe = laid.even in omega (arith, f, ev, fe)

  sp_high : slice_index v.registers 2 ≤ stack_bottom
  sp_high = let f = within.frame in let hi = within.waits.high in omega (arith, f, hi)

  -- registers that are none of the machine's own, nor scratch, hold what they held
  registers_differ : (m : List Region) → Differs (2 ∷ 6 ∷ 7 ∷ 9 ∷ []) m v w → RegistersHold s (blocks_by_serial v young) v.registers held →
      RegistersHold s (blocks_by_serial w young) w.registers held
  registers_differ m differs hold r x h =
      let p = hold r x h in
      let is = p.0 in
      let e : slice_index w.registers r ≡ slice_index v.registers r =
      differs.others r (λ i. ⊎_elim (λ e. let b = is.some in omega (arith, b, e))
      (λ j. ⊎_elim is.no_scratch.0 (λ k. ⊎_elim is.no_scratch.1 (λ l. ⊎_elim is.no_trap (λ f. f) l) k) j) i) in (
        is,
        subst (λ b. StandsFor s b (slice_index w.registers r) x) (sym (placed_past v w young differs.blocks))
            (subst (λ z. StandsFor s (blocks_by_serial v young) z x) (sym e) p.1),
      )

  kept_reg : (m : List Region) → Differs (2 ∷ 6 ∷ 7 ∷ 9 ∷ []) m v w → (q : ℕ) → q ≢ 2 → q ≢ 6 → q ≢ 7 → q ≢ 9 →
      slice_index w.registers q ≡ slice_index v.registers q
  kept_reg m differs q n2 n6 n7 n9 = differs.others q (λ i. ⊎_elim n2 (λ j. ⊎_elim n6 (λ k. ⊎_elim n7 (λ l. ⊎_elim n9 (λ f. f) l) k) j) i)

  -- ---- push

  module _ (l : ℕ) (back : IsBack (laid.handler l)) (none : a.raised ≡ None) (fits : s.base + 16 ≤ slice_index v.registers 2)
      (differs : Differs (2 ∷ 6 ∷ 7 ∷ 9 ∷ [])
      (write (write v.memory (slice_index v.registers 2 - 16) (laid.handler l)) (slice_index v.registers 2 - 8) (slice_index v.registers 9)) v w)
      (low : slice_index w.registers 2 ≡ slice_index v.registers 2 - 16) (points : slice_index w.registers 9 ≡ slice_index v.registers 2 - 16) where
    abbrev m1 : List Region
    m1 = write v.memory (slice_index v.registers 2 - 16) (laid.handler l)

    abbrev m2 : List Region
    m2 = write (write v.memory (slice_index v.registers 2 - 16) (laid.handler l)) (slice_index v.registers 2 - 8) (slice_index v.registers 9)

    regions1 : HasRegions (extents s.image s.heap s.base) m1
    regions1 = has_write (extents s.image s.heap s.base) v.memory (slice_index v.registers 2 - 16) (laid.handler l) within.usable.regions

    regions2 : HasRegions (extents s.image s.heap s.base) m2
    regions2 = has_write (extents s.image s.heap s.base) m1 (slice_index v.registers 2 - 8) (slice_index v.registers 9) regions1

    can0 : IsReadable v.memory (slice_index v.registers 2 - 16)
    can0 = let e = sp_even in let h = sp_high in stack_readable s.image s.heap s.base v.memory within.usable.regions (slice_index v.registers 2 - 16)
        (omega (arith, e, fits)) (omega (arith, fits)) (omega (arith, h, fits))

    can8 : IsReadable m1 (slice_index v.registers 2 - 8)
    can8 = let e = sp_even in let h = sp_high in stack_readable s.image s.heap s.base m1 regions1 (slice_index v.registers 2 - 8) (omega (arith, e, fits))
        (omega (arith, fits)) (omega (arith, h, fits))

    -- a word from the old sp on, or below the stack, stays
    stays_high : (y : ℕ) → slice_index v.registers 2 ≤ y → memory_word m2 y ≡ memory_word v.memory y
    stays_high y h =
        other_word m1 (slice_index v.registers 2 - 8) y (slice_index v.registers 9) (λ t. omega (arith, t, h, fits))
        ∙ other_word v.memory (slice_index v.registers 2 - 16) y (laid.handler l) (λ t. omega (arith, t, h, fits))

    stays_low : (y : ℕ) → y < 0x38010008 → memory_word m2 y ≡ memory_word v.memory y
    stays_low y h =
        let b = base_high in
        other_word m1 (slice_index v.registers 2 - 8) y (slice_index v.registers 9) (λ t. omega (arith, t, h, fits, b))
        ∙ other_word v.memory (slice_index v.registers 2 - 16) y (laid.handler l) (λ t. omega (arith, t, h, fits, b))

    held_low : (y : ℕ) → y % 8 ≡ 0 → y < 0x20000000 → held_word m2 y ≡ held_word v.memory y
    held_low y even h =
        let b = base_high in
        held_other m1 (slice_index v.registers 2 - 8) y (slice_index v.registers 9) even (λ t. omega (arith, t, h, fits, b))
        ∙ held_other v.memory (slice_index v.registers 2 - 16) y (laid.handler l) even (λ t. omega (arith, t, h, fits, b))

    word0 : memory_word m2 (slice_index v.registers 2 - 16) ≡ laid.handler l
    word0 =
        let hb = back.high in
        other_word m1 (slice_index v.registers 2 - 8) (slice_index v.registers 2 - 16) (slice_index v.registers 9) (λ t. omega (arith, t, fits))
        ∙ word_same v.memory (slice_index v.registers 2 - 16) (laid.handler l)
        (formed_regions (extents s.image s.heap s.base) v.memory within.usable.regions) can0 (omega (arith, hb))

    word8 : memory_word m2 (slice_index v.registers 2 - 16 + 8) ≡ slice_index v.registers 9
    word8 =
        let e : slice_index v.registers 2 - 16 + 8 ≡ slice_index v.registers 2 - 8 = omega (arith, fits) in
        ap (memory_word m2) e ∙ word_same m1 (slice_index v.registers 2 - 8) (slice_index v.registers 9)
        (formed_regions (extents s.image s.heap s.base) m1 regions1) can8 (within.own.are.words 9)

    return_by : (b : Bool) → b ≡ laid.saves → ReturnStands b v c → ReturnStands b w c
    return_by true e h =
        let room : 8 * laid.slots + 8 ≤ laid.frame = subst (λ t. 8 * laid.slots + cond t 8 0 ≤ laid.frame) (sym e) laid.room in
        let f = within.frame in
        ap (λ m. memory_word m (c.top - 8)) differs.memory ∙ stays_high (c.top - 8) (omega (arith, f, room)) ∙ h
    return_by false e h = kept_reg m2 differs 1 (λ e. omega (arith, e)) (λ e. omega (arith, e)) (λ e. omega (arith, e)) (λ e. omega (arith, e)) ∙ h

    pub pushes : Within s laid w young 0 held (record a { tries = l ∷ a.tries }) c
    pushes =
        let same = placed_past v w young differs.blocks in
        let f = within.frame in
        let hi = sp_high in
        let ev = sp_even in
        let n = length-map a.tries laid.handler in
        let back16 : slice_index v.registers 2 - 16 + 16 ≡ slice_index v.registers 2 = omega (arith, fits) in
        let s1_low : s.base ≤ slice_index v.registers 9 =
        trap_low s.base v.memory (slice_index v.registers 9)
        (traps_at (slice_index v.registers 2) (map laid.handler a.tries) ++ waiting_trap_frames c.waiting c.frames) stack_bottom base_low within.traps in
        let old = traps_kept s (blocks_by_serial v young) v.memory m2 (slice_index v.registers 9) (traps_at (slice_index v.registers 2) (map laid.handler a.tries)) c
        (λ y q h. stays_high y (omega (arith, q, f)))
        (traps_at_all _ (slice_index v.registers 2) (map laid.handler a.tries) (λ y q h. (stays_high y q, stays_high (y + 8) (omega (arith, q)))))
        within.waits within.traps in
        record {
          own = own_past v.registers w.registers young 0 differs.are (kept_reg m2 differs 26 (λ e. omega (arith, e)) (λ e. omega (arith, e))
              (λ e. omega (arith, e)) (λ e. omega (arith, e)))
              (kept_reg m2 differs 27 (λ e. omega (arith, e)) (λ e. omega (arith, e)) (λ e. omega (arith, e)) (λ e. omega (arith, e))) within.own;
          usable = usable_past s v w m2 differs.memory differs.blocks regions2 within.usable;
          frame = omega (arith, f, low, fits);
          low = omega (arith, low, fits);
          carried = subst (λ o. AreCarried s (blocks_by_serial w young) w.registers held o) (sym none)
              (registers_differ m2 differs (subst (λ o. AreCarried s (blocks_by_serial v young) v.registers held o) none within.carried));
          slots = λ k x h.
              let p = within.slots k x h in
              let e : slice_index w.registers 2 + (8 * k + 16 * suc (length a.tries)) ≡ slice_index v.registers 2 + (8 * k + 16 * length a.tries) = omega
              (arith, low, fits) in
              let here : memory_word w.memory (slice_index w.registers 2 + (8 * k + 16 * suc (length a.tries))) ≡ memory_word v.memory (slice_index v.registers 2 +
              (8 * k + 16 * length a.tries)) =
              ap (memory_word w.memory) e ∙ ap (λ m. memory_word m (slice_index v.registers 2 + (8 * k + 16 * length a.tries))) differs.memory
              ∙ stays_high (slice_index v.registers 2 + (8 * k + 16 * length a.tries)) (omega arith) in (
                p.0,
                subst (λ b. StandsFor s b (memory_word w.memory (slice_index w.registers 2 + (8 * k + 16 * suc (length a.tries)))) x) (sym same)
                    (subst (λ z. StandsFor s (blocks_by_serial v young) z x) (sym here) p.1),
              );
          back = return_by laid.saves refl within.back;
          waits = subst (λ b. Waits s b w.memory c) (sym same) (subst (λ m. Waits s (blocks_by_serial v young) m c) (sym differs.memory)
              (waits_kept s (blocks_by_serial v young) v.memory m2 c (λ y q h. stays_high y (omega (arith, q, f))) within.waits));
          traps = subst (λ m. TrapsFrom s.base m (slice_index w.registers 9)
              (traps_at (slice_index w.registers 2) (laid.handler l ∷ map laid.handler a.tries) ++ waiting_trap_frames c.waiting c.frames) stack_bottom)
              (sym differs.memory)
              (subst (λ z. TrapsFrom s.base m2 z (traps_at (slice_index w.registers 2)
              (laid.handler l ∷ map laid.handler a.tries) ++ waiting_trap_frames c.waiting c.frames) stack_bottom) (sym points)
              (subst (λ z. TrapsFrom s.base m2 (slice_index v.registers 2 - 16)
              (traps_at z (laid.handler l ∷ map laid.handler a.tries) ++ waiting_trap_frames c.waiting c.frames) stack_bottom) (sym low) (
                refl,
                omega (arith, fits),
                omega (arith, hi, fits),
                omega (arith, ev, fits),
                word0,
                back,
                subst (λ z. s.base ≤ z) (sym word8) s1_low,
                subst (λ z. TrapsFrom s.base m2 z (traps_at (slice_index v.registers 2 - 16 + 16)
                    (map laid.handler a.tries) ++ waiting_trap_frames c.waiting c.frames) stack_bottom) (sym word8)
                    (subst (λ z. TrapsFrom s.base m2 (slice_index v.registers 9)
                    (traps_at z (map laid.handler a.tries) ++ waiting_trap_frames c.waiting c.frames) stack_bottom) (sym back16) old),
              )));
          heap = subst (λ b. HeapStands s b w.memory (record a { tries = l ∷ a.tries })) (sym same)
              (subst (λ m. HeapStands s (blocks_by_serial v young) m (record a { tries = l ∷ a.tries })) (sym differs.memory)
              (heap_around s (blocks_by_serial v young) m2 a (l ∷ a.tries) a.raised
              (heap_kept s (blocks_by_serial v young) v.memory m2 a (λ y q ne. stays_low y q) (λ y e q. held_low y e q)
              (λ y r. readable_write m1 (slice_index v.registers 2 - 8) y (slice_index v.registers 9)
              (readable_write v.memory (slice_index v.registers 2 - 16) y (laid.handler l) r)) within.heap)));
        }

  -- ---- the memory stays: pop, and a raise

  module _ (differs : Differs (2 ∷ 6 ∷ 7 ∷ 9 ∷ []) v.memory v w) where
    same_placed : blocks_by_serial w young ≡ blocks_by_serial v young
    same_placed = placed_past v w young differs.blocks

    return_same : (b : Bool) → ReturnStands b v c → ReturnStands b w c
    return_same true h = ap (λ m. memory_word m (c.top - 8)) differs.memory ∙ h
    return_same false h = kept_reg v.memory differs 1 (λ e. omega (arith, e)) (λ e. omega (arith, e)) (λ e. omega (arith, e)) (λ e. omega (arith, e)) ∙ h

    -- the innermost try is the function's own
    module _ (l : ℕ) (rest : List ℕ) (tries : a.tries ≡ l ∷ rest) (high : slice_index w.registers 2 ≡ slice_index v.registers 2 + 16)
        (points : slice_index w.registers 9 ≡ memory_word v.memory (slice_index v.registers 2 + 8)) where
      traps_here : TrapsFrom s.base v.memory (slice_index v.registers 9)
          (traps_at (slice_index v.registers 2) (map laid.handler (l ∷ rest)) ++ waiting_trap_frames c.waiting c.frames) stack_bottom
      traps_here = subst (λ ts. TrapsFrom s.base v.memory (slice_index v.registers 9)
          (traps_at (slice_index v.registers 2) (map laid.handler ts) ++ waiting_trap_frames c.waiting c.frames) stack_bottom) tries within.traps

      pub s1_is : slice_index v.registers 9 ≡ slice_index v.registers 2
      s1_is = traps_here.0

      pub handler_is : memory_word v.memory (slice_index v.registers 2) ≡ laid.handler l
      handler_is = subst (λ q. memory_word v.memory q ≡ laid.handler l) traps_here.0 traps_here.4

      -- with this raised value, or none
      pub popped : (raised : Option Value) (held' : Locations) → AreCarried s (blocks_by_serial v young) w.registers held' raised →
          ((k : ℕ) (x : Value) → held' (loc.Slot k) ≡ Some x → held (loc.Slot k) ≡ Some x) →
          Within s laid w young 0 held' (record a { tries = rest; raised = raised }) c
      popped raised held' carried sub =
          let f = within.frame in
          let lo = within.low in
          let n : length a.tries ≡ suc (length rest) = ap (λ ts. length ts) tries in
          record {
            own = own_past v.registers w.registers young 0 differs.are (kept_reg v.memory differs 26 (λ e. omega (arith, e)) (λ e. omega (arith, e))
                (λ e. omega (arith, e)) (λ e. omega (arith, e)))
                (kept_reg v.memory differs 27 (λ e. omega (arith, e)) (λ e. omega (arith, e)) (λ e. omega (arith, e)) (λ e. omega (arith, e))) within.own;
            usable = usable_past s v w v.memory differs.memory differs.blocks within.usable.regions within.usable;
            frame = omega (arith, f, high, n);
            low = omega (arith, lo, high);
            carried = subst (λ b. AreCarried s b w.registers held' raised) (sym same_placed) carried;
            slots = λ k x h.
                let p = within.slots k x (sub k x h) in
                let e : slice_index w.registers 2 + (8 * k + 16 * length rest) ≡ slice_index v.registers 2 + (8 * k + 16 * length a.tries) = omega
                (arith, high, n) in
                let here : memory_word w.memory (slice_index w.registers 2 + (8 * k + 16 * length rest)) ≡ memory_word v.memory (slice_index v.registers 2 +
                (8 * k + 16 * length a.tries)) =
                ap (memory_word w.memory) e ∙ ap (λ m. memory_word m (slice_index v.registers 2 + (8 * k + 16 * length a.tries))) differs.memory in (
                  p.0,
                  subst (λ b. StandsFor s b (memory_word w.memory (slice_index w.registers 2 + (8 * k + 16 * length rest))) x) (sym same_placed)
                      (subst (λ z. StandsFor s (blocks_by_serial v young) z x) (sym here) p.1),
                );
            back = return_same laid.saves within.back;
            waits = subst (λ b. Waits s b w.memory c) (sym same_placed) (subst (λ m. Waits s (blocks_by_serial v young) m c) (sym differs.memory) within.waits);
            traps = subst (λ m. TrapsFrom s.base m (slice_index w.registers 9)
                (traps_at (slice_index w.registers 2) (map laid.handler rest) ++ waiting_trap_frames c.waiting c.frames) stack_bottom) (sym differs.memory)
                (subst (λ z. TrapsFrom s.base v.memory z (traps_at (slice_index w.registers 2)
                (map laid.handler rest) ++ waiting_trap_frames c.waiting c.frames) stack_bottom) (sym points)
                (subst (λ z. TrapsFrom s.base v.memory (memory_word v.memory (slice_index v.registers 2 + 8))
                (traps_at z (map laid.handler rest) ++ waiting_trap_frames c.waiting c.frames) stack_bottom) (sym high)
                (subst (λ q. TrapsFrom s.base v.memory (memory_word v.memory (q + 8))
                (traps_at (slice_index v.registers 2 + 16)
                (map laid.handler rest) ++ waiting_trap_frames c.waiting c.frames) stack_bottom) traps_here.0 traps_here.7)));
            heap = subst (λ b. HeapStands s b w.memory (record a { tries = rest; raised = raised })) (sym same_placed)
                (subst (λ m. HeapStands s (blocks_by_serial v young) m (record a { tries = rest; raised = raised })) (sym differs.memory)
                (heap_around s (blocks_by_serial v young) v.memory a rest raised within.heap));
          }

    -- what registers hold after a pop
    pub popped_registers : RegistersHold s (blocks_by_serial v young) v.registers held → RegistersHold s (blocks_by_serial v young) w.registers held
    popped_registers hold = subst (λ b. RegistersHold s b w.registers held) same_placed (registers_differ v.memory differs hold)

    -- ---- no try is the function's own: the raise comes to one that waits, or to the stub

    module _ (x : Value) (stands : StandsFor s (blocks_by_serial v young) (slice_index w.registers 10) x) (none_left : a.tries ≡ []) (whole : is_complete a ≡ true)
        (high : slice_index w.registers 2 ≡ slice_index v.registers 9 + 16) (points : slice_index w.registers 9 ≡ memory_word v.memory (slice_index v.registers 9 + 8))
        (goes : code_start + 4 * w.place ≡ memory_word v.memory (slice_index v.registers 9)) where
      thrown_by : (ts : List (ℕ × ℕ)) → TrapsFrom s.base v.memory (slice_index v.registers 9) ts stack_bottom →
          IsThrown v.memory s.base w.place (slice_index w.registers 2) (slice_index w.registers 9) ts
      thrown_by [] t = goes ∙ ap (memory_word v.memory) t ∙ within.waits.bottom
      thrown_by (h ∷ ts) t = (goes ∙ t.4, high ∙ ap (λ q. q + 16) t.0, subst (λ q. TrapsFrom s.base v.memory q ts stack_bottom) (sym points) t.7)

      pub throws : AtThrow s w young x a.memory c
      throws = record {
        own = own_past v.registers w.registers young 0 differs.are (kept_reg v.memory differs 26 (λ e. omega (arith, e)) (λ e. omega (arith, e))
            (λ e. omega (arith, e)) (λ e. omega (arith, e)))
            (kept_reg v.memory differs 27 (λ e. omega (arith, e)) (λ e. omega (arith, e)) (λ e. omega (arith, e)) (λ e. omega (arith, e))) within.own;
        usable = usable_past s v w v.memory differs.memory differs.blocks within.usable.regions within.usable;
        value_in = subst (λ b. StandsFor s b (slice_index w.registers 10) x) (sym same_placed) stands;
        waits = subst (λ b. Waits s b w.memory c) (sym same_placed) (subst (λ m. Waits s (blocks_by_serial v young) m c) (sym differs.memory) within.waits);
        thrown = subst (λ m. IsThrown m s.base w.place (slice_index w.registers 2) (slice_index w.registers 9) (waiting_trap_frames c.waiting c.frames))
            (sym differs.memory)
            (thrown_by (waiting_trap_frames c.waiting c.frames)
            (subst (λ ts. TrapsFrom s.base v.memory (slice_index v.registers 9)
            (traps_at (slice_index v.registers 2) (map laid.handler ts) ++ waiting_trap_frames c.waiting c.frames) stack_bottom) none_left within.traps));
        heap = subst (λ b. HeapStands s b w.memory (entry_around a.memory)) (sym same_placed)
            (subst (λ m. HeapStands s (blocks_by_serial v young) m (entry_around a.memory)) (sym differs.memory) (heap_whole s (blocks_by_serial v young) v.memory a whole within.heap));
      }
