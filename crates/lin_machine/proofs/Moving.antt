-- The state of a function over a service that moves the blocks.
use Rattle.std.proofs.Common.{◌≡◌, ℕ, suc, ◌+◌, ◌-◌, ◌*◌, ◌%◌, ◌<◌, ◌≤◌, inl, inr, Bool, true, false, cond, List, [], ◌∷◌, ◌++◌, length, map, reverse, Option, Some, None, slice_get, slice_index, refl, ap, arith, ◌∙◌, sym, subst, ⊎_elim, append-nil}
use Rattle.std.proofs.lemmas.List.{reverse-append, reverse-reverse, length-map}
use Rattle.bs_words.specs.Memory.{HeapBlock, InHeader}
use Rattle.bs_words.specs.declared.types.Loc.{Loc}
use Rattle.bs_words.specs.declared.types.Loc.TheVariants as loc
use Rattle.bs_words.specs.declared.values.Value.{Value}
use Rattle.bs_words.proofs.Lists.{got}
use Rattle.image_form.specs.Tables.{Desc}
use Rattle.lin_ir.specs.Meaning.{Locations, are_vals, poisoned}
use Rattle.mach_ir.specs.Acts.{Around, is_among_cells, is_complete}
use Rattle.rv_machine.specs.Frames.{Frame, descriptor_at, registers_named}
use Rattle.rv_machine.specs.Hart.{Hart, Placed}
use Rattle.rv_machine.specs.Memory.{Region, memory_word, code_start}
use Rattle.rv_machine.specs.Moving.{is_scanned}
use Rattle.rv_machine.specs.Observation.{cells_of_header}
use Rattle.rv_machine.specs.Placement.{block_end}
use Rattle.rv_machine.specs.Places.{stack_bottom}
use Rattle.bs_words.specs.Fits.{data_start}
use Rattle.rv_machine.specs.Sound.{extents}
use Rattle.moving_laws.specs.Service.{Contents, IsServiceReady, IsRestored, Knows}
use Rattle.moving_laws.specs.Stands.{AmongNumbers}
use Rattle.moving_laws.specs.Values.{FitsCell, start_of, cells_of_block}
use Rattle.moving_laws.specs.Waiting.{Chain, TrapsFrom, traps_at}
use Rattle.moving_laws.specs.Young.{HaveHeads, Rises}
use Rattle.moving_laws.proofs.Fitting.{val_fits}
use Rattle.lin_machine.specs.Contents.{blocks_of, header_in, size_in, statics_of}
use Rattle.lin_machine.specs.Relation.{AreCarried, Below, HeapStands, IsDescribed, IsLocationRegister, Laid, RegistersHold, ReturnStands, StandsFor, Waits, Within, blocks_by_serial, waiting_trap_frames, waiting_of}
use Rattle.lin_machine.specs.View.{Fixed, IsLike, View}
use Rattle.lin_machine.proofs.Frames.{named_val, own_chain, own_waits, poisoned_named, poisoned_some, val_held, none_left}
use Rattle.lin_machine.proofs.Keeping.{heap_kept, traps_at_all, traps_kept, waits_kept}
use Rattle.lin_machine.proofs.Likes.{like_readable, like_regions}

-- ---- the limit word does not matter

pub within_like : (s : Fixed) (laid : Laid) (v : View) (young : List Placed) (taken : ℕ) (held : Locations) (a : Around) (c : Below) (m' : List Region) →
    IsLike v.memory m' →
    Within s laid v young taken held a c → Within s laid (record v { memory = m' }) young taken held a c
within_like s laid v young taken held a c m' like w =
    let lo = w.low in
    let b = s.stack.low in
    let f = w.frame in
    let wl = w.waits.low in
    let high : 0x38010008 ≤ s.base = omega (arith, b) in
    record {
      own = w.own;
      usable = record {
        regions = like_regions (extents s.image s.heap s.base) v.memory m' like w.usable.regions;
        heap = w.usable.heap;
        apart = w.usable.apart;
      };
      frame = w.frame;
      low = w.low;
      carried = w.carried;
      slots = λ k x h.
          let p = w.slots k x h in
          let same = like.words (slice_index v.registers 2 + (8 * k + 16 * length a.tries)) (λ q. omega (arith, q, lo, high)) in
          (p.0, subst (λ z. StandsFor s (blocks_by_serial v young) z x) (sym same) p.1);
      back = return_like laid.saves refl high w.back;
      waits = waits_kept s (blocks_by_serial v young) v.memory m' c (λ y l h. like.words y (λ q. omega (arith, q, l, wl, high))) w.waits;
      traps = traps_kept s (blocks_by_serial v young) v.memory m' (slice_index v.registers 9) (traps_at (slice_index v.registers 2) (map laid.handler a.tries)) c
          (λ y l h. like.words y (λ q. omega (arith, q, l, wl, high)))
          (traps_at_all _ (slice_index v.registers 2) (map laid.handler a.tries)
          (λ y q h. (like.words y (λ t. omega (arith, t, q, lo, high)), like.words (y + 8) (λ t. omega (arith, t, q, lo, high)))))
          w.waits w.traps;
      heap = heap_kept s (blocks_by_serial v young) v.memory m' a (λ y q ne. like.words y ne) (λ y e q. like.held y e (λ t. omega (arith, t, q))) (λ y r. like_readable v.memory m' y like r) w.heap;
    }
  where
    return_like : (b : Bool) → b ≡ laid.saves → 0x38010008 ≤ s.base → ReturnStands b v c → ReturnStands b (record v { memory = m' }) c
    return_like true e high h =
        let room : 8 * laid.slots + 8 ≤ laid.frame = subst (λ t. 8 * laid.slots + cond t 8 0 ≤ laid.frame) (sym e) laid.room in
        let f = w.frame in
        let lo = w.low in
        like.words (c.top - 8) (λ q. omega (arith, q, f, lo, room, high)) ∙ h
    return_like false e high h = h

-- ---- the hart, by its view

abbrev pub hart_of : Fixed → View → Hart → Hart
hart_of s v h = record {
  image = s.image;
  registers = v.registers;
  pc = code_start + 4 * v.place;
  memory = v.memory;
  stack_base = s.base;
  heap = s.heap;
  blocks = v.blocks;
  retired = h.retired;
  services = h.services;
}

-- ---- young blocks say their sizes

heads_front : (m : List Region) (as' bs : List Placed) → HaveHeads m (as' ++ bs) → HaveHeads m bs
heads_front m [] bs h = h
heads_front m (a ∷ as') bs h = heads_front m as' bs h.1

heads_append : (m : List Region) (as' bs : List Placed) → HaveHeads m as' → HaveHeads m bs → HaveHeads m (as' ++ bs)
heads_append m [] bs a b = b
heads_append m (x ∷ as') bs a b = (a.0, heads_append m as' bs a.1 b)

heads_reverse : (m : List Region) (bs : List Placed) → HaveHeads m bs → HaveHeads m (reverse bs)
heads_reverse m [] h = tt
heads_reverse m (b ∷ bs) h = subst (HaveHeads m) (sym (reverse-append (b ∷ []) bs)) (heads_append m (reverse bs) (b ∷ []) (heads_reverse m bs h.1) (h.0, tt))

heads_by : (m : List Region) (bs : List Placed) → ((k : ℕ) → k < length bs → cells_of_header (memory_word m (start_of bs k - 8)) ≡ cells_of_block bs k) → HaveHeads m bs
heads_by m [] h = tt
heads_by m (b ∷ bs) h = (h 0 (omega arith), heads_by m bs (λ k l. h (suc k) (omega (arith, l))))

heads_young : (m : List Region) (blocks young : List Placed) → HaveHeads m (blocks ++ reverse young) → HaveHeads m young
heads_young m blocks young h = subst (HaveHeads m) (reverse-reverse young) (heads_reverse m (reverse young) (heads_front m blocks (reverse young) h))

pub rises_top : (a : ℕ) (bs : List Placed) → Rises a bs → a ≤ 0x38010000
rises_top a [] r = omega (arith, r)
rises_top a (b ∷ bs) r = let q = rises_top (block_end b) bs r.3 in let e = r.0 in omega (arith, q, e)

-- ---- a memory in which every block is whole

header_whole : (a : Around) (k : ℕ) (b : HeapBlock) → is_complete a ≡ true → slice_get a.memory.blocks k ≡ Some b → (blocks_of a).header k ≡ Some b.header
header_whole a k b whole there = ap (λ u. cond (is_among_cells (InHeader k) u) None (header_in (slice_get a.memory.blocks k))) (none_left a.unwritten whole)
    ∙ ap header_in there

header_one : (b : Bool) (o : Option HeapBlock) (w : ℕ) → cond b None (header_in o) ≡ Some w → (x : HeapBlock) × (o ≡ Some x) × (x.header ≡ w)
header_one true o w e = absurd (cc)
header_one false None w e = absurd (cc)
header_one false (Some x) w e = (x, refl, let same : Some x.header ≡ Some w = e in cc)

-- the young blocks say theirs, where every block is whole
pub heads_of : (s : Fixed) (v : View) (young : List Placed) (m : List Region) (a : Around) → is_complete a ≡ true →
    HeapStands s (v.blocks ++ reverse young) m a → HaveHeads m young
heads_of s v young m a whole h =
    heads_young m v.blocks young (heads_by m (v.blocks ++ reverse young)
    (λ k l. let n = h.stand.count in
    let b = got a.memory.blocks k (omega (arith, l, n)) in
    ap cells_of_header (h.stand.header k b.0.header l (header_whole a k b.0 whole b.1)) ∙ h.heads k b.0 b.1 ∙ sym (h.stand.sizes k l ∙ ap size_in b.1)))

-- ---- before the service

module _ (s : Fixed) (laid : Laid) (v : View) (young : List Placed) (taken : ℕ) (held : Locations) (a : Around) (c : Below)
    (within : Within s laid v young taken held a c)
    (named : List Loc) (d : Desc) (is : IsDescribed laid (length a.tries) named d) (saves : laid.saves ≡ true)
    (fit : are_vals (data_start + length s.image.bytes) named held ≡ true)
    (whole : is_complete a ≡ true) (none : a.raised ≡ None) (there : descriptor_at s.image.descs (code_start + 4 * v.place + 4) ≡ Some d) where
  abbrev pub own_frame_of : Frame
  own_frame_of = record { at = slice_index v.registers 2; desc = d }

  abbrev pub contents : Contents
  contents = record {
    registers = λ r. poisoned named held (loc.Machine r);
    waiting = waiting_of laid (poisoned named held) a.tries c ∷ c.waiting;
    traps = traps_at (slice_index v.registers 2) (map laid.handler a.tries) ++ waiting_trap_frames c.waiting c.frames;
    last = stack_bottom;
    blocks = blocks_of a;
    static = statics_of a.memory;
  }

  registers_hold : RegistersHold s (blocks_by_serial v young) v.registers held
  registers_hold = subst (λ o. AreCarried s (blocks_by_serial v young) v.registers held o) none within.carried

  named_location : (r : ℕ) → AmongNumbers r (registers_named d.entries) → IsLocationRegister r
  named_location r i =
      let h = val_held (data_start + length s.image.bytes) (held (loc.Machine r))
      (named_val (data_start + length s.image.bytes) named held (loc.Machine r) fit (is.from_register r i)) in
      (registers_hold r h.0 h.1).0

  count_is : length a.memory.blocks ≡ length (blocks_by_serial v young)
  count_is = within.heap.stand.count

  header_there : (k : ℕ) → k < length (blocks_by_serial v young) → (b : HeapBlock) × (slice_get a.memory.blocks k ≡ Some b)
  header_there k l = let n = count_is in got a.memory.blocks k (omega (arith, l, n))

  pub knows_of : (h : Hart) → Knows (v.blocks ++ reverse young) (hart_of s v h) (own_frame_of ∷ c.frames) contents (code_start + 4 * v.place + 4)
  knows_of h =
      let f = within.frame in
      let hi = within.waits.high in
      record {
        sound = record {
          image = s.functions.tables;
          registers = within.own.are;
          memory = within.usable.regions;
          stack = s.stack;
          heap = within.usable.heap;
          apart = within.usable.apart;
        };
        old = within.heap.old;
        sp_low = within.low;
        sp_high = omega (arith, f, hi);
        chain = own_chain s laid v young taken held a c within named d is saves fit true (code_start + 4 * v.place + 4) (inl refl)
            (λ q. omega (arith, q)) there;
        in_registers = record {
          register = λ r x e. (registers_hold r x (poisoned_some named held (loc.Machine r) x e).0).1.is;
          known = λ r x e. (registers_hold r x (poisoned_some named held (loc.Machine r) x e).0).1.known;
        };
        waits = (own_waits s laid v young taken held a c within named d is saves fit, within.waits.waits);
        traps = within.traps;
        stand = within.heap.stand;
        settled = record {
          header = λ k l. let b = header_there k l in (b.0.header, header_whole a k b.0 whole b.1);
          cell = λ k j w x l e f.
              let b = header_one (is_among_cells (InHeader k) a.unwritten) (slice_get a.memory.blocks k) w e in
              subst (λ q. FitsCell s.image (length (blocks_by_serial v young)) (is_scanned q) x) b.2 (within.heap.fits k j b.0 x b.1 f);
        };
        statics = within.heap.statics;
      }

  pub ready_of : (h : Hart) (from : ℕ) → from ≡ slice_index v.registers 26 + taken → IsServiceReady (hart_of s v h) from young own_frame_of contents.registers
  ready_of h from e =
      let low = within.own.from_low in
      record {
        functions = s.functions;
        from_even = ap (λ x. x % 8) e ∙ within.own.from_even;
        from_low = omega (arith, e, low);
        rises = subst (λ x. Rises x young) (sym e) within.own.rises;
        heads = heads_of s v young v.memory a whole within.heap;
        named = record {
          value = λ r x e. let o = poisoned_some named held (loc.Machine r) x e in ⊎_elim (λ t. inl t) (λ t. inr (is.register r t)) o.1;
          named = λ r i.
              let n = is.from_register r i in
              let h = val_held (data_start + length s.image.bytes) (held (loc.Machine r))
              (named_val (data_start + length s.image.bytes) named held (loc.Machine r) fit n) in
              (h.0, poisoned_named named held (loc.Machine r) n ∙ h.1, val_fits s.image (length (blocks_by_serial v young)) h.0 h.2 (registers_hold r h.0 h.1).1.known);
        };
        plain = λ r i. let p = named_location r i in (p.some, p.below, p.no_trap, p.no_young, p.no_domain);
        no_s10 = none_at (poisoned named held (loc.Machine 26)) refl;
      }
    where
      none_at : (o : Option Value) → poisoned named held (loc.Machine 26) ≡ o → o ≡ None
      none_at None e = refl
      none_at (Some x) e = absurd ((registers_hold 26 x (poisoned_some named held (loc.Machine 26) x e).0).0.no_young refl)

  -- ---- after it

  module _ (h new : Hart) (place : ℕ) (restored : IsRestored taken (hart_of s v h) own_frame_of c.frames contents new) where
    -- the hart that the service leaves, with what stays
    abbrev pub left : Hart
    left = record new { image = s.image; stack_base = s.base; heap = s.heap }

    pub left_is : new ≡ left
    left_is =
        ap (λ x. record new { image = x }) restored.image ∙ ap (λ x. record new { image = s.image; stack_base = x }) restored.stack_base
        ∙ ap (λ x. record new { image = s.image; stack_base = s.base; heap = x }) restored.heap

    again : IsRestored taken (hart_of s v h) own_frame_of c.frames contents left
    again = subst (IsRestored taken (hart_of s v h) own_frame_of c.frames contents) left_is restored

    -- what is seen of it
    abbrev pub view_after : View
    view_after = record { place = place; registers = new.registers; memory = new.memory; blocks = new.blocks; answers = v.answers; calls = v.calls; asked = false }

    pub within_after : Within s laid view_after [] taken (poisoned named held) a c
    within_after =
        let k = again.knows in
        let n = length-map a.tries laid.handler in
        let e2 : slice_index new.registers 2 ≡ slice_index v.registers 2 = again.others 2 (λ q. omega (arith, q))
        (λ i. let p = (named_location 2 i).some in omega (arith, p)) in
        let e9 : slice_index new.registers 9 ≡ slice_index v.registers 9 = again.others 9 (λ q. omega (arith, q)) (λ i. (named_location 9 i).no_trap refl) in
        let e27 : slice_index new.registers 27 ≡ slice_index v.registers 27 = again.others 27 (λ q. omega (arith, q))
        (λ i. (named_location 27 i).no_domain refl) in
        let s10 : slice_index new.registers 26 ≡ 0x38010000 - taken = again.s10_is in
        let top = rises_top (slice_index v.registers 26 + taken) young within.own.rises in
        let back : slice_index new.registers 26 + taken ≡ 0x38010000 = omega (arith, s10, top) in
        let empty : new.blocks ++ reverse [] ≡ new.blocks = append-nil new.blocks in
        let own = k.waits.0 in
        let chain = subst (λ q. Chain s.image.descs s.base new.memory true (code_start + 4 * v.place + 4) q (own_frame_of ∷ c.frames)) e2 k.chain in
        let size = is.size in
        let room : 8 * laid.slots + 8 ≤ laid.frame = subst (λ b. 8 * laid.slots + cond b 8 0 ≤ laid.frame) saves laid.room in
        let f = within.frame in
        let lo = within.low in
        let return_at : slice_index v.registers 2 + (d.size - 8) ≡ c.top - 8 = omega (arith, f, size, room) in
        let full : slice_index v.registers 2 + d.size ≡ c.top = omega (arith, f, size) in
        let count : length (blocks_by_serial v young) ≡ length new.blocks = sym count_is ∙ k.stand.count in
        record {
          own = record {
            are = k.sound.registers;
            from_even = ap (λ x. x % 8) back;
            from_low = omega (arith, back);
            rises = back;
            domain = e27
                ∙ within.own.domain;
          };
          usable = record { regions = k.sound.memory; heap = k.sound.heap; apart = k.sound.apart };
          frame = omega (arith, f, e2);
          low = omega (arith, lo, e2);
          carried = subst (λ o. AreCarried s (new.blocks ++ reverse []) new.registers (poisoned named held) o) (sym none)
              (λ r x e. (
                (registers_hold r x (poisoned_some named held (loc.Machine r) x e).0).0,
                subst (λ b. StandsFor s b (slice_index new.registers r) x) (sym empty)
                    (record { is = k.in_registers.register r x e; known = k.in_registers.known r x e }),
              ));
          slots = λ q x e.
              let i = (within.slots q x (poisoned_some named held (loc.Slot q) x e).0).0 in
              let at : slice_index new.registers 2 + (8 * q + 16 * length a.tries) ≡ slice_index v.registers 2 + (16 * length
              (map laid.handler a.tries) + 8 * q) = omega (arith, e2, n) in (
                i,
                subst (λ b. StandsFor s b (memory_word new.memory (slice_index new.registers 2 + (8 * q + 16 * length a.tries))) x) (sym empty)
                    (record { is = ap (memory_word new.memory) at ∙ own.slot q x i e; known = own.known q x i e }),
              );
          back = subst (λ b. ReturnStands b view_after c) (sym saves) (ap (memory_word new.memory) (sym return_at) ∙ own.back);
          waits = subst (λ b. Waits s b new.memory c) (sym empty) (record {
            low = within.waits.low;
            high = within.waits.high;
            even = within.waits.even;
            back = within.waits.back;
            backs = within.waits.backs;
            chain = subst (λ q. Chain s.image.descs s.base new.memory false c.back q c.frames) full (subst (λ b. Chain s.image.descs s.base new.memory false b
                (slice_index v.registers 2 + d.size) c.frames) own.back chain.5);
            waits = k.waits.1;
            bottom = again.stays 0x3FFFFFF0 s.stack.high (omega arith) refl (inl (let b = within.waits.bottom in omega (arith, b))) ∙ within.waits.bottom;
          });
          traps = subst (λ q. TrapsFrom s.base new.memory (slice_index new.registers 9)
              (traps_at q (map laid.handler a.tries) ++ waiting_trap_frames c.waiting c.frames) stack_bottom) (sym e2) k.traps;
          heap = subst (λ b. HeapStands s b new.memory a) (sym empty) (record {
            old = k.old;
            readable = again.blocks_readable;
            stand = k.stand;
            heads = within.heap.heads;
            fits = λ q j b x e g. subst (λ m. FitsCell s.image m (is_scanned b.header) x) count (within.heap.fits q j b x e g);
            statics = k.statics;
            lie = within.heap.lie;
          });
        }
