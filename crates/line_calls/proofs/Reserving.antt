-- Bytes are taken off s10, and the allocation service is asked where that is then below the limit.
use Rattle.std.proofs.Common.{◌≡◌, ◌≢◌, ℕ, ◌+◌, ◌-◌, ◌*◌, ◌%◌, ◌<◌, ◌≤◌, inl, inr, Bool, true, false, not, nat_lt, List, [], ◌∷◌, ◌++◌, length, map, Option, Some, None, slice_index, refl, ap, arith, ◌∙◌, sym, subst, ⊎_elim, length-append}
use Rattle.std.proofs.lemmas.Bool.{and_from, eq-eqb, le-leb, ltb-false, ltb-true}
use Rattle.bs_words.specs.Fits.{data_start}
use Rattle.bs_words.specs.Memory.{heap_need}
use Rattle.bs_words.specs.Word.{add_word}
use Rattle.bs_words.specs.declared.types.Loc.{Loc}
use Rattle.bs_words.specs.declared.types.Loc.TheVariants as loc
use Rattle.bs_words.specs.declared.values.Value.{Value}
use Rattle.rv_emit_rules.specs.Constants.{constant_pieces, bytes_taken_off}
use Rattle.rv_emit_rules.specs.Instructions.{ecall, load_piece, skip}
use Rattle.rv_emit_rules.specs.Memory.{ask, reserved}
use Rattle.rv_emit_rules.specs.Sizes.{words_at_most}
use Rattle.rv_emit_rules.specs.Traversal.{EachPiece, each_none, each_more}
use Rattle.rv_emit_rules.specs.Values.{Makes, makes_first, makes_lower, makes_shift, makes_sum, makes_upper}
use Rattle.rv_emit_rules.proofs.Sizes.{constant-in}
use Rattle.rv_emit_rules.proofs.Values.{constant_is_made}
use Rattle.image_form.specs.Tables.{Desc}
use Rattle.rv_layout_rules.specs.Words.{NameAddresses}
use Rattle.rv_layout_rules.proofs.Offsets.{by_13}
use Rattle.lin_ir.specs.Meaning.{Locations, are_vals, poisoned}
use Rattle.mach_ir.specs.Acts.{Around, is_complete}
use Rattle.rv_isa.specs.Registers.{register_number}
use Rattle.rv_isa.specs.declared.instr.Condition.TheVariants.{Bgeu}
use Rattle.rv_isa.specs.declared.instr.Instr.TheVariants.{Branch, Ecall, Load, OpImm, Shift, Lui, Addiw}
use Rattle.rv_isa.specs.declared.instr.AluImmOp.TheVariants.{Addi}
use Rattle.rv_isa.specs.declared.instr.ShiftOp.TheVariants.{Slli}
use Rattle.rv_isa.specs.declared.instr.LoadWidth.TheVariants.{Ld}
use Rattle.rv_isa.specs.declared.register.Register.{Register}
use Rattle.rv_isa.specs.declared.register.Register.TheVariants.{S10, S11, T0, T1, T2}
use Rattle.rv_machine.specs.Arithmetic.{imm_b}
use Rattle.rv_machine.specs.Frames.{descriptor_at}
use Rattle.rv_machine.specs.Hart.{Placed}
use Rattle.rv_machine.specs.Memory.{code_start, memory_word}
use Rattle.rv_machine.specs.Observation.{young_start, young_top}
use Rattle.rv_machine.specs.Placement.{are_apart}
use Rattle.rv_machine.specs.Sound.{HasRegions, extents}
use Rattle.rv_machine.specs.Space.{IsHeap}
use Rattle.rv_pieces.specs.declared.piece.Piece.{Piece}
use Rattle.moving_laws.specs.Stands.{AmongNumbers}
use Rattle.moving_laws.specs.Waiting.{traps_at}
use Rattle.moving_laws.specs.Young.{Rises}
use Rattle.lin_machine.specs.Arrival.{Arrives, ArrivesIn, Needs}
use Rattle.lin_machine.specs.Relation.{AreCarried, Below, HeapStands, IsDescribed, Laid, ReturnStands, SlotsHold, StandsFor, TrapsStand, Waits, Within, blocks_by_serial}
use Rattle.lin_machine.specs.Straight.{IsPast}
use Rattle.lin_machine.specs.View.{Fixed, IsInstructionAt, View}
use Rattle.lin_machine.proofs.Arriving.{at_least, leads_arrives, then_arrives}
use Rattle.lin_machine.proofs.Formats.{goes_branch_on, goes_branch_taken}
use Rattle.lin_machine.proofs.Frames.{poisoned_some}
use Rattle.lin_machine.proofs.Limits.{HasLimit, NeedsMore, limit_arrives, needs_more, still_needs}
use Rattle.lin_machine.proofs.Serving.{allocation_any}
use Rattle.lin_machine.proofs.Standing.{IsFree, within_changed, within_less, within_past}
use Rattle.lin_machine.proofs.Steps.{SetsRegister, at_place, go_step}
use Rattle.lin_machine.proofs.Storing.{bytes_need}
use Rattle.line_stands.specs.Parts.{PartStands}
use Rattle.line_stands.proofs.Parts.{known, nothing_more, splits}
use Rattle.line_calls.specs.Reaches.{Reaches}
use Rattle.machine_laws.proofs.Immediates.{up}
use Rattle.line_calls.proofs.Tailing.{place_near}
use Rattle.line_calls.proofs.Numbers.{constant_reaches, lowers}
use Rattle.line_calls.proofs.Reaching.{arrived, arrives_as, reaches_as, reaches_more, reaches_set, single}

-- ---- s10 has less

module _ (s : Fixed) (laid : Laid) (v w : View) (young : List Placed) (taken bytes : ℕ) (held : Locations) (a : Around) (c : Below)
    (n : ℕ) (past : IsPast n (6 ∷ 26 ∷ []) v.memory v w) (none : a.raised ≡ None) (off : slice_index w.registers 26 + bytes ≡ slice_index v.registers 26)
    (within : Within s laid v young taken held a c) where
  kept : (q : ℕ) → q ≢ 6 → q ≢ 26 → slice_index w.registers q ≡ slice_index v.registers q
  kept q n6 n26 = past.others q (λ i. ⊎_elim n6 (λ j. ⊎_elim n26 (λ f. f) j) i)

  same_placed : blocks_by_serial w young ≡ blocks_by_serial v young
  same_placed = ap (λ bs. blocks_by_serial (record v { blocks = bs }) young) past.blocks

  same_sp : slice_index w.registers 2 ≡ slice_index v.registers 2
  same_sp = kept 2 (λ e. omega (arith, e)) (λ e. omega (arith, e))

  carried : (o : Option Value) → o ≡ None → AreCarried s (blocks_by_serial v young) v.registers held o → AreCarried s (blocks_by_serial v young) w.registers held None
  carried None e hold = λ r x h.
      let p = hold r x h in
      (p.0, subst (λ z. StandsFor s (blocks_by_serial v young) z x) (sym (kept r p.0.no_scratch.0 p.0.no_young)) p.1)
  carried (Some x) e hold = absurd (cc)

  back_by : (b : Bool) → ReturnStands b v c → ReturnStands b w c
  back_by true h = ap (λ m. memory_word m (c.top - 8)) past.memory ∙ h
  back_by false h = kept 1 (λ e. omega (arith, e)) (λ e. omega (arith, e)) ∙ h

  pub within_taken_off : Within s laid w young (taken + bytes) held a c
  within_taken_off =
      let base : slice_index w.registers 26 + (taken + bytes) ≡ slice_index v.registers 26 + taken = omega (arith, off) in
      let ev = within.own.from_even in
      let lo = within.own.from_low in
      record {
        own = record {
          are = past.are;
          from_even = ap (λ x. x % 8) base ∙ ev;
          from_low = omega (arith, base, lo);
          rises = subst (λ x. Rises x young) (sym base) within.own.rises;
          domain = kept 27 (λ e. omega (arith, e)) (λ e. omega (arith, e)) ∙ within.own.domain;
        };
        usable = record {
          regions = subst (λ m. HasRegions (extents s.image s.heap s.base) m) (sym past.memory) within.usable.regions;
          heap = subst (λ bs. IsHeap s.heap bs) (sym past.blocks) within.usable.heap;
          apart = ap are_apart past.blocks ∙ within.usable.apart;
        };
        frame = let f = within.frame in let e = same_sp in omega (arith, f, e);
        low = let f = within.low in let e = same_sp in omega (arith, f, e);
        carried = subst (λ o. AreCarried s (blocks_by_serial w young) w.registers held o) (sym none)
            (subst (λ p. AreCarried s p w.registers held None) (sym same_placed) (carried a.raised none within.carried));
        slots = subst (λ p. SlotsHold s laid p w.memory (slice_index w.registers 2) (length a.tries) held) (sym same_placed)
            (subst (λ m. SlotsHold s laid (blocks_by_serial v young) m (slice_index w.registers 2) (length a.tries) held) (sym past.memory)
            (subst (λ p. SlotsHold s laid (blocks_by_serial v young) v.memory p (length a.tries) held) (sym same_sp) within.slots));
        back = back_by laid.saves within.back;
        waits = subst (λ p. Waits s p w.memory c) (sym same_placed) (subst (λ m. Waits s (blocks_by_serial v young) m c) (sym past.memory) within.waits);
        traps = subst (λ m. TrapsStand s m (slice_index w.registers 9) (traps_at (slice_index w.registers 2) (map laid.handler a.tries)) c) (sym past.memory)
            (subst (λ t. TrapsStand s v.memory t (traps_at (slice_index w.registers 2) (map laid.handler a.tries)) c)
            (sym (kept 9 (λ e. omega (arith, e)) (λ e. omega (arith, e))))
            (subst (λ p. TrapsStand s v.memory (slice_index v.registers 9) (traps_at p (map laid.handler a.tries)) c) (sym same_sp) within.traps));
        heap = subst (λ p. HeapStands s p w.memory a) (sym same_placed) (subst (λ m. HeapStands s (blocks_by_serial v young) m a) (sym past.memory) within.heap);
      }

-- ---- how many words a request has

made_short : (r : Register) (ps : List Piece) → EachPiece (Makes r) ps → length ps ≤ words_at_most ps
made_short r [] each_none = omega arith
made_short r (_ ∷ ps) (each_more (makes_first w) hs) = let l = made_short r ps hs in omega (arith, l)
made_short r (_ ∷ ps) (each_more (makes_upper w) hs) = let l = made_short r ps hs in omega (arith, l)
made_short r (_ ∷ ps) (each_more (makes_lower w) hs) = let l = made_short r ps hs in omega (arith, l)
made_short r (_ ∷ ps) (each_more (makes_sum w) hs) = let l = made_short r ps hs in omega (arith, l)
made_short r (_ ∷ ps) (each_more (makes_shift w) hs) = let l = made_short r ps hs in omega (arith, l)

constant_short : (r : Register) (w : ℕ) → length (constant_pieces r w) ≤ 9
constant_short r w = let a = made_short r (constant_pieces r w) (constant_is_made r w) in let b = (constant-in r w).fits in omega (arith, a, b)

module _ (s : Fixed) (n : NameAddresses) where
  made_words : (r : Register) (ps : List Piece) (at to : ℕ) → EachPiece (Makes r) ps → PartStands s n at to ps → to ≡ at + length ps
  made_words r [] at to each_none st = let e = nothing_more s n at to st in omega (arith, e)
  made_words r (_ ∷ ps) at to (each_more (makes_first w) hs) st =
      let k = known s n at to (OpImm Addi (register_number r) 0 (w % 4096)) ps st in let e = made_words r ps (at + 1) to hs k.1 in omega (arith, e)
  made_words r (_ ∷ ps) at to (each_more (makes_upper w) hs) st =
      let k = known s n at to (Lui (register_number r) (w % 1048576)) ps st in let e = made_words r ps (at + 1) to hs k.1 in omega (arith, e)
  made_words r (_ ∷ ps) at to (each_more (makes_lower w) hs) st =
      let k = known s n at to (Addiw (register_number r) (register_number r) (w % 4096)) ps st in let e = made_words r ps (at + 1) to hs k.1 in omega (arith, e)
  made_words r (_ ∷ ps) at to (each_more (makes_sum w) hs) st =
      let k = known s n at to (OpImm Addi (register_number r) (register_number r) (w % 4096)) ps st in let e = made_words r ps (at + 1) to hs k.1 in omega (arith, e)
  made_words r (_ ∷ ps) at to (each_more (makes_shift w) hs) st =
      let k = known s n at to (Shift Slli (register_number r) (register_number r) (w % 64)) ps st in let e = made_words r ps (at + 1) to hs k.1 in omega (arith, e)

  pub ask_words : (bytes at to : ℕ) → PartStands s n at to (ask bytes) → (to ≡ at + length (ask bytes)) × (length (ask bytes) ≤ 19)
  ask_words bytes at to st =
      let q = splits s n at to (constant_pieces T0 bytes ++ constant_pieces T2 3) (ecall ∷ []) st in
      let p = splits s n at q.middle (constant_pieces T0 bytes) (constant_pieces T2 3) q.first in
      let e1 = made_words T0 (constant_pieces T0 bytes) at p.middle (constant_is_made T0 bytes) p.first in
      let e2 = made_words T2 (constant_pieces T2 3) p.middle q.middle (constant_is_made T2 3) p.second in
      let e3 = (single s n q.middle to Ecall q.second).1 in
      let l1 = length-append (constant_pieces T0 bytes ++ constant_pieces T2 3) (ecall ∷ []) in
      let l2 = length-append (constant_pieces T0 bytes) (constant_pieces T2 3) in
      let s1 = constant_short T0 bytes in
      let s2 = constant_short T2 3 in
      (omega (arith, e1, e2, e3, l1, l2), omega (arith, l1, l2, s1, s2))

-- ---- the whole

-- so many bytes may be asked for
pub record IsRequest (bytes : ℕ) : Type 0 where
  pub even : bytes % 8 ≡ 0
  pub some : 16 ≤ bytes
  pub most : bytes ≤ 2056

-- the bytes have been taken off s10, which has room for them, and what is not named may be lost
pub record IsReserved (s : Fixed) (laid : Laid) (bytes : ℕ) (file : Locations) (a : Around) (c : Below) (w : View) : Type 0 where
  pub young : List Placed
  pub within : Within s laid w young bytes file a c
  pub room : young_start ≤ slice_index w.registers 26

module _ (s : Fixed) (n : NameAddresses) (laid : Laid) (v : View) (young : List Placed) (held : Locations) (a : Around) (c : Below)
    (within : Within s laid v young 0 held a c) (none : a.raised ≡ None) (whole : is_complete a ≡ true) (bytes : ℕ) (request : IsRequest bytes)
    (point : List Loc) (d : Desc) (is : IsDescribed laid (length a.tries) point d) (saves : laid.saves ≡ true)
    (fit : are_vals (data_start + length s.image.bytes) point held ≡ true) (no_spare : (x : Value) → held (loc.Machine 5) ≡ Some x → ⊥)
    (middle : ℕ) (there : descriptor_at s.image.descs (code_start + 4 * middle) ≡ Some d) (q : Needs) (need : heap_need a.memory ≤ q.heap) where
  abbrev Final : View → Type 0
  Final = λ w. (w.place ≡ middle) × IsReserved s laid bytes (poisoned point held) a c w

  -- ---- the service is asked

  t0_free : (r : ℕ) → AmongNumbers r (5 ∷ []) → IsFree r
  t0_free r (inl e) = record {
    some = omega (arith, e);
    no_trap = λ f. omega (arith, e, f);
    no_young = λ f. omega (arith, e, f);
    no_domain = λ f. omega (arith, e, f);
  }
  t0_free r (inr e) = absurd e

  asks_there : (z : View) → Within s laid z young bytes held a c → z.place + 1 ≡ middle → IsInstructionAt s z.place Ecall → slice_index z.registers 5 ≡ bytes →
      slice_index z.registers 7 ≡ 3 → NeedsMore z → Arrives 1 s q z Final
  asks_there z wz at code asked service needs =
      let used = bytes_need s (blocks_by_serial z young) z.memory a wz.heap in
      let even = request.even in
      let some = request.some in
      let most = request.most in
      let place : code_start + 4 * z.place + 4 ≡ code_start + 4 * middle = omega (arith, at) in
      arrives_as 0 1 s z (λ w. (w.place ≡ z.place + 1) × Within s laid w [] bytes (poisoned point held) a c) Final
      (λ w h. (
        h.0 ∙ at,
        record {
          young = [];
          within = h.1;
          room = let top : slice_index w.registers 26 + bytes ≡ young_top = h.1.own.rises in omega (arith, top, most);
        },
      ))
      (allocation_any s laid z young bytes held a c wz point d is saves fit whole none
      (subst (λ p. descriptor_at s.image.descs p ≡ Some d) (sym place) there) asked
      (and_from _ _ (and_from _ _ (eq-eqb (bytes % 8) 0 even) (le-leb 16 bytes some)) (le-leb bytes 2056 most)) code service needs q (omega (arith, used, need)))

  ask_arrives : (z : View) → Within s laid z young bytes held a c → NeedsMore z → PartStands s n z.place middle (ask bytes) →
      Arrives (length (ask bytes)) s q z Final
  ask_arrives z wz needs st =
      let few = (ask_words s n bytes z.place middle st).0 in
      let ends = splits s n z.place middle (constant_pieces T0 bytes ++ constant_pieces T2 3) (ecall ∷ []) st in
      let parts = splits s n z.place ends.middle (constant_pieces T0 bytes) (constant_pieces T2 3) ends.first in
      let last = single s n ends.middle middle Ecall ends.second in
      let most = request.most in
      let first = constant_reaches s n T0 4 refl (omega arith) (λ e. omega (arith, e)) z parts.middle bytes (omega (arith, most)) parts.first wz.own.are in
      let u = first.changes.view in
      let here = arrived s z parts.middle (5 ∷ []) z.memory _ first in
      let wu : Within s laid u young bytes held a c = within_changed s laid z u young bytes held held a c first.count (5 ∷ []) first.changes.past t0_free
      (record { each = λ l x h. h })
      (λ e r x i h. ⊎_elim (λ f. no_spare x (subst (λ k. held (loc.Machine k) ≡ Some x) f h)) (λ f. f) i) (inl none) wz in
      let second = constant_reaches s n T2 6 refl (omega arith) (λ e. omega (arith, e)) u ends.middle 3 (omega arith)
      (subst (λ p. PartStands s n p ends.middle (constant_pieces T2 3)) (sym here) parts.second) wu.own.are in
      let t = second.changes.view in
      let at = arrived s u ends.middle (7 ∷ []) u.memory _ second in
      let wt : Within s laid t young bytes held a c = within_past s laid u t young bytes held a c second.count (7 ∷ []) second.changes.past
      (λ r i. ⊎_elim (λ e. inr e) (λ f. absurd f) i) wu in
      let asked : slice_index t.registers 5 ≡ bytes =
      second.changes.past.others 5 (λ i. ⊎_elim (λ e. omega (arith, e)) (λ f. f) i) ∙ first.changes.holds in
      let still : NeedsMore t = still_needs z t
      (second.changes.past.others 26 (λ i. ⊎_elim (λ e. omega (arith, e)) (λ f. f) i)
      ∙ first.changes.past.others 26 (λ i. ⊎_elim (λ e. omega (arith, e)) (λ f. f) i))
      (second.changes.leads.asked ∙ first.changes.leads.asked) needs in
      let l1 = first.lands in
      let l2 = second.lands in
      let l3 = last.1 in
      let enough : first.count + (second.count + 1) ≤ length (ask bytes) = omega (arith, few, l1, l2, l3, here) in
      at_least 0 0 (first.count + (second.count + 1)) (length (ask bytes)) s z Final (omega arith) enough
      (then_arrives first.count (second.count + 1) s z (λ w. w ≡ u) Final (leads_arrives s first.count z u (λ w. w ≡ u) first.changes.leads refl)
      (λ w e. subst (λ w. Arrives (second.count + 1) s q w Final) (sym e)
      (then_arrives second.count 1 s u (λ w. w ≡ t) Final (leads_arrives s second.count u t (λ w. w ≡ t) second.changes.leads refl)
      (λ w f. subst (λ w. Arrives 1 s q w Final) (sym f)
      (asks_there t wt (omega (arith, at, l3)) (subst (λ p. IsInstructionAt s p Ecall) (sym at) last.0) asked second.changes.holds still)))))

  -- ---- the test

  -- at another place of the words
  moved_to : (z : View) (more : ℕ) → Within s laid z young bytes held a c → Within s laid (at_place (z.place + more) z) young bytes held a c
  moved_to z more wz = within_past s laid z (at_place (z.place + more) z) young bytes held a c more []
      (record { place = refl; are = wz.own.are; others = λ r i. refl; memory = refl; blocks = refl }) (λ r i. absurd i) wz

  limit_low : (u : View) → HasLimit 6 u → young_start ≤ slice_index u.registers 6
  limit_low u h = ⊎_elim (λ e. omega (arith, e)) (λ p. let e = p.0 in omega (arith, e)) h

  tests_by :
      (u : View) → Within s laid u young bytes held a c → HasLimit 6 u →
      PartStands s n u.place middle (skip Bgeu S10 T1 (4 * (1 + length (ask bytes))) ∷ ask bytes) → (t : Bool) →
      nat_lt (slice_index u.registers 26) (slice_index u.registers 6) ≡ t → Arrives (1 + length (ask bytes)) s q u Final
  tests_by u wu limit st true e =
      let k = known s n u.place middle (Branch Bgeu 26 6 (4 * (1 + length (ask bytes)) % 8192)) (ask bytes) st in
      let next = at_place (u.place + 1) u in
      then_arrives 1 (length (ask bytes)) s u (λ w. w ≡ next) Final
      (leads_arrives s 1 u next (λ w. w ≡ next)
      (go_step s u (Branch Bgeu 26 6 (4 * (1 + length (ask bytes)) % 8192)) (u.place + 1) k.0
      (goes_branch_on s u Bgeu 26 6 (4 * (1 + length (ask bytes)) % 8192) (ap not e))) refl)
      (λ w f. subst (λ w. Arrives (length (ask bytes)) s q w Final) (sym f) (ask_arrives next (moved_to u 1 wu)
      (needs_more u 6 limit (ltb-true (slice_index u.registers 26) (slice_index u.registers 6) e)) k.1))
  tests_by u wu limit st false e =
      let k = known s n u.place middle (Branch Bgeu 26 6 (4 * (1 + length (ask bytes)) % 8192)) (ask bytes) st in
      let words = ask_words s n bytes (u.place + 1) middle k.1 in
      let lands = words.0 in
      let few = words.1 in
      let off : ℕ = 4 * (1 + length (ask bytes)) in
      let same : off % 8192 ≡ off = omega (arith, few) in
      let offset : imm_b (4 * (1 + length (ask bytes)) % 8192) ≡ off =
      ap imm_b same ∙ ⊎_elim (λ (p : (off < 4096) × (imm_b off ≡ off)). p.1) (λ p. absurd (let z = p.0 in omega (arith, z, few))) (by_13 off (omega
      (arith, few))) in
      let near = place_near s u.place _ k.0 in
      let target : add_word (code_start + 4 * u.place) (imm_b (4 * (1 + length (ask bytes)) % 8192)) ≡ code_start + 4 * middle =
      ap (add_word (code_start + 4 * u.place)) offset ∙ up (code_start + 4 * u.place) off (code_start + 4 * middle) (omega (arith, lands)) (omega
      (arith, lands, near, few)) in
      let dest = at_place middle u in
      let more : ℕ = 1 + length (ask bytes) in
      let at : u.place + more ≡ middle = omega (arith, lands) in
      let low = limit_low u limit in
      let not_less = ltb-false (slice_index u.registers 26) (slice_index u.registers 6) e in
      at_least 0 0 1 (1 + length (ask bytes)) s u Final (omega arith) (omega arith)
      (leads_arrives s 1 u dest Final
      (go_step s u (Branch Bgeu 26 6 (4 * (1 + length (ask bytes)) % 8192)) middle k.0
      (goes_branch_taken s u Bgeu 26 6 (4 * (1 + length (ask bytes)) % 8192) middle (ap not e) target)) (
        refl,
        record {
          young = young;
          within = within_less s laid dest young bytes held (poisoned point held) a c (record { each = λ l x h. (poisoned_some point held l x h).0 })
              (subst (λ p. Within s laid (at_place p u) young bytes held a c) at (moved_to u more wu));
          room = omega (arith, low, not_less);
        },
      ))

  -- ---- from the first word on

  pub reserve_arrives : (k : ℕ) → middle ≡ v.place + k → PartStands s n v.place middle (reserved bytes) → ArrivesIn 0 k s q v Final
  reserve_arrives k lands st =
      let parts = splits s n v.place middle (bytes_taken_off T1 S10 bytes)
      (load_piece Ld T1 S11 0 ∷ skip Bgeu S10 T1 (4 * (1 + length (ask bytes))) ∷ ask bytes) st in
      let some = request.some in
      let most = request.most in
      let low = within.own.from_low in
      let l = lowers s n T1 S10 5 25 refl refl (omega arith) (λ e. omega (arith, e)) (λ e. omega (arith, e)) v parts.middle bytes parts.first within.own.are
      (omega (arith, some)) (omega (arith, low, most)) in
      let first : Reaches s v l.middle (6 ∷ 26 ∷ []) v.memory (λ u. SetsRegister s u l.last 26 (slice_index v.registers 26 - bytes)) =
      reaches_as s v l.middle (6 ∷ []) (6 ∷ 26 ∷ []) v.memory _ _ (λ r i. ⊎_elim (λ h. inl h) (λ f. absurd f) i) (λ w m p h. h) l.first in
      let u = first.changes.view in
      let here = arrived s v l.middle (6 ∷ 26 ∷ []) v.memory _ first in
      let memory_word = within.own.are.words 26 in
      let e = l.lands in
      let taken = reaches_more s v l.middle parts.middle (6 ∷ 26 ∷ []) (26 ∷ []) v.memory _ _ first (λ r i. inr i)
      (reaches_set s u parts.middle l.last 25 (slice_index v.registers 26 - bytes) (subst (λ p. IsInstructionAt s p l.last) (sym here) l.code) (omega (arith, here, e))
      (inl (λ q. omega (arith, q))) first.changes.holds first.changes.past.are (omega arith) (omega (arith, memory_word))) in
      let t = taken.changes.view in
      let at = arrived s v parts.middle (6 ∷ 26 ∷ []) v.memory _ taken in
      let value = taken.changes.holds.0 in
      let sum : 0 + bytes ≡ bytes = omega arith in
      let wt : Within s laid t young bytes held a c = subst (λ b. Within s laid t young b held a c) sum
      (within_taken_off s laid v t young 0 bytes held a c taken.count taken.changes.past none (omega (arith, value, low, most)) within) in
      let limit_word = known s n parts.middle middle (Load Ld 6 27 0) (skip Bgeu S10 T1 (4 * (1 + length (ask bytes))) ∷ ask bytes) parts.second in
      let tail = known s n (parts.middle + 1) middle (Branch Bgeu 26 6 (4 * (1 + length (ask bytes)) % 8192)) (ask bytes) limit_word.1 in
      let words = (ask_words s n bytes (parts.middle + 1 + 1) middle tail.1).0 in
      let c1 = taken.lands in
      let enough : taken.count + (1 + (1 + length (ask bytes))) ≤ k = omega (arith, c1, words, lands) in
      at_least 0 0 (taken.count + (1 + (1 + length (ask bytes)))) k s v Final (omega arith) enough
      (then_arrives taken.count (1 + (1 + length (ask bytes))) s v (λ w. w ≡ t) Final (leads_arrives s taken.count v t (λ w. w ≡ t) taken.changes.leads refl)
      (λ w f. subst (λ w. Arrives (1 + (1 + length (ask bytes))) s q w Final) (sym f)
      (then_arrives 1 (1 + length (ask bytes)) s t (λ x. IsPast 1 (6 ∷ []) t.memory t x × HasLimit 6 x) Final
      (limit_arrives s t wt.own.are wt.own.domain 5 (omega arith) (λ e. omega (arith, e)) (subst (λ p. IsInstructionAt s p (Load Ld 6 27 0)) (sym at) limit_word.0))
      (λ x h.
      let past = h.0 in
      let there_x = past.place in
      let place_x : x.place ≡ parts.middle + 1 = omega (arith, there_x, at) in
      tests_by x (within_past s laid t x young bytes held a c 1 (6 ∷ []) past (λ r i. ⊎_elim (λ e. inl e) (λ f. absurd f) i) wt) h.1
      (subst (λ p. PartStands s n p middle (skip Bgeu S10 T1 (4 * (1 + length (ask bytes))) ∷ ask bytes)) (sym place_x) limit_word.1)
      (nat_lt (slice_index x.registers 26) (slice_index x.registers 6)) refl))))
