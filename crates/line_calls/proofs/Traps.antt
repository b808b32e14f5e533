-- Tries are pushed and popped, a handler is entered, and a raise goes to the innermost one.
use Rattle.std.proofs.Common.{◌≡◌, ◌≢◌, ℕ, ◌+◌, ◌-◌, ◌*◌, ◌%◌, ◌<◌, ◌≤◌, inl, inr, List, [], ◌∷◌, ◌++◌, map, slice_index, refl, ap, arith, ◌∙◌, sym, subst, ⊎_elim}
use Rattle.bs_words.specs.Word.{add_word}
use Rattle.bs_words.proofs.Below.{add_word-below}
use Rattle.rv_emit_rules.specs.Instructions.{addi, mv, store_piece, low_12}
use Rattle.rv_emit_rules.specs.Traps.{pop_part, push_part, raise_words}
use Rattle.rv_layout_rules.specs.Laid.{address_of_place}
use Rattle.rv_layout_rules.specs.Words.{NameAddresses, distance, upper}
use Rattle.rv_layout_rules.proofs.Offsets.{far_lands}
use Rattle.lin_ir.specs.Meaning.{Locations}
use Rattle.mach_ir.specs.Acts.{Around}
use Rattle.rv_isa.specs.declared.instr.AluImmOp.TheVariants.{Addi}
use Rattle.rv_isa.specs.declared.instr.Instr.TheVariants.{Auipc, Jalr, Load, OpImm, Store}
use Rattle.rv_isa.specs.declared.instr.LoadWidth.TheVariants.{Ld}
use Rattle.rv_isa.specs.declared.instr.StoreWidth.TheVariants.{Sd}
use Rattle.rv_isa.specs.declared.register.Register.TheVariants.{S1, Sp, T1}
use Rattle.rv_machine.specs.Arithmetic.{imm_i, imm_u}
use Rattle.rv_machine.specs.Hart.{Placed}
use Rattle.rv_machine.specs.Memory.{Region, code_start, memory_word, write}
use Rattle.rv_machine.specs.Places.{stack_bottom, stack_end}
use Rattle.rv_machine.specs.Services.{StackOut}
use Rattle.rv_machine.specs.Sound.{HasRegions, extents}
use Rattle.machine_laws.proofs.Memory.{has_write, word_below}
use Rattle.rv_pieces.specs.declared.piece.Piece.TheVariants.{LabelAddress}
use Rattle.moving_laws.specs.Stands.{AmongNumbers}
use Rattle.moving_laws.specs.Waiting.{IsBack, TrapsFrom, traps_at}
use Rattle.moving_laws.specs.Words.{IsReadable}
use Rattle.moving_laws.proofs.Usable.{stack_readable}
use Rattle.lin_machine.specs.Relation.{Below, Laid, Within, waiting_trap_frames}
use Rattle.lin_machine.specs.View.{EndsRunAfter, Fixed, HasCode, IsInstructionAt, View}
use Rattle.lin_machine.proofs.Formats.{sets_auipc, sets_imm, sets_load}
use Rattle.lin_machine.proofs.Jumps.{add_near, less_near}
use Rattle.lin_machine.proofs.Sequences.{sets_as}
use Rattle.lin_machine.proofs.Steps.{SetsRegister, out_step, then_ends}
use Rattle.line_stands.specs.Parts.{PartStands}
use Rattle.line_stands.proofs.Parts.{begins, known}
use Rattle.line_calls.specs.Reaches.{Reaches}
use Rattle.line_calls.proofs.Leaving.{no_offset}
use Rattle.line_calls.proofs.Reaching.{arrived, reaches_as, reaches_more, reaches_set, reaches_store, single}
use Rattle.line_calls.proofs.Tailing.{place_near}

-- ---- where the innermost trap frame lies

pub record IsTrap (s : Fixed) (m : List Region) (trap : ℕ) : Type 0 where
  pub back : IsBack (memory_word m trap)
  pub low : s.base ≤ trap
  pub high : trap + 16 ≤ stack_end
  pub even : trap % 8 ≡ 0

pub is_trap : (s : Fixed) (m : List Region) (trap : ℕ) (ts : List (ℕ × ℕ)) → memory_word m stack_bottom ≡ code_start + 8 → TrapsFrom s.base m trap ts stack_bottom →
    IsTrap s m trap
is_trap s m trap [] bottom t =
    let e : trap ≡ stack_bottom = t in
    let base = s.stack.high in
    let there : memory_word m trap ≡ code_start + 8 = ap (memory_word m) e ∙ bottom in
    record {
      back = record { low = omega (arith, there); high = omega (arith, there); even = ap (λ w. w % 4) there };
      low = omega (arith, e, base);
      high = omega (arith, e);
      even = ap (λ x. x % 8) e;
    }
is_trap s m trap (x ∷ ts) bottom t = record { back = subst IsBack (sym t.4) t.5; low = t.1; high = t.2; even = t.3 }

-- the innermost one is the function's own, where it has one
pub own_trap_of : (s : Fixed) (laid : Laid) (v : View) (young : List Placed) (held : Locations) (a : Around) (c : Below) → Within s laid v young 0 held a c →
    (l : ℕ) (rest : List ℕ) → a.tries ≡ l ∷ rest → slice_index v.registers 9 ≡ slice_index v.registers 2
own_trap_of s laid v young held a c within l rest e = (subst (λ ts. TrapsFrom s.base v.memory (slice_index v.registers 9)
    (traps_at (slice_index v.registers 2) (map laid.handler ts) ++ waiting_trap_frames c.waiting c.frames) stack_bottom) e within.traps).0

module _ (s : Fixed) (n : NameAddresses) (laid : Laid) (v : View) (young : List Placed) (held : Locations) (a : Around) (c : Below)
    (within : Within s laid v young 0 held a c) where
  abbrev changed : List ℕ
  changed = 2 ∷ 6 ∷ 7 ∷ 9 ∷ []

  sp_even : slice_index v.registers 2 % 8 ≡ 0
  sp_even = let f = within.frame in let ev = within.waits.even in let fe = laid.even in omega (arith, f, ev, fe)

  sp_high : slice_index v.registers 2 ≤ stack_bottom
  sp_high = let f = within.frame in let hi = within.waits.high in omega (arith, f, hi)

  -- ---- push

  module _ (l to : ℕ) (handler : n.label l ≡ laid.handler l) (back : IsBack (laid.handler l)) (st : PartStands s n v.place to (push_part l)) where
    own : ℕ
    own = slice_index v.registers 2

    abbrev pub d : ℕ
    d = distance (address_of_place v.place) (n.label l)

    words : HasCode s v.place (Auipc 6 (upper d) ∷ OpImm Addi 6 6 (low_12 d) ∷ OpImm Addi 2 2 4080 ∷ Store Sd 2 6 0 ∷ Store Sd 2 9 8 ∷ OpImm Addi 9 2 0 ∷ [])
        × (to ≡ v.place + 1 + 1 + 1 + 1 + 1 + 1)
    words =
        let a1 = begins s n v.place to (LabelAddress T1 l) _ st in
        let e1 : v.place + 2 ≡ v.place + 1 + 1 = omega arith in
        let a2 = known s n (v.place + 1 + 1) to (OpImm Addi 2 2 4080) (store_piece Sd T1 Sp 0 ∷ store_piece Sd S1 Sp 8 ∷ mv S1 Sp ∷ [])
        (subst (λ q. PartStands s n q to (addi Sp Sp 0xFFFFFFFFFFFFFFF0 ∷ store_piece Sd T1 Sp 0 ∷ store_piece Sd S1 Sp 8 ∷ mv S1 Sp ∷ [])) e1 a1.rest) in
        let a3 = known s n (v.place + 1 + 1 + 1) to (Store Sd 2 6 0) (store_piece Sd S1 Sp 8 ∷ mv S1 Sp ∷ []) a2.1 in
        let a4 = known s n (v.place + 1 + 1 + 1 + 1) to (Store Sd 2 9 8) (mv S1 Sp ∷ []) a3.1 in
        let a5 = single s n (v.place + 1 + 1 + 1 + 1 + 1) to (OpImm Addi 9 2 0) a4.1 in
        ((a1.code.0, (a1.code.1.0, (a2.0, (a3.0, (a4.0, (a5.0, tt)))))), a5.1)

    -- the handler's address in t1
    pub named : Reaches s v (v.place + 1 + 1) (2 ∷ 6 ∷ 7 ∷ 9 ∷ []) v.memory (λ w. (slice_index w.registers 6 ≡ laid.handler l)
        × ((q : ℕ) → q ≢ 6 → slice_index w.registers q ≡ slice_index v.registers q))
    named =
        let near = place_near s v.place _ words.0.0 in
        let high = back.high in
        let half : ℕ = add_word (code_start + 4 * v.place) (imm_u (upper d)) in
        let first = reaches_set s v (v.place + 1) (Auipc 6 (upper d)) 5 half words.0.0 refl (inl (λ q. omega (arith, q))) (sets_auipc s v 6 (upper d))
        within.own.are (omega arith) (add_word-below _ _) in
        let u = first.changes.view in
        let here = arrived s v (v.place + 1) (6 ∷ []) v.memory _ first in
        let sum : add_word (slice_index u.registers 6) (imm_i (low_12 d)) ≡ laid.handler l =
        ap (λ x. add_word x (imm_i (low_12 d))) first.changes.holds ∙ far_lands (address_of_place v.place) (n.label l) (omega (arith, near))
        (omega (arith, handler, high)) ∙ handler in
        reaches_as s v (v.place + 1 + 1) (6 ∷ []) (2 ∷ 6 ∷ 7 ∷ 9 ∷ []) v.memory _ _ (λ q i. ⊎_elim (λ h. inr (inl h)) (λ z. absurd z) i)
        (λ w m p h. (h.0, λ q other. p.others q (λ i. ⊎_elim other (λ z. z) i)))
        (reaches_more s v (v.place + 1) (v.place + 1 + 1) (6 ∷ []) (6 ∷ []) v.memory _ _ first (λ q i. i)
        (reaches_set s u (v.place + 1 + 1) (OpImm Addi 6 6 (low_12 d)) 5 (laid.handler l) (subst (λ q. IsInstructionAt s q (OpImm Addi 6 6 (low_12 d)))
        (sym here) words.0.1.0)
        (omega (arith, here)) (inl (λ q. omega (arith, q))) (sets_as s u (OpImm Addi 6 6 (low_12 d)) 6 _ _ sum (sets_imm s u Addi 6 6 (low_12 d)))
        first.changes.past.are (omega arith) (omega (arith, high))))

    at_named : named.changes.view.place ≡ v.place + 1 + 1
    at_named = arrived s v (v.place + 1 + 1) (2 ∷ 6 ∷ 7 ∷ 9 ∷ []) v.memory _ named

    lowers_sp : SetsRegister s named.changes.view (OpImm Addi 2 2 4080) 2 (slice_index v.registers 2 - 16)
    lowers_sp =
        let e : slice_index named.changes.view.registers 2 ≡ slice_index v.registers 2 = named.changes.holds.1 2 (λ q. omega (arith, q)) in
        let lo = within.low in
        let b = s.stack.low in
        sets_as s named.changes.view (OpImm Addi 2 2 4080) 2 _ _
        (less_near (slice_index named.changes.view.registers 2) 16 (omega arith) (omega arith) (omega (arith, e, lo, b)) (named.changes.past.are.words 2)
        ∙ ap (λ x. x - 16) e)
        (sets_imm s named.changes.view Addi 2 2 4080)

    -- the stack is passed
    pub push_out : slice_index v.registers 2 < s.base + 16 → EndsRunAfter s (named.count + 1) v StackOut
    push_out short =
        let lo = within.low in
        let b = s.stack.low in
        then_ends s named.count 1 v named.changes.view StackOut (sym named.changes.leads.calls) named.changes.leads
        (out_step s named.changes.view (OpImm Addi 2 2 4080) (slice_index v.registers 2 - 16)
        (subst (λ q. IsInstructionAt s q (OpImm Addi 2 2 4080)) (sym at_named) words.0.1.1.0) (omega (arith, short, lo, b)) lowers_sp)

    module _ (fits : s.base + 16 ≤ slice_index v.registers 2) where
      m1 : List Region
      m1 = write v.memory (slice_index v.registers 2 - 16) (laid.handler l)

      lowered : Reaches s v (v.place + 1 + 1 + 1) (2 ∷ 6 ∷ 7 ∷ 9 ∷ []) v.memory
          (λ w. (slice_index w.registers 2 ≡ slice_index v.registers 2 - 16)
          × ((q : ℕ) → (AmongNumbers q (2 ∷ []) → ⊥) → slice_index w.registers q ≡ slice_index named.changes.view.registers q))
      lowered =
          let e = at_named in
          let memory_word = within.own.are.words 2 in
          reaches_more s v (v.place + 1 + 1) (v.place + 1 + 1 + 1) (2 ∷ 6 ∷ 7 ∷ 9 ∷ []) (2 ∷ []) v.memory _ _ named
          (λ q i. ⊎_elim (λ h. inl h) (λ z. absurd z) i)
          (reaches_set s named.changes.view (v.place + 1 + 1 + 1) (OpImm Addi 2 2 4080) 1 (slice_index v.registers 2 - 16)
          (subst (λ q. IsInstructionAt s q (OpImm Addi 2 2 4080)) (sym at_named) words.0.1.1.0) (omega (arith, e)) (inr (omega (arith, fits))) lowers_sp
          named.changes.past.are (omega arith) (omega (arith, memory_word)))

      stored_handler : Reaches s v (v.place + 1 + 1 + 1 + 1) (2 ∷ 6 ∷ 7 ∷ 9 ∷ []) (write v.memory (slice_index v.registers 2 - 16) (laid.handler l))
          (λ w. w.registers ≡ lowered.changes.view.registers)
      stored_handler =
          let e = sp_even in
          let h = sp_high in
          let b = s.stack.low in
          reaches_store s v (v.place + 1 + 1 + 1) (2 ∷ 6 ∷ 7 ∷ 9 ∷ []) v.memory _ lowered 2 6 0 (slice_index v.registers 2 - 16)
          (laid.handler l) words.0.1.1.1.0
          (no_offset (slice_index lowered.changes.view.registers 2) (slice_index v.registers 2 - 16) lowered.changes.holds.0 (omega (arith, h)))
          (lowered.changes.holds.1 6 (λ i. ⊎_elim (λ q. omega (arith, q)) (λ z. z) i) ∙ named.changes.holds.0)
          (λ q. omega (arith, q, fits, b)) within.usable.regions.each
          (stack_readable s.image s.heap s.base v.memory within.usable.regions (slice_index v.registers 2 - 16) (omega (arith, e, fits)) (omega (arith, fits))
          (omega (arith, h, fits)))

      same_registers : (q : ℕ) → slice_index stored_handler.changes.view.registers q ≡ slice_index lowered.changes.view.registers q
      same_registers q = ap (λ rs. slice_index rs q) stored_handler.changes.holds

      regions1 : HasRegions (extents s.image s.heap s.base) (write v.memory (slice_index v.registers 2 - 16) (laid.handler l))
      regions1 = has_write (extents s.image s.heap s.base) v.memory (slice_index v.registers 2 - 16) (laid.handler l) within.usable.regions

      stored_both : Reaches s v (v.place + 1 + 1 + 1 + 1 + 1) (2 ∷ 6 ∷ 7 ∷ 9 ∷ [])
          (write (write v.memory (slice_index v.registers 2 - 16) (laid.handler l)) (slice_index v.registers 2 - 8) (slice_index v.registers 9))
          (λ w. w.registers ≡ stored_handler.changes.view.registers)
      stored_both =
          let e = sp_even in
          let h = sp_high in
          let b = s.stack.low in
          let sp = same_registers 2 ∙ lowered.changes.holds.0 in
          reaches_store s v (v.place + 1 + 1 + 1 + 1) (2 ∷ 6 ∷ 7 ∷ 9 ∷ []) (write v.memory (slice_index v.registers 2 - 16)
          (laid.handler l)) _ stored_handler 2 9 8
          (slice_index v.registers 2 - 8) (slice_index v.registers 9) words.0.1.1.1.1.0
          (add_near (slice_index stored_handler.changes.view.registers 2) 8 (slice_index v.registers 2 - 8) (omega arith) (omega (arith, sp, fits)) (omega
          (arith, h)))
          (same_registers 9 ∙ lowered.changes.holds.1 9 (λ i. ⊎_elim (λ q. omega (arith, q)) (λ z. z) i) ∙ named.changes.holds.1 9 (λ q. omega (arith, q)))
          (λ q. omega (arith, q, fits, b)) regions1.each
          (stack_readable s.image s.heap s.base (write v.memory (slice_index v.registers 2 - 16) (laid.handler l)) regions1 (slice_index v.registers 2 - 8)
          (omega (arith, e, fits)) (omega (arith, fits)) (omega (arith, h, fits)))

      pub push_reaches : Reaches s v to (2 ∷ 6 ∷ 7 ∷ 9 ∷ [])
          (write (write v.memory (slice_index v.registers 2 - 16) (laid.handler l)) (slice_index v.registers 2 - 8) (slice_index v.registers 9))
          (λ w. (slice_index w.registers 2 ≡ slice_index v.registers 2 - 16) × (slice_index w.registers 9 ≡ slice_index v.registers 2 - 16))
      push_reaches =
          let h = sp_high in
          let u = stored_both.changes.view in
          let here = arrived s v (v.place + 1 + 1 + 1 + 1 + 1) (2 ∷ 6 ∷ 7 ∷ 9 ∷ []) _ _ stored_both in
          let e = words.1 in
          let sp : slice_index u.registers 2 ≡ slice_index v.registers 2 - 16 = ap (λ rs. slice_index rs 2) stored_both.changes.holds ∙ same_registers 2
          ∙ lowered.changes.holds.0 in
          reaches_as s v to (2 ∷ 6 ∷ 7 ∷ 9 ∷ []) (2 ∷ 6 ∷ 7 ∷ 9 ∷ []) _ _ _ (λ q i. i)
          (λ w m p k. (k.1 2 (λ i. ⊎_elim (λ q. omega (arith, q)) (λ z. z) i) ∙ sp, k.0))
          (reaches_more s v (v.place + 1 + 1 + 1 + 1 + 1) to (2 ∷ 6 ∷ 7 ∷ 9 ∷ []) (9 ∷ [])
          (write (write v.memory (slice_index v.registers 2 - 16) (laid.handler l)) (slice_index v.registers 2 - 8)
          (slice_index v.registers 9)) _ _ stored_both
          (λ q i. ⊎_elim (λ h. inr (inr (inr (inl h)))) (λ z. absurd z) i)
          (reaches_set s u to (OpImm Addi 9 2 0) 8 (slice_index v.registers 2 - 16) (subst (λ q. IsInstructionAt s q (OpImm Addi 9 2 0))
          (sym here) words.0.1.1.1.1.1.0)
          (omega (arith, here, e)) (inl (λ q. omega (arith, q)))
          (sets_as s u (OpImm Addi 9 2 0) 9 _ _ (no_offset (slice_index u.registers 2) (slice_index v.registers 2 - 16) sp (omega (arith, h)))
          (sets_imm s u Addi 9 2 0))
          stored_both.changes.past.are (omega arith) (omega (arith, h))))

  -- ---- the innermost trap frame

  innermost : IsTrap s v.memory (slice_index v.registers 9)
  innermost = is_trap s v.memory (slice_index v.registers 9) (traps_at (slice_index v.registers 2) (map laid.handler a.tries) ++ waiting_trap_frames c.waiting c.frames)
      within.waits.bottom within.traps

  pub can0 : IsReadable v.memory (slice_index v.registers 9)
  can0 = stack_readable s.image s.heap s.base v.memory within.usable.regions (slice_index v.registers 9) innermost.even innermost.low
      (let h = innermost.high in omega (arith, h))

  pub can8 : IsReadable v.memory (slice_index v.registers 9 + 8)
  can8 =
      let e = innermost.even in
      let l = innermost.low in
      let h = innermost.high in
      stack_readable s.image s.heap s.base v.memory within.usable.regions (slice_index v.registers 9 + 8) (omega (arith, e)) (omega (arith, l)) (omega
      (arith, h))

  pub trap_is : IsTrap s v.memory (slice_index v.registers 9)
  trap_is = innermost

  -- ---- pop

  pub own_trap : (l : ℕ) (rest : List ℕ) → a.tries ≡ l ∷ rest → slice_index v.registers 9 ≡ slice_index v.registers 2
  own_trap l rest e = own_trap_of s laid v young held a c within l rest e

  pub pop_words : (l to : ℕ) (rest : List ℕ) → a.tries ≡ l ∷ rest → PartStands s n v.place to pop_part → to ≡ v.place + 1 + 1
  pop_words l to rest e st = (single s n (v.place + 1) to (OpImm Addi 2 2 16) (known s n v.place to (Load Ld 9 2 8) _ st).1).1

  pub pop_reaches :
      (l to : ℕ) (rest : List ℕ) → a.tries ≡ l ∷ rest → PartStands s n v.place to pop_part →
      Reaches s v to (2 ∷ 6 ∷ 7 ∷ 9 ∷ []) v.memory (λ w. (slice_index w.registers 2 ≡ slice_index v.registers 2 + 16)
      × (slice_index w.registers 9 ≡ memory_word v.memory (slice_index v.registers 2 + 8)))
  pop_reaches l to rest e st =
      let trap = own_trap l rest e in
      let high = innermost.high in
      let low = innermost.low in
      let b = s.stack.low in
      let first_word = known s n v.place to (Load Ld 9 2 8) _ st in
      let last = single s n (v.place + 1) to (OpImm Addi 2 2 16) first_word.1 in
      let lands = last.1 in
      let x : ℕ = slice_index v.registers 2 + 8 in
      let can : IsReadable v.memory (slice_index v.registers 2 + 8) = subst (λ y. IsReadable v.memory (y + 8)) trap can8 in
      let first = reaches_set s v (v.place + 1) (Load Ld 9 2 8) 8 (memory_word v.memory x) first_word.0 refl (inl (λ q. omega (arith, q)))
      (sets_load s v 9 2 8 x (add_near (slice_index v.registers 2) 8 x (omega arith) refl (omega (arith, trap, high))) (λ q. omega (arith, q, trap, low, b))
      (omega (arith, trap, low, b)) can)
      within.own.are (omega arith) (word_below v.memory x) in
      let wide = reaches_as s v (v.place + 1) (9 ∷ []) (2 ∷ 6 ∷ 7 ∷ 9 ∷ []) v.memory _
      (λ w. (slice_index w.registers 9 ≡ memory_word v.memory x) × (slice_index w.registers 2 ≡ slice_index v.registers 2))
      (λ q i. ⊎_elim (λ h. inr (inr (inr (inl h)))) (λ z. absurd z) i)
      (λ w m p h. (h, p.others 2 (λ i. ⊎_elim (λ q. omega (arith, q)) (λ z. z) i))) first in
      pop_ends l to rest e lands wide last.0
    where
      pop_ends :
          (l to : ℕ) (rest : List ℕ) → a.tries ≡ l ∷ rest → to ≡ v.place + 1 + 1 →
          (first : Reaches s v (v.place + 1) (2 ∷ 6 ∷ 7 ∷ 9 ∷ []) v.memory
          (λ w. (slice_index w.registers 9 ≡ memory_word v.memory (slice_index v.registers 2 + 8)) × (slice_index w.registers 2 ≡ slice_index v.registers 2))) →
          IsInstructionAt s (v.place + 1) (OpImm Addi 2 2 16) →
          Reaches s v to (2 ∷ 6 ∷ 7 ∷ 9 ∷ []) v.memory (λ w. (slice_index w.registers 2 ≡ slice_index v.registers 2 + 16)
          × (slice_index w.registers 9 ≡ memory_word v.memory (slice_index v.registers 2 + 8)))
      pop_ends l to rest e lands first code =
          let trap = own_trap l rest e in
          let high = innermost.high in
          let low = within.low in
          let u = first.changes.view in
          let here = arrived s v (v.place + 1) (2 ∷ 6 ∷ 7 ∷ 9 ∷ []) v.memory _ first in
          let sp = first.changes.holds.1 in
          reaches_as s v to (2 ∷ 6 ∷ 7 ∷ 9 ∷ []) (2 ∷ 6 ∷ 7 ∷ 9 ∷ []) v.memory _ _ (λ q i. i)
          (λ w m p h. (h.0, h.1 9 (λ i. ⊎_elim (λ q. omega (arith, q)) (λ z. z) i) ∙ first.changes.holds.0))
          (reaches_more s v (v.place + 1) to (2 ∷ 6 ∷ 7 ∷ 9 ∷ []) (2 ∷ []) v.memory _ _ first (λ q i. ⊎_elim (λ h. inl h) (λ z. absurd z) i)
          (reaches_set s u to (OpImm Addi 2 2 16) 1 (slice_index v.registers 2 + 16) (subst (λ q. IsInstructionAt s q (OpImm Addi 2 2 16)) (sym here) code)
          (omega (arith, here, lands)) (inr (omega (arith, low)))
          (sets_as s u (OpImm Addi 2 2 16) 2 _ _ (add_near (slice_index u.registers 2) 16 (slice_index v.registers 2 + 16) (omega arith) (omega (arith, sp))
          (omega (arith, trap, high))) (sets_imm s u Addi 2 2 16))
          first.changes.past.are (omega arith) (omega (arith, trap, high))))

  -- ---- raise

  pub raise_code : (to : ℕ) → PartStands s n v.place to raise_words →
      HasCode s v.place (OpImm Addi 2 9 0 ∷ Load Ld 6 2 0 ∷ Load Ld 9 2 8 ∷ OpImm Addi 2 2 16 ∷ Jalr 0 6 0 ∷ []) × (to ≡ v.place + 5)
  raise_code to st =
      let a1 = known s n v.place to (OpImm Addi 2 9 0) _ st in
      let a2 = known s n (v.place + 1) to (Load Ld 6 2 0) _ a1.1 in
      let a3 = known s n (v.place + 1 + 1) to (Load Ld 9 2 8) _ a2.1 in
      let a4 = known s n (v.place + 1 + 1 + 1) to (OpImm Addi 2 2 16) _ a3.1 in
      let a5 = single s n (v.place + 1 + 1 + 1 + 1) to (Jalr 0 6 0) a4.1 in
      let e = a5.1 in
      ((a1.0, (a2.0, (a3.0, (a4.0, (a5.0, tt))))), omega (arith, e))
