-- A function gives its frame back: it returns, or a callee takes its place.
use Rattle.std.proofs.Common.{◌≡◌, ℕ, ◌+◌, ◌-◌, ◌*◌, ◌/◌, ◌^◌, ◌<◌, ◌≤◌, inl, inr, Bool, true, false, cond, nat_eq, List, [], ◌∷◌, length, Option, Some, None, slice_index, refl, ap, arith, ◌∙◌, sym, subst, ⊎_elim}
use Rattle.std.proofs.lemmas.Bool.{eqb-true}
use Rattle.bs_words.specs.Word.{add_word}
use Rattle.bs_words.specs.declared.types.Loc.TheVariants as loc
use Rattle.bs_words.specs.declared.values.Value.{Value}
use Rattle.rv_emit_rules.specs.Calls.{return_part}
use Rattle.rv_emit_rules.specs.Constants.{sum_to}
use Rattle.rv_emit_rules.specs.Entry.{frame_release}
use Rattle.rv_emit_rules.specs.Instructions.{goes_to_address}
use Rattle.rv_emit_rules.specs.Slots.{stack_load}
use Rattle.rv_layout_rules.specs.Words.{NameAddresses}
use Rattle.lin_ir.specs.Meaning.{Locations}
use Rattle.mach_ir.specs.Acts.{Around, is_complete}
use Rattle.rv_isa.specs.declared.instr.Instr.TheVariants.{Jalr}
use Rattle.rv_isa.specs.declared.register.Register.TheVariants.{Ra, Sp, T2}
use Rattle.rv_machine.specs.Arithmetic.{imm_i}
use Rattle.rv_machine.specs.Hart.{Placed}
use Rattle.rv_machine.specs.Memory.{Region, code_start, memory_word}
use Rattle.rv_machine.specs.Sound.{AreRegisters}
use Rattle.moving_laws.specs.Words.{IsReadable}
use Rattle.moving_laws.proofs.Usable.{stack_readable}
use Rattle.lin_machine.specs.Moments.{AtReturn}
use Rattle.lin_machine.specs.Relation.{Below, Laid, ReturnStands, Within}
use Rattle.lin_machine.specs.View.{Fixed, View, IsInstructionAt, ReachesView}
use Rattle.lin_machine.proofs.Formats.{sets_jalr}
use Rattle.machine_laws.proofs.Immediates.{low_12, up}
use Rattle.lin_machine.proofs.Jumps.{back_place}
use Rattle.lin_machine.proofs.Slots.{IsStackWord}
use Rattle.lin_machine.proofs.Steps.{at_place, reg, set_to_step, then_leads}
use Rattle.lin_machine.proofs.Turning.{leaves}
use Rattle.line_stands.specs.Parts.{PartStands}
use Rattle.line_stands.proofs.Parts.{nothing_more, splits}
use Rattle.line_calls.specs.Laws.{frame_in}
use Rattle.line_calls.specs.Leading.{LeadsUpTo}
use Rattle.line_calls.specs.Reaches.{Reaches}
use Rattle.line_calls.proofs.Numbers.{sum_reaches}
use Rattle.line_calls.proofs.Reaching.{arrived, reaches_as, reaches_more, reaches_none, single}
use Rattle.line_calls.proofs.Stack.{load_reaches}

-- ---- a jump to the address in a register, after what goes straight on

pub jump_behind :
    (s : Fixed) (v : View) (middle : ℕ) (rs : List ℕ) (m : List Region) (P : View → Type 0) (first : Reaches s v middle rs m P) (r imm to : ℕ) →
    IsInstructionAt s middle (Jalr 0 r imm) → add_word (reg first.changes.view.registers r) (imm_i imm) ≡ code_start + 4 * to →
    ReachesView s (first.count + 1) v (at_place to first.changes.view)
jump_behind s v middle rs m P first r imm to code e =
    let u = first.changes.view in
    then_leads s first.count 1 v u (at_place to u) first.changes.leads
    (set_to_step s u (Jalr 0 r imm) 0 (code_start + 4 * (u.place + 1)) to (subst (λ q. IsInstructionAt s q (Jalr 0 r imm)) (sym
    (arrived s v middle rs m P first)) code)
    (inl (λ q. omega (arith, q))) (sets_jalr s u 0 r imm to e))

-- an address with nothing added
pub no_offset : (a b : ℕ) → a ≡ b → b < 2 ^ 64 → add_word a (imm_i 0) ≡ b
no_offset a b e small = ap (add_word a) (low_12 0 (omega arith)) ∙ up a 0 b (omega (arith, e)) small

module _ (s : Fixed) (n : NameAddresses) (laid : Laid) (v : View) (young : List Placed) (held : Locations) (a : Around) (c : Below)
    (within : Within s laid v young 0 held a c) (left : a.tries ≡ []) where
  -- ---- sp and ra

  sp_top : slice_index v.registers 2 + laid.frame ≡ c.top
  sp_top = let f = within.frame in let e : length a.tries ≡ 0 = ap (λ ts. length ts) left in omega (arith, f, e)

  restored_by : (to : ℕ) (b : Bool) → b ≡ laid.saves → ReturnStands b v c → PartStands s n v.place to (cond b (stack_load T2 Ra (laid.frame - 8)) []) →
      Reaches s v to (1 ∷ 7 ∷ []) v.memory (λ w. slice_index w.registers 1 ≡ c.back)
  restored_by to false e back st = reaches_none s v to (1 ∷ 7 ∷ []) (λ w. slice_index w.registers 1 ≡ c.back)
      (nothing_more s n v.place to st) within.own.are back
  restored_by to true e back st =
      let room : 8 * laid.slots + 8 ≤ laid.frame = subst (λ t. 8 * laid.slots + cond t 8 0 ≤ laid.frame) (sym e) laid.room in
      let f = sp_top in
      let lo = within.low in
      let base = s.stack.low in
      let hi = within.waits.high in
      let ev = within.waits.even in
      let at : slice_index v.registers 2 + (laid.frame - 8) ≡ c.top - 8 = omega (arith, f, room) in
      let can : IsReadable v.memory (c.top - 8) =
      stack_readable s.image s.heap s.base v.memory within.usable.regions (c.top - 8) (omega (arith, ev, f, room)) (omega (arith, f, room, lo)) (omega
      (arith, f, room, hi)) in
      let there : IsStackWord v (laid.frame - 8) =
      record { high = omega (arith, at, hi); low = omega (arith, lo, base); readable = subst (λ y. IsReadable v.memory y) (sym at) can } in
      reaches_as s v to (1 ∷ 7 ∷ []) (1 ∷ 7 ∷ []) v.memory _ _ (λ q i. i) (λ w m p h. h ∙ ap (memory_word v.memory) at ∙ back)
      (load_reaches s n v within.own.are (laid.frame - 8) there (omega (arith, f, lo, base, hi)) T2 Ra 6 0 refl refl (omega arith) (omega arith)
      (λ q. omega (arith, q))
      (λ q. omega (arith, q)) to st)

  raised_by : (u : View) (to : ℕ) (b : Bool) → nat_eq laid.frame 0 ≡ b → PartStands s n u.place to (cond b [] (sum_to T2 Sp Sp laid.frame)) →
      AreRegisters u.registers → slice_index u.registers 2 ≡ slice_index v.registers 2 →
      Reaches s u to (2 ∷ 7 ∷ []) u.memory (λ w. slice_index w.registers 2 ≡ c.top)
  raised_by u to true e st are same =
      let zero_bytes = eqb-true laid.frame 0 e in
      let f = sp_top in
      reaches_none s u to (2 ∷ 7 ∷ []) (λ w. slice_index w.registers 2 ≡ c.top) (nothing_more s n u.place to st) are (omega (arith, zero_bytes, f, same))
  raised_by u to false e st are same =
      let f = sp_top in
      let lo = within.low in
      let hi = within.waits.high in
      reaches_as s u to (2 ∷ 7 ∷ []) (2 ∷ 7 ∷ []) u.memory _ _ (λ q i. i) (λ w m p h. omega (arith, h, f, same))
      (sum_reaches s n T2 Sp Sp 6 1 1 refl refl refl (omega arith) (omega arith) (λ q. omega (arith, q)) (λ q. omega (arith, q)) u to laid.frame st are
      (omega (arith, same, f, hi)) (inr (omega (arith, same, lo))))

  pub given_back_reaches : (to : ℕ) → PartStands s n v.place to (frame_release (frame_in laid)) →
      Reaches s v to (1 ∷ 2 ∷ 7 ∷ []) v.memory (λ w. (slice_index w.registers 2 ≡ c.top) × (slice_index w.registers 1 ≡ c.back))
  given_back_reaches to st =
      let parts = splits s n v.place to (cond laid.saves (stack_load T2 Ra (laid.frame - 8)) []) (cond (nat_eq laid.frame 0) []
      (sum_to T2 Sp Sp laid.frame)) st in
      let first : Reaches s v parts.middle (1 ∷ 2 ∷ 7 ∷ []) v.memory (λ w. (slice_index w.registers 1 ≡ c.back)
      × (slice_index w.registers 2 ≡ slice_index v.registers 2)) =
      reaches_as s v parts.middle (1 ∷ 7 ∷ []) (1 ∷ 2 ∷ 7 ∷ []) v.memory _ _ (λ q i. ⊎_elim (λ h. inl h) (λ h. inr (inr h)) i)
      (λ w m p h. (h, p.others 2 (λ i. ⊎_elim (λ q. omega (arith, q)) (λ j. ⊎_elim (λ q. omega (arith, q)) (λ z. z) j) i)))
      (restored_by parts.middle laid.saves refl within.back parts.first) in
      let u = first.changes.view in
      let at = arrived s v parts.middle (1 ∷ 2 ∷ 7 ∷ []) v.memory _ first in
      reaches_as s v to (1 ∷ 2 ∷ 7 ∷ []) (1 ∷ 2 ∷ 7 ∷ []) v.memory _ _ (λ q i. i)
      (λ w m p h. (h.0, h.1 1 (λ i. ⊎_elim (λ q. omega (arith, q)) (λ j. ⊎_elim (λ q. omega (arith, q)) (λ z. z) j) i) ∙ first.changes.holds.0))
      (reaches_more s v parts.middle to (1 ∷ 2 ∷ 7 ∷ []) (2 ∷ 7 ∷ []) v.memory _ _ first (λ q i. inr i)
      (raised_by u to (nat_eq laid.frame 0) refl (subst (λ q. PartStands s n q to (cond (nat_eq laid.frame 0) [] (sum_to T2 Sp Sp laid.frame)))
      (sym at) parts.second)
      first.changes.past.are first.changes.holds.1))

  -- ---- a return

  pub return_leaves :
      (to : ℕ) → PartStands s n v.place to (return_part (frame_in laid)) → a.raised ≡ None → is_complete a ≡ true → (value : Option Value) →
      ((x : Value) → value ≡ Some x → held (loc.Machine 10) ≡ Some x) → LeadsUpTo s v to (λ w. AtReturn s w young value a.memory c)
  return_leaves to st none whole value there =
      let parts = splits s n v.place to (frame_release (frame_in laid)) (goes_to_address Ra 0 ∷ []) st in
      let last = single s n parts.middle to (Jalr 0 1 0) parts.second in
      let first = given_back_reaches parts.middle parts.first in
      let u = first.changes.view in
      let back = within.waits.back in
      let bh = back.high in
      let l = last.1 in
      let k = first.lands in
      let place : ℕ = (c.back - 0x10000) / 4 in
      record {
        count = first.count + 1;
        lands = omega (arith, l, k);
        some = omega arith;
        view = at_place place u;
        leads = jump_behind s v parts.middle (1 ∷ 2 ∷ 7 ∷ []) v.memory _ first 1 0 place last.0
            (no_offset (slice_index u.registers 1) (code_start + 4 * place) (first.changes.holds.1 ∙ sym (back_place c.back back))
            (let p = back_place c.back back in omega (arith, p, bh)));
        holds = leaves s laid v (at_place place u) young held a c within
            (record {
              are = first.changes.past.are;
              others = λ q i. first.changes.past.others q (λ j. i (⊎_elim (λ h. inl h) (λ j. ⊎_elim (λ h. inr (inl h)) (λ h. inr (inr (inr h))) j) j));
              memory = first.changes.past.memory;
              blocks = first.changes.past.blocks;
            })
            first.changes.holds.0 none left whole value there (back_place c.back back);
      }
