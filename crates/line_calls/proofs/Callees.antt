-- The callee of a tail call is in a location: its address comes into t1, and then the frame is given back.
use Rattle.std.proofs.Common.{◌≡◌, ℕ, suc, ◌+◌, ◌-◌, ◌*◌, ◌<◌, inl, inr, true, List, [], ◌∷◌, ◌++◌, length, Some, None, slice_get, slice_index, refl, arith, ◌∙◌, sym, subst, ⊎_elim}
use Rattle.bs_words.specs.declared.types.Loc.{Loc}
use Rattle.bs_words.specs.declared.types.Loc.TheVariants as loc
use Rattle.bs_words.specs.declared.values.Value.{Value}
use Rattle.bs_words.specs.declared.values.Value.TheVariants.{Function}
use Rattle.rv_emit_rules.specs.Entry.{frame_release}
use Rattle.rv_emit_rules.specs.Instructions.{goes_to_address}
use Rattle.rv_emit_rules.specs.Tests.{value_words}
use Rattle.rv_layout_rules.specs.Words.{NameAddresses}
use Rattle.lin_ir.specs.Formed.{IsLocation}
use Rattle.lin_ir.specs.Meaning.{Locations}
use Rattle.lin_ir.specs.declared.lin.Lin.{Lin}
use Rattle.mach_ir.specs.Acts.{Around, is_complete}
use Rattle.rv_isa.specs.Registers.{register_number, register_at}
use Rattle.rv_isa.specs.declared.instr.AluImmOp.TheVariants.{Addi}
use Rattle.rv_isa.specs.declared.instr.Instr.TheVariants.{Jalr, OpImm}
use Rattle.rv_isa.specs.declared.register.Register.TheVariants.{T1}
use Rattle.rv_machine.specs.Hart.{Placed}
use Rattle.rv_machine.specs.Memory.{code_start}
use Rattle.lin_machine.specs.Moments.{AtEntry}
use Rattle.lin_machine.specs.Relation.{Below, Laid, StandsFor, Within, blocks_by_serial}
use Rattle.lin_machine.specs.View.{Fixed, IsInstructionAt, View}
use Rattle.lin_machine.proofs.Formats.{sets_imm}
use Rattle.lin_machine.proofs.Locations.{read_register, slot_word}
use Rattle.lin_machine.proofs.Sequences.{sets_as}
use Rattle.lin_machine.proofs.Standing.{within_past}
use Rattle.lin_machine.proofs.Steps.{at_place, then_leads}
use Rattle.line_stands.specs.Parts.{PartStands}
use Rattle.line_stands.proofs.Parts.{splits}
use Rattle.line_values.proofs.Operands.{offset_small}
use Rattle.line_values.proofs.Places.{no_unset, slot_of, usual_of}
use Rattle.line_calls.specs.Leading.{LeadsUpTo}
use Rattle.line_calls.specs.Points.{EntriesStand}
use Rattle.line_calls.specs.Reaches.{Reaches}
use Rattle.line_calls.specs.Laws.{frame_in}
use Rattle.line_calls.proofs.Leaving.{given_back_reaches, jump_behind, no_offset}
use Rattle.line_calls.proofs.Reaching.{arrived, reaches_as, reaches_set, single}
use Rattle.line_calls.proofs.Stack.{load_reaches}
use Rattle.line_calls.proofs.Tailing.{entry_near, replaces}

module _ (s : Fixed) (n : NameAddresses) (laid : Laid) (m : Lin) (slots : m.slots ≡ laid.slots) (v : View) (young : List Placed) (held : Locations) (a : Around)
    (c : Below) (none : a.raised ≡ None) (within : Within s laid v young 0 held a c) where
  -- ---- the address

  pub callee_reaches : (to : ℕ) (l : Loc) (x : Value) → IsLocation m l → held l ≡ Some x → PartStands s n v.place to (value_words (length a.tries) l) →
      Reaches s v to (6 ∷ []) v.memory (λ w. StandsFor s (blocks_by_serial v young) (slice_index w.registers 6) x)
  callee_reaches to loc.Unset x is h st = absurd (no_unset m is)
  callee_reaches to (loc.Slot j) x is h st =
      let g = within.slots j x h in
      reaches_as s v to (6 ∷ 6 ∷ []) (6 ∷ []) v.memory _ _ (λ q i. ⊎_elim (λ e. inl e) (λ k. k) i)
      (λ w k p e. subst (λ z. StandsFor s (blocks_by_serial v young) z x) (sym e) g.1)
      (load_reaches s n v within.own.are (8 * j + 16 * length a.tries) (slot_word s laid v young 0 held a c within j g.0)
      (offset_small s n laid m slots v young held a c none within j (slot_of m j is)) T1 T1 5 5 refl refl (omega arith) (omega arith) (λ q. omega (arith, q))
      (λ q. omega (arith, q)) to st)
  callee_reaches to (loc.Machine r) x is h st =
      let u = usual_of m r is in
      let some = u.location.some in
      let e : r ≡ suc (r - 1) = omega (arith, some) in
      let one = single s n v.place to (OpImm Addi 6 (register_number (register_at r)) 0) st in
      let code : IsInstructionAt s v.place (OpImm Addi 6 (suc (r - 1)) 0) = subst (λ q. IsInstructionAt s v.place (OpImm Addi 6 q 0)) (u.number_is ∙ e) one.0 in
      let stands : StandsFor s (blocks_by_serial v young) (slice_index v.registers (suc (r - 1))) x =
      subst (λ q. StandsFor s (blocks_by_serial v young) (slice_index v.registers q) x) e (read_register s laid v young 0 held a c within r x none h).1 in
      let small = within.own.are.words (suc (r - 1)) in
      reaches_as s v to (6 ∷ []) (6 ∷ []) v.memory _ _ (λ q i. i) (λ w k p g. subst (λ z. StandsFor s (blocks_by_serial v young) z x) (sym g) stands)
      (reaches_set s v to (OpImm Addi 6 (suc (r - 1)) 0) 5 (slice_index v.registers (suc (r - 1))) code one.1 (inl (λ q. omega (arith, q)))
      (sets_as s v (OpImm Addi 6 (suc (r - 1)) 0) 6 _ _ (no_offset (slice_index v.registers (suc (r - 1))) (slice_index v.registers (suc (r - 1))) refl small)
      (sets_imm s v Addi 6 (suc (r - 1)) 0)) within.own.are (omega arith) small)

  -- ---- the whole

  pub registered_replaces :
      (left : a.tries ≡ []) (whole : is_complete a ≡ true) (arguments : List Value) →
      ((j : ℕ) (x : Value) → slice_get arguments j ≡ Some x → (j < 16) × (held (loc.Machine (10 + j)) ≡ Some x)) →
      (entry : ℕ → ℕ) (f : ℕ) → EntriesStand s entry → (l : Loc) → IsLocation m l → held l ≡ Some (Function f) → (to : ℕ) →
      PartStands s n v.place to (value_words (length a.tries) l ++ frame_release (frame_in laid) ++ goes_to_address T1 0 ∷ []) →
      LeadsUpTo s v to (λ w. AtEntry s w young (entry f) arguments a.memory c)
  registered_replaces left whole arguments args entry f entries l is h to st =
      let ends = splits s n v.place to (value_words (length a.tries) l ++ frame_release (frame_in laid)) (goes_to_address T1 0 ∷ []) st in
      let parts = splits s n v.place ends.middle (value_words (length a.tries) l) (frame_release (frame_in laid)) ends.first in
      let first = callee_reaches parts.middle l (Function f) is h parts.first in
      let u = first.changes.view in
      let here = arrived s v parts.middle (6 ∷ []) v.memory _ first in
      let there : Within s laid u young 0 held a c = within_past s laid v u young 0 held a c first.count (6 ∷ []) first.changes.past
      (λ q i. ⊎_elim (λ e. inl e) (λ z. absurd z) i) within in
      let second = given_back_reaches s n laid u young held a c there left ends.middle
      (subst (λ q. PartStands s n q ends.middle (frame_release (frame_in laid))) (sym here) parts.second) in
      let last = single s n ends.middle to (Jalr 0 6 0) ends.second in
      let z = second.changes.view in
      let stands = first.changes.holds in
      let near = entry_near s entry f entries stands.known in
      let six : slice_index z.registers 6 ≡ slice_index u.registers 6 =
      second.changes.past.others 6 (λ i. ⊎_elim (λ q. omega (arith, q)) (λ j. ⊎_elim (λ q. omega (arith, q)) (λ k. ⊎_elim (λ q. omega (arith, q))
      (λ z. z) k) j) i) in
      let address : slice_index z.registers 6 ≡ code_start + 4 * entry f = six ∙ stands.is ∙ entries.is f stands.known in
      let a1 = first.lands in
      let a2 = second.lands in
      let a3 = last.1 in
      record {
        count = first.count + (second.count + 1);
        lands = omega (arith, a1, a2, a3, here);
        some = omega arith;
        view = at_place (entry f) z;
        leads = then_leads s first.count (second.count + 1) v u (at_place (entry f) z) first.changes.leads
            (jump_behind s u ends.middle (1 ∷ 2 ∷ 7 ∷ []) u.memory _ second 6 0 (entry f) last.0
            (no_offset (slice_index z.registers 6) (code_start + 4 * entry f) address (omega (arith, near))));
        holds = replaces s laid u (at_place (entry f) z) young held a c there
            (record {
              are = second.changes.past.are;
              others = λ q i. second.changes.past.others q (λ j. i (⊎_elim (λ h. inl h) (λ j. ⊎_elim (λ h. inr (inl h)) (λ h. inr (inr (inr h))) j) j));
              memory = second.changes.past.memory;
              blocks = second.changes.past.blocks;
            })
            second.changes.holds.0 second.changes.holds.1 none left whole (entry f) arguments refl args;
      }
