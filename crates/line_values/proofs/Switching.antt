-- Switches follow their lines, by tests in turn and by tables of jumps.
use Rattle.std.proofs.Common.{◌≡◌, ◌≢◌, ℕ, zero, suc, ◌+◌, ◌-◌, ◌*◌, ◌^◌, ◌<◌, ◌≤◌, inl, inr, Bool, true, false, cond, nat_le, List, [], ◌∷◌, length, map, slice_get, slice_index, Some, None, Result, Ok, Err, refl, ap, arith, ◌∙◌, sym, subst, ⊎_elim}
use Rattle.std.proofs.lemmas.Bool.{eq-eqb, ne_eqb}
use Rattle.bs_words.specs.Operators.{word_in}
use Rattle.bs_words.specs.Word.{add_word, shl_word}
use Rattle.bs_words.specs.declared.types.Loc.{Loc}
use Rattle.bs_words.specs.declared.types.Loc.TheVariants as loc
use Rattle.bs_words.specs.declared.values.Kind.{Kind}
use Rattle.bs_words.specs.declared.values.Value.TheVariants.{Word}
use Rattle.rv_emit_rules.specs.Instructions.{addi}
use Rattle.rv_emit_rules.specs.Tests.{switch_part, table_of_jumps, tests_in_turn, value_words}
use Rattle.rv_layout_rules.specs.Laid.{address_of_place}
use Rattle.rv_layout_rules.specs.Words.{NameAddresses, far_jump}
use Rattle.lin_ir.specs.Formed.{IsLocation}
use Rattle.lin_ir.specs.Meaning.{Locations, NamedAt, after_label, on_act, on_values, step, wrote}
use Rattle.lin_ir.specs.declared.lin.Flow.TheVariants as flow
use Rattle.lin_ir.specs.declared.lin.Lin.{Lin}
use Rattle.lin_ir.specs.declared.lin.Line.{Line}
use Rattle.lin_ir.specs.declared.lin.LinOp.TheVariants as lin
use Rattle.lin_ir.specs.declared.lin.Spot.{Spot}
use Rattle.mach_ir.specs.Acts.{Around, goes_to_case}
use Rattle.mach_ir.specs.Runs.{ActivationSetting}
use Rattle.rv_isa.specs.Registers.{register_number, register_at}
use Rattle.rv_isa.specs.declared.instr.AluImmOp.TheVariants.{Addi}
use Rattle.rv_isa.specs.declared.instr.AluOp.TheVariants.{Add}
use Rattle.rv_isa.specs.declared.instr.Condition.TheVariants as condition
use Rattle.rv_isa.specs.declared.instr.Instr.TheVariants.{Auipc, Jalr, Op, OpImm, Shift}
use Rattle.rv_isa.specs.declared.instr.ShiftOp.TheVariants.{Slli}
use Rattle.rv_isa.specs.declared.register.Register.TheVariants.{T1, Zero}
use Rattle.rv_machine.specs.Arithmetic.{imm_i, imm_u}
use Rattle.rv_machine.specs.Hart.{Placed}
use Rattle.rv_machine.specs.Memory.{code_start}
use Rattle.rv_machine.specs.Sound.{AreRegisters}
use Rattle.rv_pieces.specs.declared.piece.Piece.TheVariants.{Jump, Row}
use Rattle.lin_machine.specs.Follows.{Agrees, FollowsStep}
use Rattle.lin_machine.specs.Relation.{Below, Laid, Within}
use Rattle.lin_machine.specs.Straight.{Changes, LeadsFurther, Differs}
use Rattle.lin_machine.specs.View.{Fixed, View, HasCode, IsInstructionAt, ReachesView}
use Rattle.lin_machine.proofs.Formats.{sets_auipc, sets_imm, sets_jalr, sets_op, sets_shift}
use Rattle.machine_laws.proofs.Immediates.{by_20, down, high_12, low_12, up}
use Rattle.lin_machine.proofs.Locations.{read_register}
use Rattle.lin_machine.proofs.Parts.{changes_come}
use Rattle.lin_machine.proofs.Pure.{Reads, reads_held}
use Rattle.lin_machine.proofs.Reading.{reads_one}
use Rattle.lin_machine.proofs.Sequences.{code_past, set_changes, set_more, sets_as, widened}
use Rattle.lin_machine.proofs.Standing.{within_past}
use Rattle.lin_machine.proofs.Steps.{at_place, reg, set_to_step, then_leads}
use Rattle.line_stands.specs.Parts.{PartStands}
use Rattle.line_stands.proofs.Parts.{counts, last, leads, starts}
use Rattle.line_values.proofs.Jumping.{Goes, code_near, far_goes}
use Rattle.line_values.proofs.Landing.{Lies, jump_lands, lands, lies_near, within_gone}
use Rattle.line_values.proofs.Places.{no_unset, usual_of}
use Rattle.line_values.proofs.Testing.{branch_lands, first_comes}
use Rattle.line_values.proofs.Checking.{word_of}

-- instructions that change t1 and t2 alone, and then some that lead to a place
goes_more : (s : Fixed) (u w : View) (k1 k2 to : ℕ) → ReachesView s k1 u w → Differs (6 ∷ 7 ∷ []) u.memory u w → Goes s w k2 to → Goes s u (k1 + k2) to
goes_more s u w k1 k2 to first d g = record {
  view = g.view;
  leads = then_leads s k1 k2 u w g.view first g.leads;
  place = g.place;
  differs = record {
    are = g.differs.are;
    others = λ q n. g.differs.others q n ∙ d.others q n;
    memory = g.differs.memory ∙ d.memory;
    blocks = g.differs.blocks ∙ d.blocks;
  };
}

-- so many words lead to a place, in so many instructions or fewer
record Arrives (s : Fixed) (u : View) (k to : ℕ) : Type 0 where
  pub count : ℕ
  pub few : count ≤ k
  pub goes : Goes s u count to

get_none : {X : Type 0} (j : ℕ) (x : X) → slice_get [] j ≡ Some x → ⊥
get_none j x e = absurd (cc)

module _ (s : Fixed) (laid : Laid) (n : NameAddresses) (m : Lin) where
  -- where each label lies
  abbrev AllLie : List ℕ → Type 0
  AllLie labels = (j l : ℕ) → slice_get labels j ≡ Some l → Lies s laid n m l

  -- ---- tests in turn

  -- the index is one less
  lowers : (u : View) → AreRegisters u.registers → (i : ℕ) → slice_index u.registers 6 ≡ suc i → IsInstructionAt s u.place (OpImm Addi 6 6 4095) →
      Changes s u 1 (6 ∷ []) u.memory (λ w. slice_index w.registers 6 ≡ i)
  lowers u are i e code =
      let small = are.words 6 in
      let high = high_12 4095 (omega arith) (omega arith) in
      let sum : add_word (slice_index u.registers 6) (imm_i 4095) ≡ i =
      down (slice_index u.registers 6) (imm_i 4095) i (omega (arith, e, high)) (omega (arith, e, small)) in
      set_changes s u (OpImm Addi 6 6 4095) 5 i code (inl (λ q. omega (arith, q)))
      (sets_as s u (OpImm Addi 6 6 4095) 6 _ i sum (sets_imm s u Addi 6 6 4095)) are (omega arith) (omega (arith, e, small))

  tests_go : (labels : List ℕ) → AllLie labels → (u : View) → AreRegisters u.registers → (j l : ℕ) → slice_get labels j ≡ Some l →
      slice_index u.registers 6 ≡ j → (k : ℕ) → PartStands s n u.place (u.place + k) (tests_in_turn labels) →
      Arrives s u k (laid.part (length (after_label l m.code)))
  tests_go [] lie u are j l e i k part = absurd (get_none j l e)
  tests_go (l0 ∷ []) lie u are zero l e i k part =
      let same : l0 ≡ l = cc in
      let g = jump_lands s laid n m u are l (lie 0 l e) k [] (subst (λ z. PartStands s n u.place (u.place + k) (Jump z ∷ [])) same part) in
      record { count = g.count; few = g.few; goes = g.goes }
  tests_go (l0 ∷ []) lie u are (suc j) l e i k part = absurd (get_none j l e)
  tests_go (l0 ∷ l1 ∷ labels) lie u are zero l e i k part =
      let same : l0 ≡ l = cc in
      let g = branch_lands s laid n m u are l0 (lie 0 l0 refl) condition.Beq T1 Zero true (eq-eqb (slice_index u.registers 6) 0 i) k
      (addi T1 T1 0xFFFFFFFFFFFFFFFF ∷ tests_in_turn (l1 ∷ labels)) part in
      let few = g.few in
      let sum = g.sum in
      record {
        count = g.count;
        few = omega (arith, few, sum);
        goes = subst (λ z. Goes s u g.count (laid.part (length (after_label z m.code)))) same g.goes;
      }
  tests_go (l0 ∷ l1 ∷ labels) lie u are (suc j) l e i k part =
      let g = branch_lands s laid n m u are l0 (lie 0 l0 refl) condition.Beq T1 Zero false (ne_eqb (slice_index u.registers 6) 0 (λ q. omega (arith, q, i))) k
      (addi T1 T1 0xFFFFFFFFFFFFFFFF ∷ tests_in_turn (l1 ∷ labels)) part in
      let w = g.goes.view in
      let same : w.registers ≡ u.registers = g.same refl in
      let at = g.goes.place in
      let h = leads s n (u.place + g.words) g.others (OpImm Addi 6 6 4095) (tests_in_turn (l1 ∷ labels)) g.rest in
      let i' : slice_index w.registers 6 ≡ suc j = ap (λ r. slice_index r 6) same ∙ i in
      let step = lowers w g.goes.differs.are j i' (subst (λ z. IsInstructionAt s z (OpImm Addi 6 6 4095)) (sym at) h.code) in
      let x = step.view in
      let past = step.past in
      let at' = past.place in
      let there : u.place + g.words + 1 ≡ x.place = omega (arith, at, at') in
      let rest : PartStands s n x.place (x.place + h.others) (tests_in_turn (l1 ∷ labels)) =
      subst (λ z. PartStands s n z (z + h.others) (tests_in_turn (l1 ∷ labels))) there h.rest in
      let more = tests_go (l1 ∷ labels) (λ o y. lie (suc o) y) x past.are j l e step.holds h.others rest in
      let few = g.few in
      let sum = g.sum in
      let few' = more.few in
      let sum' = h.sum in
      record {
        count = g.count + (1 + more.count);
        few = omega (arith, few, sum, few', sum');
        goes = goes_more s u w g.count (1 + more.count) (laid.part (length (after_label l m.code))) g.goes.leads g.goes.differs
            (goes_more s w x 1 more.count (laid.part (length (after_label l m.code))) step.leads
            (record {
              are = past.are;
              others = λ q n. past.others q (λ o. n (⊎_elim (λ f. inl f) (λ f. absurd f) o));
              memory = past.memory;
              blocks = past.blocks;
            }) more.goes);
      }

  -- ---- tables

  -- row j lies two words further than the one before it
  row_at : (labels : List ℕ) (j l : ℕ) → slice_get labels j ≡ Some l → (at k : ℕ) → PartStands s n at (at + k) (map Row labels) →
      HasCode s (at + 2 * j) (far_jump 0 6 (address_of_place (at + 2 * j)) (n.label l)) × (2 * j + 2 ≤ k)
  row_at [] j l e at k part = absurd (get_none j l e)
  row_at (l0 ∷ labels) zero l e at k part =
      let same : l0 ≡ l = cc in
      let g = starts s n at k (Row l0) (map Row labels) part in
      let sum = g.sum in
      let here : at ≡ at + 2 * 0 = omega arith in (
        subst (λ z. HasCode s z (far_jump 0 6 (address_of_place z) (n.label l))) here
            (subst (λ z. HasCode s at (far_jump 0 6 (address_of_place at) (n.label z))) same g.code),
        omega (arith, sum),
      )
  row_at (l0 ∷ labels) (suc j) l e at k part =
      let g = starts s n at k (Row l0) (map Row labels) part in
      let sum = g.sum in
      let r = row_at labels j l e (at + 2) g.others g.rest in
      let few = r.1 in
      let here : at + 2 + 2 * j ≡ at + 2 * suc j = omega arith in
      (subst (λ z. HasCode s z (far_jump 0 6 (address_of_place z) (n.label l))) here r.0, omega (arith, sum, few))

  upper_zero : imm_u 0 ≡ 0
  upper_zero = ⊎_elim (λ p. let e = p.1 in omega (arith, e)) (λ p. let l = p.0 in absurd (omega (arith, l))) (by_20 0 (omega arith))

  shifted_by : (i : ℕ) → i < 2 ^ 32 → shl_word i 3 ≡ 8 * i
  unfolding shl_word
  shifted_by i l = omega (arith, l)

  six_words : (k o1 o2 o3 o4 j : ℕ) → k ≡ 1 + o1 → o1 ≡ 1 + o2 → o2 ≡ 1 + o3 → o3 ≡ 1 + o4 → 2 * j + 2 ≤ o4 → 4 + 2 ≤ k
  six_words k o1 o2 o3 o4 j s1 s2 s3 s4 l = omega (arith, s1, s2, s3, s4, l)

  twelve_is : imm_i 12 ≡ 12
  twelve_is = low_12 12 (omega arith)

  third : (p : ℕ) → p + 1 + 1 + 1 ≡ p + 3
  third p = omega arith

  zero_no_sp : ◌≢◌ {A = ℕ} 0 2
  zero_no_sp q = omega (arith, q)

  row_sum : (p j f t : ℕ) → f ≡ code_start + 4 * (p + 1) + 8 * j → t ≡ 12 → f + t ≡ code_start + 4 * (p + 1 + 1 + 1 + 1 + 2 * j)
  row_sum p j f t e h = omega (arith, e, h)

  address_small : (p : ℕ) → p + 16384 < 2 ^ 26 → code_start + 4 * p < 2 ^ 64
  address_small p l = omega (arith, l)

  place_small : (p : ℕ) → p + 16384 < 2 ^ 26 → p < 2 ^ 26
  place_small p l = omega (arith, l)

  table_go : (labels : List ℕ) → AllLie labels → (u : View) → AreRegisters u.registers → (j l : ℕ) → slice_get labels j ≡ Some l →
      slice_index u.registers 6 ≡ j → (k : ℕ) → PartStands s n u.place (u.place + k) (table_of_jumps labels) →
      Arrives s u k (laid.part (length (after_label l m.code)))
  table_go labels lie u are j l e i k part =
      let g1 = leads s n u.place k (Shift Slli 6 6 3) _ part in
      let g2 = leads s n (u.place + 1) g1.others (Auipc 7 0) _ g1.rest in
      let g3 = leads s n (u.place + 1 + 1) g2.others (Op Add 7 7 6) _ g2.rest in
      let g4 = leads s n (u.place + 1 + 1 + 1) g3.others (Jalr 0 7 12) (map Row labels) g3.rest in
      let row = row_at labels j l e (u.place + 1 + 1 + 1 + 1) g4.others g4.rest in
      let here : ℕ = u.place + 1 + 1 + 1 + 1 + 2 * j in
      let near = code_near s (u.place + 1 + 1 + 1 + 1 + 2 * j) _ row.0.0 in
      let eight : shl_word (slice_index u.registers 6) 3 ≡ 8 * j = ap (λ z. shl_word z 3) i ∙ shifted_by j (omega (arith, near)) in
      let c1 =
      widened s u 1 (6 ∷ []) (6 ∷ 7 ∷ []) u.memory (λ w. slice_index w.registers 6 ≡ 8 * j) _ (λ q o. ⊎_elim (λ f. inl f) (λ f. absurd f) o) (λ w p h. h)
      (set_changes s u (Shift Slli 6 6 3) 5 (8 * j) g1.code (inl (λ q. omega (arith, q)))
      (sets_as s u (Shift Slli 6 6 3) 6 _ (8 * j) eight (sets_shift s u Slli 6 6 3)) are (omega arith) (omega (arith, near))) in
      let p1 = c1.past.place in
      let pc : ℕ = code_start + 4 * (u.place + 1) in
      let sum2 : add_word (code_start + 4 * c1.view.place) (imm_u 0) ≡ code_start + 4 * (u.place + 1) =
      up (code_start + 4 * c1.view.place) (imm_u 0) (code_start + 4 * (u.place + 1)) (let z = upper_zero in omega (arith, z, p1)) (omega (arith, near)) in
      let c2 =
      set_more s u 1 (6 ∷ 7 ∷ []) u.memory _ (Auipc 7 0) 6 pc c1 (inr (inl refl)) (sets_as s c1.view (Auipc 7 0) 7 _ pc sum2 (sets_auipc s c1.view 7 0))
      g2.code (inl (λ q. omega (arith, q))) (omega arith) (omega (arith, near)) in
      let e6 : slice_index c2.view.registers 6 ≡ 8 * j = c2.holds.1 6 (λ q. omega (arith, q)) ∙ c1.holds in
      let e7 = c2.holds.0 in
      let base : ℕ = code_start + 4 * (u.place + 1) + 8 * j in
      let sum3 : add_word (slice_index c2.view.registers 7) (slice_index c2.view.registers 6) ≡ code_start + 4 * (u.place + 1) + 8 * j =
      up (slice_index c2.view.registers 7) (slice_index c2.view.registers 6) (code_start + 4 * (u.place + 1) + 8 * j) (omega (arith, e6, e7))
      (omega (arith, near)) in
      let code3 : IsInstructionAt s (u.place + 2) (Op Add 7 7 6) = let q : u.place + 1 + 1 ≡ u.place + 2 =
      omega arith in subst (λ z. IsInstructionAt s z (Op Add 7 7 6)) q g3.code in
      let c3 =
      set_more s u 2 (6 ∷ 7 ∷ []) u.memory _ (Op Add 7 7 6) 6 base c2 (inr (inl refl))
      (sets_as s c2.view (Op Add 7 7 6) 7 _ base sum3 (sets_op s c2.view Add 7 7 6)) code3 (inl (λ q. omega (arith, q))) (omega arith)
      (omega (arith, near)) in
      let w = c3.view in
      let target : add_word (reg w.registers 7) (imm_i 12) ≡ code_start + 4 * (u.place + 1 + 1 + 1 + 1 + 2 * j) =
      up (slice_index w.registers 7) (imm_i 12) (code_start + 4 * (u.place + 1 + 1 + 1 + 1 + 2 * j))
      (row_sum u.place j (slice_index w.registers 7) (imm_i 12) c3.holds.0 twelve_is) (address_small (u.place + 1 + 1 + 1 + 1 + 2 * j) near) in
      let code4 : IsInstructionAt s (u.place + 3) (Jalr 0 7 12) =
      subst (λ z. IsInstructionAt s z (Jalr 0 7 12)) (third u.place) g4.code in
      let to : ℕ = laid.part (length (after_label l m.code)) in
      let x = at_place (u.place + 1 + 1 + 1 + 1 + 2 * j) w in
      let four : ReachesView s 4 u (at_place (u.place + 1 + 1 + 1 + 1 + 2 * j) w) =
      then_leads s 3 1 u w (at_place here w) c3.leads
      (set_to_step s w (Jalr 0 7 12) 0 (code_start + 4 * (w.place + 1)) here (code_past s 3 (6 ∷ 7 ∷ []) u.memory u w (Jalr 0 7 12) c3.past code4)
      (inl zero_no_sp) (sets_jalr s w 0 7 12 here target)) in
      let jump : HasCode s (u.place + 1 + 1 + 1 + 1 + 2 * j) (far_jump 0 6 (address_of_place (u.place + 1 + 1 + 1 + 1 + 2 * j))
      (address_of_place (laid.part (length (after_label l m.code))))) =
      subst (λ z. HasCode s (u.place + 1 + 1 + 1 + 1 + 2 * j) (far_jump 0 6 (address_of_place (u.place + 1 + 1 + 1 + 1 + 2 * j)) z))
      (lie j l e).address row.0 in
      let last = far_goes s (at_place (u.place + 1 + 1 + 1 + 1 + 2 * j) w) c3.past.are to (place_small (u.place + 1 + 1 + 1 + 1 + 2 * j) near)
      (lies_near s laid n m l (lie j l e)) jump in
      record {
        count = 4 + 2;
        few = six_words k g1.others g2.others g3.others g4.others j g1.sum g2.sum g3.sum g4.sum row.1;
        goes = goes_more s u (at_place (u.place + 1 + 1 + 1 + 1 + 2 * j) w) 4 2 to four
            (record { are = c3.past.are; others = c3.past.others; memory = c3.past.memory; blocks = c3.past.blocks }) last;
      }

  cases_go : (labels : List ℕ) → AllLie labels → (u : View) → AreRegisters u.registers → (j l : ℕ) → slice_get labels j ≡ Some l →
      slice_index u.registers 6 ≡ j → (k : ℕ) (t : Bool) → PartStands s n u.place (u.place + k) (cond t (tests_in_turn labels) (table_of_jumps labels)) →
      Arrives s u k (laid.part (length (after_label l m.code)))
  cases_go labels lie u are j l e i k true part = tests_go labels lie u are j l e i k part
  cases_go labels lie u are j l e i k false part = table_go labels lie u are j l e i k part

module _ (s : Fixed) (n : NameAddresses) (laid : Laid) (m : Lin) (slots : m.slots ≡ laid.slots) (live : List Line → Type 0) (entry : ℕ → ℕ) (c : Below)
    (place : ActivationSetting) (named : NamedAt) (next : List Line) (v : View) (young : List Placed) (held file : Locations) (a : Around) (none : a.raised ≡ None)
    (within : Within s laid v young 0 held a c) (before : Type 0) (agrees : Agrees before held file) (k : ℕ) where
  -- the index comes into t1
  index_comes : (l : Loc) → IsLocation m l → (j : ℕ) → PartStands s n v.place (v.place + j) (value_words (length a.tries) l) → (i : ℕ) →
      held l ≡ Some (Word i) →
      LeadsFurther s v j (λ u. Within s laid u young 0 held a c × (slice_index u.registers 6 ≡ i))
  index_comes (loc.Slot o) is j part i h =
      let g = first_comes s n laid m slots v young held a c none within (loc.Slot o) is j part (Word i) h in
      record { view = g.view; leads = g.leads; place = g.place; holds = (g.holds.0, g.holds.1.is) }
  index_comes (loc.Machine q) is j part i h =
      let u = usual_of m q is in
      let some = u.location.some in
      let same : q ≡ suc (q - 1) = omega (arith, some) in
      let g = last s n v.place j (OpImm Addi 6 (register_number (register_at q)) 0) part in
      let code : IsInstructionAt s v.place (OpImm Addi 6 (suc (q - 1)) 0) = subst (λ z. IsInstructionAt s v.place (OpImm Addi 6 z 0)) (u.number_is ∙ same) g.0 in
      let w : ℕ = slice_index v.registers (suc (q - 1)) in
      let small = within.own.are.words (suc (q - 1)) in
      let sum : add_word w (imm_i 0) ≡ w = ap (add_word w) (low_12 0 (omega arith)) ∙ up w 0 w (omega arith) small in
      let stands : slice_index v.registers q ≡ i = (read_register s laid v young 0 held a c within q (Word i) none h).1.is in
      subst (λ z. LeadsFurther s v z (λ u. Within s laid u young 0 held a c × (slice_index u.registers 6 ≡ i))) (sym g.1)
      (changes_come s v 1 (6 ∷ []) v.memory (λ u. slice_index u.registers 6 ≡ slice_index v.registers (suc (q - 1))) _
      (λ u past e. (
        within_past s laid v u young 0 held a c 1 (6 ∷ []) past (λ o x. ⊎_elim (λ f. inl f) (λ f. absurd f) x) within,
        e ∙ sym (ap (slice_index v.registers) same) ∙ stands,
      ))
      (set_changes s v (OpImm Addi 6 (suc (q - 1)) 0) 5 w code (inl (λ f. omega (arith, f)))
      (sets_as s v (OpImm Addi 6 (suc (q - 1)) 0) 6 _ w sum (sets_imm s v Addi 6 (suc (q - 1)) 0)) within.own.are (omega arith) small))
  index_comes loc.Unset is j part i h = absurd (no_unset m is)

  -- a case, by its index
  cases_by : (labels all : List ℕ) (args : List Spot) (o : Result ℕ Kind) →
      ((j l : ℕ) → o ≡ Ok j → slice_get labels j ≡ Some l → FollowsStep k s laid live entry c v (wrote (after_label l m.code) a (Some file))) →
      FollowsStep k s laid live entry c v (on_act place m (record { op = lin.Flow (flow.Switch all); args = args; results = [] }) next file a
      (goes_to_case a labels o))
  cases_by labels all args (Err kind) f = tt
  cases_by [] all args (Ok j) f = tt
  cases_by (l ∷ labels) all args (Ok zero) f = f 0 l refl refl
  cases_by (l ∷ labels) all args (Ok (suc j)) f = cases_by labels all args (Ok j) (λ i y e h. f (suc i) y (let same : Ok j ≡ Ok i = e in cc) h)

  pub switch_line : (labels : List ℕ) → ((j l : ℕ) → slice_get labels j ≡ Some l → Lies s laid n m l) →
      ((j l : ℕ) → slice_get labels j ≡ Some l → live (after_label l m.code) → before) → (p : Spot) → IsLocation m p.loc → Reads before p.loc →
      PartStands s n v.place (v.place + k) (switch_part (length a.tries) labels (p ∷ [])) →
      FollowsStep k s laid live entry c v (step place named m (record {
        rest = record { op = lin.Flow (flow.Switch labels); args = p ∷ []; results = [] } ∷ next;
        file = file;
        around = a;
      }))
  switch_line labels lie passes p at_p reads part =
      reads_one place.setting.end file
      (λ vs. FollowsStep k s laid live entry c v (on_values place (named (length next)) m (record {
        op = lin.Flow (flow.Switch labels);
        args = p ∷ [];
        results = [];
      }) next file a vs)) tt p
      (λ x h e.
      cases_by labels labels (p ∷ []) (word_in x)
      (λ j l o get.
      let t : Bool = nat_le (length labels) 4 in
      let g = counts s n v.place k (value_words (length a.tries) p.loc) (cond (nat_le (length labels) 4) (tests_in_turn labels) (table_of_jumps labels)) part in
      let is : held p.loc ≡ Some (Word j) = reads_held before held file p.loc agrees reads ∙ h ∙ ap Some (word_of x j o) in
      let comes = index_comes p.loc at_p g.own g.first j is in
      let u = comes.view in
      let at = comes.place in
      let there : PartStands s n u.place (u.place + g.others) (cond (nat_le (length labels) 4) (tests_in_turn labels) (table_of_jumps labels)) =
      subst (λ z. PartStands s n z (z + g.others) (cond (nat_le (length labels) 4) (tests_in_turn labels) (table_of_jumps labels))) (sym at) g.second in
      let r = cases_go s laid n m labels lie u comes.holds.0.own.are j l get comes.holds.1 g.others (nat_le (length labels) 4) there in
      let few = r.few in
      let sum = g.sum in
      lands s n laid m live entry c place named next v young held file a within before agrees k (g.own + r.count) (omega (arith, few, sum))
      (after_label l m.code) r.goes.view (then_leads s g.own r.count v u r.goes.view comes.leads r.goes.leads) r.goes.place
      (within_gone s laid u r.goes.view young held a c r.goes.differs comes.holds.0) (passes j l get)))
