-- The limit word is loaded: it says that the mover asks, or that it asks for nothing.
use Rattle.std.proofs.Common.{◌≡◌, ◌≢◌, ℕ, suc, ◌+◌, ◌*◌, ◌<◌, ◌≤◌, ◌⊎◌, inl, inr, Bool, true, false, nat_le, List, [], ◌∷◌, length, Some, slice_index, slice_set, refl, ap, arith, ◌∙◌, subst, ⊎_elim, get_or-set_same, get_or-set_other}
use Rattle.std.proofs.lemmas.Bool.{and_left, and_right, cond-false, lt-leb, ne_eqb}
use Rattle.bs_words.specs.Word.{add_word}
use Rattle.guarded_machine.specs.Guarded.{is_in_need}
use Rattle.guarded_machine.proofs.Needs.{below_limit, sets_unserved}
use Rattle.image_form.specs.Tables.{Tables}
use Rattle.rv_isa.specs.declared.instr.Instr.TheVariants.{Load}
use Rattle.rv_isa.specs.declared.instr.LoadWidth.TheVariants.{Ld}
use Rattle.rv_machine.specs.Arithmetic.{imm_i}
use Rattle.rv_machine.specs.Hart.{Hart, executed, goes_to, loads, readable, register, with_register}
use Rattle.rv_machine.specs.Memory.{code_region, code_start, is_inside, loaded_number, memory_word}
use Rattle.rv_machine.specs.Places.{domain_start, limit_asked, limit_at_rest}
use Rattle.rv_machine.specs.Services.{Machine}
use Rattle.rv_machine.specs.Sound.{AreRegisters}
use Rattle.machine_laws.proofs.Memory.{word_below}
use Rattle.machine_laws.proofs.Words.{with_registers}
use Rattle.moving_laws.proofs.Usable.{limit_readable}
use Rattle.moving_laws.proofs.Young.{read_is}
use Rattle.lin_machine.specs.Arrival.{ArrivalIn, Arrives, Needs}
use Rattle.lin_machine.specs.Straight.{IsPast}
use Rattle.lin_machine.specs.View.{Fixed, IsInstructionAt, KnownLimit, HasView, View}
use Rattle.machine_laws.proofs.Immediates.{low_12, up}
use Rattle.lin_machine.proofs.Likes.{known_either}
use Rattle.lin_machine.proofs.Steps.{one_step, ready, ready_stands, register_reg, set_in, unserved_step, with_hart}

-- the register has the one or the other, and where the mover asks this is known from then on
abbrev pub HasLimit : ℕ → View → Type 0
HasLimit r w = (slice_index w.registers r ≡ limit_at_rest) ⊎ ((slice_index w.registers r ≡ limit_asked) × (w.asked ≡ true))

-- ---- in need

-- s10 is below the limit word whatever that is, or below that of an ask, which is known
abbrev pub NeedsMore : View → Type 0
NeedsMore w = (slice_index w.registers 26 < limit_at_rest) ⊎ ((slice_index w.registers 26 < limit_asked) × (w.asked ≡ true))

pub needs_more : (w : View) (r : ℕ) → HasLimit r w → slice_index w.registers 26 < slice_index w.registers r → NeedsMore w
needs_more w r (inl e) l = inl (omega (arith, e, l))
needs_more w r (inr e) l = let is = e.0 in inr (omega (arith, is, l), e.1)

-- where s10 stays, and it stays known that the mover asks
pub still_needs : (v w : View) → slice_index w.registers 26 ≡ slice_index v.registers 26 → w.asked ≡ v.asked → NeedsMore v → NeedsMore w
still_needs v w same asked (inl l) = inl (omega (arith, same, l))
still_needs v w same asked (inr p) = let l = p.0 in inr (omega (arith, same, l), asked ∙ p.1)

pub in_need_there : (s : Fixed) (a : Machine) (v : View) → HasView s a v → NeedsMore v → is_in_need a ≡ true
in_need_there s a v st needs = below_limit a (by needs)
  where
    same : slice_index a.hart.registers 26 ≡ slice_index v.registers 26
    same = ap (λ xs. slice_index xs 26) st.registers

    by : NeedsMore v → slice_index a.hart.registers 26 < memory_word a.hart.memory domain_start
    by (inl l) = let s10 = same in
        ⊎_elim (λ e. omega (arith, s10, l, e)) (λ e. omega (arith, s10, l, e)) (known_either v.asked a.hart.memory st.limit)
    by (inr p) =
        let s10 = same in
        let l = p.0 in
        let e : memory_word a.hart.memory domain_start ≡ limit_asked = subst (λ t. KnownLimit t a.hart.memory) p.1 st.limit in
        omega (arith, s10, l, e)

-- ---- the load

module _ (s : Fixed) (v : View) (are : AreRegisters v.registers) (domain : slice_index v.registers 27 ≡ domain_start) (r : ℕ) (fits : suc r < 32)
    (other : suc r ≢ 2) (code : IsInstructionAt s v.place (Load Ld (suc r) 27 0)) where
  not_in_code : (words : List ℕ) → code_start + 4 * length words ≤ domain_start → is_inside (code_region words) domain_start 8 ≡ false
  not_in_code words l = and_right (nat_le code_start domain_start) (nat_le (domain_start + 8) (code_start + 4 * length words))
      (lt-leb (domain_start + 8) (code_start + 4 * length words) (omega (arith, l)))

  loaded_limit : (b : Machine) → HasView s b v → loaded_number (readable b.hart) domain_start 8 ≡ Some (memory_word b.hart.memory domain_start)
  loaded_limit b st =
      let short = s.functions.tables.code.short in
      ap (λ (image : Tables). loaded_number (code_region image.code ∷ b.hart.memory) domain_start 8) st.image
      ∙ cond-false (is_inside (code_region s.image.code) domain_start 8) _ _ (not_in_code s.image.code (omega (arith, short)))
      ∙ read_is b.hart.memory domain_start (limit_readable s.image s.heap s.base b.hart.memory st.regions)

  loads_limit : (b : Machine) → HasView s b v → executed (Load Ld (suc r) 27 0) b.hart ≡ loads (Some (memory_word b.hart.memory domain_start)) Ld (suc r) b.hart
  loads_limit b st =
      let at : add_word (register b.hart 27) (imm_i 0) ≡ domain_start =
      ap (λ z. add_word z (imm_i 0)) (register_reg s b v 27 st ∙ domain) ∙ ap (add_word domain_start) (low_12 0 (omega arith))
      ∙ up domain_start 0 domain_start refl (omega arith) in
      ap (λ x. loads (loaded_number (readable b.hart) x 8) Ld (suc r) b.hart) at ∙ ap (λ o. loads o Ld (suc r) b.hart) (loaded_limit b st)

  -- the word is loaded, and this is known of it
  arrives_so : (a0 : Machine) (st0 : HasView s a0 v) (asks : Bool) → KnownLimit asks (ready s a0).hart.memory →
      HasLimit (suc r) (record (set_in (suc r) (memory_word (ready s a0).hart.memory domain_start) v) { asked = asks }) →
      ArrivalIn 0 1 s v a0 (λ w. IsPast 1 (suc r ∷ []) v.memory v w × HasLimit (suc r) w)
  arrives_so a0 st0 asks limit has =
      let b = ready s a0 in
      let st = ready_stands s a0 v st0 in
      let value : ℕ = memory_word b.hart.memory domain_start in
      let h : Hart = record (b.hart) { registers = with_register (suc r) value b.hart.registers; pc = b.hart.pc + 4; retired = suc b.hart.retired } in
      let pc = st.pc in
      record {
        count = 1;
        some = omega arith;
        few = omega arith;
        answers = refl;
        calls = refl;
        view = record (set_in (suc r) value v) { asked = asks };
        machine = with_hart a0 h;
        stands = record {
          image = st.image;
          pc = omega (arith, pc);
          registers = ap (with_register (suc r) value) st.registers;
          memory = st.memory;
          regions = st.regions;
          limit = limit;
          stack_base = st.stack_base;
          heap = st.heap;
          blocks = st.blocks;
          result = st.result;
          answers = st.answers;
          calls = st.calls;
        };
        by = one_step s a0 v (Load Ld (suc r) 27 0)
            (goes_to (b.hart.pc + 4) (record (b.hart) { registers = with_register (suc r) value b.hart.registers })) st0 code
            (unserved_step s a0 v (Load Ld (suc r) 27 0) (loads (Some (memory_word a0.hart.memory domain_start)) Ld (suc r) a0.hart) st0 code (loads_limit a0 st0)
            (sets_unserved (suc r) (memory_word a0.hart.memory domain_start) (a0.hart.pc + 4) a0.hart))
            (loads_limit b st ∙ cond-false _ _ _ (and_left _ _ (ne_eqb (suc r) 2 other)));
        holds = (
          record {
            place = refl;
            are = with_registers v.registers (suc r) value are (word_below b.hart.memory domain_start);
            others = λ q none. get_or-set_other v.registers (suc r) q value 0 (λ e. none (inl e));
            memory = refl;
            blocks = refl;
          },
          has,
        );
      }

  pub limit_arrives : {q : Needs} → Arrives 1 s q v (λ w. IsPast 1 (suc r ∷ []) v.memory v w × HasLimit (suc r) w)
  limit_arrives = record {
    from = λ a0 st0.
        let b = ready s a0 in
        let st = ready_stands s a0 v st0 in
        let value : ℕ = memory_word b.hart.memory domain_start in
        let count = are.count in
        let there : slice_index (slice_set v.registers (suc r) value)
        (suc r) ≡ value = get_or-set_same v.registers (suc r) value 0 (omega (arith, count, fits)) in
        inl (⊎_elim (λ e. arrives_so a0 st0 v.asked st.limit (inl (there ∙ e))) (λ e. arrives_so a0 st0 true e (inr (there ∙ e, refl)))
        (known_either v.asked b.hart.memory st.limit));
  }
