-- What each format of instructions leads to: one lemma for a format, and none for a row.
use Rattle.std.proofs.Common.{◌≡◌, ◌≢◌, ℕ, suc, ◌+◌, ◌-◌, ◌*◌, ◌%◌, ◌^◌, ◌<◌, ◌≤◌, true, false, ◌==◌, List, ◌∷◌, length, Some, refl, ap, ap₂, arith, ◌∙◌}
use Rattle.std.specs.List.{AllByRecursion}
use Rattle.std.proofs.lemmas.Bool.{eq-eqb, lt-leb, and_right, cond-true, cond-false}
use Rattle.bs_words.specs.Word.{add_word}
use Rattle.image_form.specs.Tables.{Tables}
use Rattle.rv_isa.specs.declared.instr.AluOp.{AluOp}
use Rattle.rv_isa.specs.declared.instr.AluImmOp.{AluImmOp}
use Rattle.rv_isa.specs.declared.instr.ShiftOp.{ShiftOp}
use Rattle.rv_isa.specs.declared.instr.Condition.{Condition}
use Rattle.rv_isa.specs.declared.instr.Instr.TheVariants.{Lui, Auipc, Jal, Jalr, Branch, Load, Store, OpImm, Shift, Op, Addiw}
use Rattle.rv_isa.specs.declared.instr.LoadWidth.TheVariants.{Ld}
use Rattle.rv_isa.specs.declared.instr.StoreWidth.TheVariants.{Sd}
use Rattle.rv_machine.specs.Arithmetic.{alu, alu_imm, shift, sign_extended, is_taken, imm_i, imm_b, imm_j, imm_u}
use Rattle.rv_machine.specs.Hart.{register, sets, goes_to, jumps_if_aligned, loads, stores, readable, executed}
use Rattle.rv_machine.specs.Memory.{is_inside, loaded_number, stored_number, memory_word, write, code_region, code_start}
use Rattle.rv_machine.specs.Services.{Machine}
use Rattle.rv_machine.specs.Sound.{IsRegion, extents}
use Rattle.machine_laws.proofs.Memory.{has_write, other_word}
use Rattle.moving_laws.specs.Words.{IsReadable}
use Rattle.moving_laws.proofs.Words.{readable_even, stored_is}
use Rattle.moving_laws.proofs.Young.{read_is}
use Rattle.lin_machine.specs.View.{Fixed, View, HasView, ReachesView, IsInstructionAt}
use Rattle.lin_machine.proofs.Likes.{known_same, like_readable, like_write}
use Rattle.lin_machine.proofs.Steps.{with_hart, ready, ready_stands, one_step, unserved_step, reg, register_reg, SetsTo, SetsRegister, GoesTo}

module _ (s : Fixed) (v : View) where
  pub sets_op : (op : AluOp) (rd ra rb : ℕ) → SetsRegister s v (Op op rd ra rb) rd (alu op (reg v.registers ra) (reg v.registers rb))
  sets_op op rd ra rb = record {
    effect = λ a st. ap₂ (λ x y. sets rd (alu op x y) (a.hart.pc + 4) a.hart) (register_reg s a v ra st)
        (register_reg s a v rb st);
  }

  pub sets_imm : (op : AluImmOp) (rd ra imm : ℕ) → SetsRegister s v (OpImm op rd ra imm) rd (alu_imm op (reg v.registers ra) imm)
  sets_imm op rd ra imm = record { effect = λ a st. ap (λ x. sets rd (alu_imm op x imm) (a.hart.pc + 4) a.hart) (register_reg s a v ra st) }

  pub sets_shift : (op : ShiftOp) (rd ra amount : ℕ) → SetsRegister s v (Shift op rd ra amount) rd (shift op (reg v.registers ra) amount)
  sets_shift op rd ra amount = record { effect = λ a st. ap (λ x. sets rd (shift op x amount) (a.hart.pc + 4) a.hart) (register_reg s a v ra st) }

  pub sets_lui : (rd imm : ℕ) → SetsRegister s v (Lui rd imm) rd (imm_u imm)
  sets_lui rd imm = record { effect = λ a st. refl }

  pub sets_addiw : (rd ra imm : ℕ) → SetsRegister s v (Addiw rd ra imm) rd (sign_extended (add_word (reg v.registers ra) (imm_i imm)))
  sets_addiw rd ra imm = record { effect = λ a st. ap (λ x. sets rd (sign_extended (add_word x (imm_i imm))) (a.hart.pc + 4) a.hart) (register_reg s a v ra st) }

  pub sets_auipc : (rd imm : ℕ) → SetsRegister s v (Auipc rd imm) rd (add_word (code_start + 4 * v.place) (imm_u imm))
  sets_auipc rd imm = record { effect = λ a st. ap (λ pc. sets rd (add_word pc (imm_u imm)) (a.hart.pc + 4) a.hart) st.pc }

  -- ---- loads and stores of whole words

  not_in_code : (code : List ℕ) (x : ℕ) → code_start + 4 * length code ≤ x → is_inside (code_region code) x 8 ≡ false
  not_in_code code x l = and_right _ _ (lt-leb (x + 8) (code_start + 4 * length code) (omega (arith, l)))

  loaded_there : (a : Machine) (x : ℕ) → HasView s a v → x ≢ 0x20000000 → 0x10000000 ≤ x → IsReadable v.memory x →
      loaded_number (readable a.hart) x 8 ≡ Some (memory_word v.memory x)
  loaded_there a x st n low r =
      let c = s.functions.tables.code.short in
      let r' = like_readable v.memory a.hart.memory x st.memory r in
      ap (λ (image : Tables). loaded_number (code_region image.code ∷ a.hart.memory) x 8) st.image
      ∙ cond-true (x % 8 == 0) _ _ (eq-eqb (x % 8) 0 (readable_even a.hart.memory x r'))
      ∙ cond-false (is_inside (code_region s.image.code) x 8) _ _ (not_in_code s.image.code x (omega (arith, c, low)))
      ∙ read_is a.hart.memory x r'
      ∙ ap Some (st.memory.words x n)

  pub sets_load : (rd ra imm x : ℕ) → add_word (reg v.registers ra) (imm_i imm) ≡ x → x ≢ 0x20000000 → 0x10000000 ≤ x → IsReadable v.memory x →
      SetsRegister s v (Load Ld rd ra imm) rd (memory_word v.memory x)
  sets_load rd ra imm x e n low r = record {
    effect = λ a st.
        ap (λ y. loads (loaded_number (readable a.hart) (add_word y (imm_i imm)) 8) Ld rd a.hart) (register_reg s a v ra st)
        ∙ ap (λ y. loads (loaded_number (readable a.hart) y 8) Ld rd a.hart) e
        ∙ ap (λ o. loads o Ld rd a.hart) (loaded_there a x st n low r);
  }

  -- the next view, with a word written
  abbrev pub stored_in : ℕ → ℕ → View
  stored_in x value = record v { place = v.place + 1; memory = write v.memory x value }

  pub store_step : (ra rb imm x : ℕ) → IsInstructionAt s v.place (Store Sd ra rb imm) → add_word (reg v.registers ra) (imm_i imm) ≡ x →
      x ≢ 0x20000000 → AllByRecursion IsRegion v.memory → IsReadable v.memory x →
      reg v.registers rb < 2 ^ 64 → ReachesView s 1 v (stored_in x (reg v.registers rb))
  store_step ra rb imm x c e off f r small = record {
    answers = refl;
    calls = refl;
    asked = refl;
    by = λ a st.
        let b = ready s a in
        let ok = ready_stands s a v st in
        let value = reg v.registers rb in
        let m = write b.hart.memory x value in (
          with_hart a (record (b.hart) { memory = m; pc = b.hart.pc + 4; retired = suc b.hart.retired }),
          record {
            image = ok.image;
            pc = next (b.hart.pc) ok.pc;
            registers = ok.registers;
            memory = like_write v.memory b.hart.memory x value f r small ok.memory;
            regions = has_write (extents s.image s.heap s.base) b.hart.memory x value ok.regions;
            limit = known_same v.asked b.hart.memory m (other_word b.hart.memory x 0x20000000 value off) ok.limit;
            stack_base = ok.stack_base;
            heap = ok.heap;
            blocks = ok.blocks;
            result = ok.result;
            answers = ok.answers;
            calls = ok.calls;
          },
          one_step s a v (Store Sd ra rb imm) (stores (Some m) b.hart) st c
              (unserved_step s a v (Store Sd ra rb imm) (stores (Some (write a.hart.memory x value)) a.hart) st c (effect a st) refl) (effect b ok),
        );
  } where
    effect : (b : Machine) → HasView s b v → executed (Store Sd ra rb imm) b.hart ≡ stores (Some (write b.hart.memory x (reg v.registers rb))) b.hart
    effect b ok =
        ap₂ (λ y z. stores (stored_number b.hart.memory (add_word y (imm_i imm)) 8 z) b.hart) (register_reg s b v ra ok) (register_reg s b v rb ok)
        ∙ ap (λ y. stores (stored_number b.hart.memory y 8 (reg v.registers rb)) b.hart) e
        ∙ ap (λ o. stores o b.hart) (stored_is b.hart.memory x (reg v.registers rb) (like_readable v.memory b.hart.memory x ok.memory r))

    next : (pc : ℕ) → pc ≡ code_start + 4 * v.place → pc + 4 ≡ code_start + 4 * (v.place + 1)
    next pc e = omega arith

  -- ---- jumps

  pub goes_jal : (offset place : ℕ) → add_word (code_start + 4 * v.place) (imm_j offset) ≡ code_start + 4 * place → GoesTo s v (Jal 0 offset) place
  goes_jal offset place e = record {
    effect = λ a st.
        let t : add_word a.hart.pc (imm_j offset) ≡ code_start + 4 * place = ap (λ pc. add_word pc (imm_j offset)) st.pc ∙ e in
        ap (λ x. jumps_if_aligned x (sets 0 (a.hart.pc + 4) x a.hart)) t
        ∙ cond-true ((code_start + 4 * place) % 4 == 0) _ _ (eq-eqb ((code_start + 4 * place) % 4) 0 (omega arith));
  }

  pub sets_jalr : (rd ra imm place : ℕ) → add_word (reg v.registers ra) (imm_i imm) ≡ code_start + 4 * place →
      SetsTo s v (Jalr rd ra imm) rd (code_start + 4 * (v.place + 1)) place
  sets_jalr rd ra imm place e = record {
    effect = λ a st.
        let sum : add_word (register a.hart ra) (imm_i imm) ≡ code_start + 4 * place = ap (λ x. add_word x (imm_i imm)) (register_reg s a v ra st) ∙ e in
        let even : code_start + 4 * place - (code_start + 4 * place) % 2 ≡ code_start + 4 * place = omega arith in
        let back : a.hart.pc + 4 ≡ code_start + 4 * (v.place + 1) = let p = st.pc in omega (arith, p) in
        ap (λ x. jumps_if_aligned (x - x % 2) (sets rd (a.hart.pc + 4) (x - x % 2) a.hart)) sum
        ∙ ap (λ x. jumps_if_aligned x (sets rd (a.hart.pc + 4) x a.hart)) even
        ∙ cond-true ((code_start + 4 * place) % 4 == 0) _ _ (eq-eqb ((code_start + 4 * place) % 4) 0 (omega arith))
        ∙ ap (λ x. sets rd x (code_start + 4 * place) a.hart) back;
  }

  pub goes_branch_taken : (condition : Condition) (ra rb offset place : ℕ) → is_taken condition (reg v.registers ra) (reg v.registers rb) ≡ true →
      add_word (code_start + 4 * v.place) (imm_b offset) ≡ code_start + 4 * place → GoesTo s v (Branch condition ra rb offset) place
  goes_branch_taken condition ra rb offset place holds e = record {
    effect = λ a st.
        let t : add_word a.hart.pc (imm_b offset) ≡ code_start + 4 * place = ap (λ pc. add_word pc (imm_b offset)) st.pc ∙ e in
        cond-true (is_taken condition (register a.hart ra) (register a.hart rb)) _ _ (ap₂ (is_taken condition) (register_reg s a v ra st)
        (register_reg s a v rb st) ∙ holds)
        ∙ ap (λ x. jumps_if_aligned x (goes_to x a.hart)) t
        ∙ cond-true ((code_start + 4 * place) % 4 == 0) _ _ (eq-eqb ((code_start + 4 * place) % 4) 0 (omega arith));
  }

  pub goes_branch_on : (condition : Condition) (ra rb offset : ℕ) → is_taken condition (reg v.registers ra) (reg v.registers rb) ≡ false →
      GoesTo s v (Branch condition ra rb offset) (v.place + 1)
  goes_branch_on condition ra rb offset fails = record {
    effect = λ a st.
        let on : a.hart.pc + 4 ≡ code_start + 4 * (v.place + 1) = let p = st.pc in omega (arith, p) in
        cond-false (is_taken condition (register a.hart ra) (register a.hart rb)) _ _ (ap₂ (is_taken condition) (register_reg s a v ra st)
        (register_reg s a v rb st) ∙ fails)
        ∙ ap (λ x. goes_to x a.hart) on;
  }
