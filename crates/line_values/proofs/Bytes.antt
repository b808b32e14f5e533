-- Accesses of a few bytes are accesses of parts of words.
use Rattle.std.proofs.Common.{◌≡◌, ◌≢◌, ℕ, suc, ◌+◌, ◌*◌, ◌%◌, ◌^◌, ◌<◌, ◌≤◌, inl, inr, false, ◌==◌, List, ◌∷◌, length, map, Some, refl, ap, ap₂, arith, ◌∙◌}
use Rattle.std.specs.List.{list_any}
use Rattle.std.proofs.lemmas.Bool.{and_right, cond-false, cond-true, eq-eqb, lt-leb}
use Rattle.bs_words.specs.Word.{add_word}
use Rattle.image_form.specs.Tables.{Tables}
use Rattle.rv_isa.specs.declared.instr.Instr.TheVariants.{Load, Store}
use Rattle.rv_isa.specs.declared.instr.LoadWidth.{LoadWidth}
use Rattle.rv_isa.specs.declared.instr.StoreWidth.{StoreWidth}
use Rattle.rv_machine.specs.Arithmetic.{imm_i}
use Rattle.rv_machine.specs.Hart.{bytes_loaded, bytes_stored, executed, loads, readable, register_loaded, stores}
use Rattle.rv_machine.specs.Memory.{Region, code_region, code_start, is_inside, loaded_number, stored_number}
use Rattle.rv_machine.specs.Services.{Machine}
use Rattle.rv_machine.specs.Sound.{HasRegions, extent, extents}
use Rattle.bs_words.specs.Memory.{IsWidth, part, replaced}
use Rattle.rv_machine.proofs.Bytes.{replaced-below}
use Rattle.moving_laws.specs.Words.{held_word}
use Rattle.moving_laws.proofs.Held.{IsDataOrAbove, IsHeld, has_byte, held_below, hold, hold_regions, read_part, word_hold, written_part}
use Rattle.lin_machine.specs.View.{Fixed, View, HasView, ReachesView, IsInstructionAt}
use Rattle.lin_machine.proofs.Likes.{known_same, like_hold}
use Rattle.lin_machine.proofs.Statics.{all_share, readable_shares}
use Rattle.lin_machine.proofs.Steps.{SetsRegister, one_step, ready, ready_stands, reg, register_reg, unserved_step, with_hart}

pub width_some : (w : ℕ) → IsWidth w → 1 ≤ w
width_some w (inl e) = omega (arith, e)
width_some w (inr (inl e)) = omega (arith, e)
width_some w (inr (inr (inl e))) = omega (arith, e)
width_some w (inr (inr (inr e))) = omega (arith, e)

-- a region has a byte there wherever regions lie so
held_alike : (m m' : List Region) (x : ℕ) → map extent m' ≡ map extent m → IsHeld m x → IsHeld m' x
held_alike m m' x lie held = record { is = ap (list_any (has_byte x)) lie ∙ held.is }

-- so many bytes of a word, from its byte b on
module _ (s : Fixed) (v : View) (x b : ℕ) (even : x % 8 ≡ 0) (low : 0x10000000 ≤ x) (n : x ≢ 0x20000000) (held : IsHeld v.memory x)
    (w : ℕ) (width : IsWidth w) (inside : b + w ≤ 8) (at : IsDataOrAbove s.image x (b + w)) (aligned : (x + b) % w ≡ 0) where
  outside_code : (code : List ℕ) → code_start + 4 * length code ≤ x → is_inside (code_region code) (x + b) w ≡ false
  outside_code code l =
      and_right _ _ (lt-leb (x + b + w) (code_start + 4 * length code) (let h = width_some w width in omega (arith, l, h)))

  loaded_part : (a : Machine) → HasView s a v → loaded_number (readable a.hart) (x + b) w ≡ Some (part (held_word v.memory x) b w)
  loaded_part a st =
      let c = s.functions.tables.code.short in
      ap (λ (image : Tables). loaded_number (code_region image.code ∷ a.hart.memory) (x + b) w) st.image
      ∙ cond-true ((x + b) % w == 0) _ _ (eq-eqb ((x + b) % w) 0 aligned)
      ∙ cond-false (is_inside (code_region s.image.code) (x + b) w) _ _ (outside_code s.image.code (omega (arith, c, low)))
      ∙ read_part x b w (width_some w width) even inside a.hart.memory (all_share s a.hart.memory st.regions x (b + w) inside even at)
      (held_alike v.memory a.hart.memory x st.memory.lie held).is
      ∙ ap (λ z. Some (part z b w)) (st.memory.held x even n)

  stored_part : (a : Machine) → HasView s a v → (value : ℕ) →
      stored_number a.hart.memory (x + b) w value ≡ Some (hold a.hart.memory x (replaced (held_word v.memory x) b w value))
  stored_part a st value =
      cond-true ((x + b) % w == 0) _ _ (eq-eqb ((x + b) % w) 0 aligned)
      ∙ written_part x b w (width_some w width) even inside a.hart.memory value (all_share s a.hart.memory st.regions x (b + w) inside even at)
      (held_alike v.memory a.hart.memory x st.memory.lie held).is
      ∙ ap (λ z. Some (hold a.hart.memory x (replaced z b w value))) (st.memory.held x even n)

  -- ---- instructions

  pub sets_load_part : (kind : LoadWidth) → bytes_loaded kind ≡ w → (rd ra imm : ℕ) → add_word (reg v.registers ra) (imm_i imm) ≡ x + b →
      SetsRegister s v (Load kind rd ra imm) rd (register_loaded kind (part (held_word v.memory x) b w))
  sets_load_part kind same rd ra imm e = record {
    effect = λ a st.
        ap (λ y. loads (loaded_number (readable a.hart) (add_word y (imm_i imm)) (bytes_loaded kind)) kind rd a.hart) (register_reg s a v ra st)
        ∙ ap (λ y. loads (loaded_number (readable a.hart) y (bytes_loaded kind)) kind rd a.hart) e
        ∙ ap (λ z. loads (loaded_number (readable a.hart) (x + b) z) kind rd a.hart) same
        ∙ ap (λ o. loads o kind rd a.hart) (loaded_part a st);
  }

  -- the next view, with those bytes of the word replaced
  abbrev pub with_part : ℕ → View
  with_part value = record v { place = v.place + 1; memory = hold v.memory x (replaced (held_word v.memory x) b w value) }

  pub store_part_step : (kind : StoreWidth) → bytes_stored kind ≡ w → (ra rb imm : ℕ) → IsInstructionAt s v.place (Store kind ra rb imm) →
      add_word (reg v.registers ra) (imm_i imm) ≡ x + b → HasRegions (extents s.image s.heap s.base) v.memory →
      ReachesView s 1 v (with_part (reg v.registers rb))
  store_part_step kind same ra rb imm c e regions = record {
    answers = refl;
    calls = refl;
    asked = refl;
    by = λ a st.
        let d = ready s a in
        let ok = ready_stands s a v st in
        let value : ℕ = replaced (held_word v.memory x) b w (reg v.registers rb) in
        let m = hold d.hart.memory x value in
        let small : value < 2 ^ 64 =
        replaced-below (held_word v.memory x) b w (reg v.registers rb) inside (held_below v.memory x regions.each) in (
          with_hart a (record (d.hart) { memory = m; pc = d.hart.pc + 4; retired = suc d.hart.retired }),
          record {
            image = ok.image;
            pc = next (d.hart.pc) ok.pc;
            registers = ok.registers;
            memory = like_hold v.memory d.hart.memory x value regions.each (readable_shares s v.memory regions x)
                (readable_shares s d.hart.memory ok.regions x) even held (held_alike v.memory d.hart.memory x ok.memory.lie held) small ok.memory;
            regions = hold_regions (extents s.image s.heap s.base) d.hart.memory x value small ok.regions;
            limit = known_same v.asked d.hart.memory m (word_hold d.hart.memory x 0x20000000 value even n) ok.limit;
            stack_base = ok.stack_base;
            heap = ok.heap;
            blocks = ok.blocks;
            result = ok.result;
            answers = ok.answers;
            calls = ok.calls;
          },
          one_step s a v (Store kind ra rb imm) (stores (Some m) d.hart) st c
              (unserved_step s a v (Store kind ra rb imm) (stores (Some (hold a.hart.memory x value)) a.hart) st c (effect a st) refl) (effect d ok),
        );
  } where
    effect : (d : Machine) → HasView s d v →
        executed (Store kind ra rb imm) d.hart ≡ stores (Some (hold d.hart.memory x (replaced (held_word v.memory x) b w (reg v.registers rb)))) d.hart
    effect d ok =
        ap₂ (λ y z. stores (stored_number d.hart.memory (add_word y (imm_i imm)) (bytes_stored kind) z) d.hart) (register_reg s d v ra ok)
        (register_reg s d v rb ok)
        ∙ ap (λ y. stores (stored_number d.hart.memory y (bytes_stored kind) (reg v.registers rb)) d.hart) e
        ∙ ap (λ z. stores (stored_number d.hart.memory (x + b) z (reg v.registers rb)) d.hart) same
        ∙ ap (λ o. stores o d.hart) (stored_part d ok (reg v.registers rb))

    next : (pc : ℕ) → pc ≡ code_start + 4 * v.place → pc + 4 ≡ code_start + 4 * (v.place + 1)
    next pc e = omega arith
