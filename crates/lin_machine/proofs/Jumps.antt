-- Instructions that end in a jump to the address in a register, and what they leave.
use Rattle.std.proofs.Common.{◌≡◌, ◌≢◌, ℕ, ◌+◌, ◌-◌, ◌*◌, ◌/◌, ◌%◌, ◌^◌, ◌<◌, ◌≤◌, inl, inr, List, [], ◌∷◌, slice_index, refl, ap, arith, ◌∙◌, sym, subst, ⊎_elim}
use Rattle.bs_words.specs.Word.{add_word}
use Rattle.rv_isa.specs.declared.instr.AluImmOp.TheVariants.{Addi}
use Rattle.rv_isa.specs.declared.instr.Instr.TheVariants.{Jalr, Load, OpImm}
use Rattle.rv_isa.specs.declared.instr.LoadWidth.TheVariants.{Ld}
use Rattle.rv_machine.specs.Arithmetic.{imm_i}
use Rattle.rv_machine.specs.Memory.{Region, memory_word, code_start}
use Rattle.rv_machine.specs.Places.{stack_end}
use Rattle.rv_machine.specs.Services.{StackOut}
use Rattle.rv_machine.specs.Sound.{AreRegisters}
use Rattle.machine_laws.proofs.Memory.{word_below}
use Rattle.moving_laws.specs.Waiting.{IsBack}
use Rattle.moving_laws.specs.Words.{IsReadable}
use Rattle.lin_machine.specs.Straight.{Changes, Differs, IsPast}
use Rattle.lin_machine.specs.View.{Fixed, View, EndsRunAfter, HasCode, IsInstructionAt, ReachesView}
use Rattle.lin_machine.proofs.Formats.{sets_imm, sets_jalr}
use Rattle.machine_laws.proofs.Immediates.{high_12, low_12, up}
use Rattle.lin_machine.proofs.Sequences.{code_past, load_there, set_changes, set_more, sets_as, widened}
use Rattle.lin_machine.proofs.Slots.{IsStackWord, load_near}
use Rattle.lin_machine.proofs.Steps.{SetsRegister, at_place, out_step, reg, set_to_step, then_leads}

-- ---- places of addresses

pub back_place : (a : ℕ) → IsBack a → code_start + 4 * ((a - 0x10000) / 4) ≡ a
back_place a b = let lo = b.low in let e = b.even in omega (arith, lo, e)

pub back_near : (a : ℕ) → IsBack a → (a - 0x10000) / 4 < 2 ^ 26
back_near a b = let lo = b.low in let hi = b.high in omega (arith, lo, hi)

-- ---- a jump at the end

pub past_differs : (n : ℕ) (rs : List ℕ) (m : List Region) (v w : View) (to : ℕ) → IsPast n rs m v w → Differs rs m v (at_place to w)
past_differs n rs m v w to p = record { are = p.are; others = p.others; memory = p.memory; blocks = p.blocks }

pub jalr_then :
    (s : Fixed) (v : View) (n : ℕ) (rs : List ℕ) (m : List Region) (P : View → Type 0) (first : Changes s v n rs m P) (r to : ℕ) → IsInstructionAt s (v.place + n)
    (Jalr 0 r 0) →
    reg first.view.registers r ≡ code_start + 4 * to → to < 2 ^ 26 → ReachesView s (n + 1) v (at_place to first.view)
jalr_then s v n rs m P first r to code e near =
    let u = first.view in
    let target : add_word (reg u.registers r) (imm_i 0) ≡ code_start + 4 * to =
    ap (λ z. add_word z (imm_i 0)) e ∙ ap (add_word (code_start + 4 * to)) (low_12 0 (omega arith)) ∙ up (code_start + 4 * to) 0 (code_start + 4 * to)
    (omega arith) (omega (arith, near)) in
    then_leads s n 1 v u (at_place to u) first.leads
    (set_to_step s u (Jalr 0 r 0) 0 (code_start + 4 * (u.place + 1)) to (code_past s n rs m v u (Jalr 0 r 0) first.past code) (inl (λ q. omega (arith, q)))
    (sets_jalr s u 0 r 0 to target))

-- ---- sums with an immediate

pub add_near : (a n c : ℕ) → n < 2048 → a + n ≡ c → c < 2 ^ 64 → add_word a (imm_i (n % 4096)) ≡ c
add_near a n c small e fits =
    let k : n % 4096 ≡ n = omega (arith, small) in
    ap (add_word a) (ap imm_i k ∙ low_12 n small) ∙ up a n c e fits

-- so many bytes less
pub less_near : (a n : ℕ) → 1 ≤ n → n ≤ 2048 → n ≤ a → a < 2 ^ 64 → add_word a (imm_i (4096 - n % 4096)) ≡ a - n
unfolding add_word
less_near a n some small low high =
    let k : 4096 - n % 4096 ≡ 4096 - n = omega (arith, small) in
    let e : imm_i (4096 - n) ≡ 4096 - n + 2 ^ 64 - 2 ^ 12 = high_12 (4096 - n) (omega (arith, small)) (omega (arith, some)) in
    ap (λ x. (a + x) % 2 ^ 64) (ap imm_i k ∙ e) ∙ omega (arith, low, high, some)

-- ---- sp is lowered, or the run is out of stack

module _ (s : Fixed) (v : View) (are : AreRegisters v.registers) (n : ℕ) (some : 1 ≤ n) (small : n ≤ 2048) (above : s.base ≤ slice_index v.registers 2)
    (code : IsInstructionAt s v.place (OpImm Addi 2 2 (4096 - n % 4096))) where
  high_enough : n ≤ slice_index v.registers 2
  high_enough = let b = s.stack.low in omega (arith, b, above, small)

  lowers_sp : SetsRegister s v (OpImm Addi 2 2 (4096 - n % 4096)) 2 (slice_index v.registers 2 - n)
  lowers_sp = sets_as s v (OpImm Addi 2 2 (4096 - n % 4096)) 2 _ _ (less_near (slice_index v.registers 2) n some small high_enough (are.words 2))
      (sets_imm s v Addi 2 2 (4096 - n % 4096))

  pub lower_out : slice_index v.registers 2 < s.base + n → EndsRunAfter s 1 v StackOut
  lower_out l = out_step s v (OpImm Addi 2 2 (4096 - n % 4096)) (slice_index v.registers 2 - n) code (let h = high_enough in omega (arith, l, h)) lowers_sp

  pub lower_changes : s.base + n ≤ slice_index v.registers 2 → Changes s v 1 (2 ∷ []) v.memory (λ w. slice_index w.registers 2 ≡ slice_index v.registers 2 - n)
  lower_changes fits =
      let w = are.words 2 in
      set_changes s v (OpImm Addi 2 2 (4096 - n % 4096)) 1 (slice_index v.registers 2 - n) code (inr (omega (arith, fits))) lowers_sp are (omega arith)
      (omega (arith, w))

-- ---- a return: ld ra, frame - 8 (sp); addi sp, sp, frame; jalr zero, ra, 0

module _ (s : Fixed) (v : View) (are : AreRegisters v.registers) (frame top back : ℕ) (some : 8 ≤ frame) (small : frame < 2048)
    (e : slice_index v.registers 2 + frame ≡ top) (low : s.base ≤ slice_index v.registers 2)
    (high : top ≤ stack_end) (there : memory_word v.memory (top - 8) ≡ back) (is : IsBack back) (can : IsReadable v.memory (top - 8))
    (code : HasCode s v.place (Load Ld 1 2 ((frame - 8) % 4096) ∷ OpImm Addi 2 2 (frame % 4096) ∷ Jalr 0 1 0 ∷ [])) where
  word_at : slice_index v.registers 2 + (frame - 8) ≡ top - 8
  word_at = omega (arith, e, some)

  return_word : IsStackWord v (frame - 8)
  return_word =
      let x = word_at in
      let b = s.stack.low in
      record { high = omega (arith, x, high); low = omega (arith, x, low, b); readable = subst (λ y. IsReadable v.memory y) (sym x) can }

  pub ra_loaded : Changes s v 1 (1 ∷ 2 ∷ 6 ∷ 7 ∷ []) v.memory (λ w. (slice_index w.registers 1 ≡ back)
      × (slice_index w.registers 2 ≡ slice_index v.registers 2))
  ra_loaded =
      widened s v 1 (1 ∷ []) (1 ∷ 2 ∷ 6 ∷ 7 ∷ []) v.memory (λ w. (slice_index w.registers 1 ≡ back) × (slice_index w.registers 2 ≡ slice_index v.registers 2)) _
      (λ q i. ⊎_elim (λ x. inl x) (λ f. absurd f) i) (λ w p x. x)
      (widened s v 1 (1 ∷ []) (1 ∷ []) v.memory (λ w. slice_index w.registers 1 ≡ memory_word v.memory (slice_index v.registers 2 + (frame - 8))) _ (λ q i. i)
      (λ w p x. (x ∙ ap (memory_word v.memory) word_at ∙ there, p.others 2 (λ i. ⊎_elim (λ q. omega (arith, q)) (λ f. f) i)))
      (load_near s v are (frame - 8) return_word 0 (omega arith) (λ q. omega (arith, q)) (omega (arith, small)) (code.0, tt)))

  pub sp_raised : Changes s v 2 (1 ∷ 2 ∷ 6 ∷ 7 ∷ []) v.memory (λ w. (slice_index w.registers 2 ≡ top)
      × ((q : ℕ) → q ≢ 2 → slice_index w.registers q ≡ slice_index ra_loaded.view.registers q))
  sp_raised =
      let u = ra_loaded.view in
      let same : slice_index u.registers 2 ≡ slice_index v.registers 2 = ra_loaded.holds.1 in
      set_more s v 1 (1 ∷ 2 ∷ 6 ∷ 7 ∷ []) v.memory _ (OpImm Addi 2 2 (frame % 4096)) 1 top ra_loaded (inr (inl refl))
      (sets_as s u (OpImm Addi 2 2 (frame % 4096)) 2 _ top (add_near (slice_index u.registers 2) frame top small (omega (arith, same, e))
      (omega (arith, high))) (sets_imm s u Addi 2 2 (frame % 4096)))
      code.1.0 (inr (omega (arith, e, low))) (omega arith) (omega (arith, high))

  -- the view after it
  abbrev pub returned : View
  returned = at_place ((back - 0x10000) / 4) sp_raised.view

  pub return_leads : ReachesView s 3 v returned
  return_leads =
      let ra : slice_index sp_raised.view.registers 1 ≡ back = sp_raised.holds.1 1 (λ q. omega (arith, q)) ∙ ra_loaded.holds.0 in
      let place : v.place + 1 + 1 ≡ v.place + 2 = omega arith in
      jalr_then s v 2 (1 ∷ 2 ∷ 6 ∷ 7 ∷ []) v.memory _ sp_raised 1 ((back - 0x10000) / 4) (subst (λ q. IsInstructionAt s q (Jalr 0 1 0)) place code.1.1.0)
      (ra ∙ sym (back_place back is)) (back_near back is)

  pub return_differs : Differs (1 ∷ 2 ∷ 6 ∷ 7 ∷ []) v.memory v returned
  return_differs = past_differs 2 (1 ∷ 2 ∷ 6 ∷ 7 ∷ []) v.memory v sp_raised.view ((back - 0x10000) / 4) sp_raised.past

  pub return_top : slice_index returned.registers 2 ≡ top
  return_top = sp_raised.holds.0

-- ---- a raise: addi sp, s1, 0; ld t1, 0(sp); ld s1, 8(sp); addi sp, sp, 16; jalr zero, t1, 0

module _ (s : Fixed) (v : View) (are : AreRegisters v.registers) (is : IsBack (memory_word v.memory (slice_index v.registers 9)))
    (low : s.base ≤ slice_index v.registers 9) (high : slice_index v.registers 9 + 16 ≤ stack_end)
    (can0 : IsReadable v.memory (slice_index v.registers 9)) (can8 : IsReadable v.memory (slice_index v.registers 9 + 8))
    (code : HasCode s v.place (OpImm Addi 2 9 0 ∷ Load Ld 6 2 0 ∷ Load Ld 9 2 8 ∷ OpImm Addi 2 2 16 ∷ Jalr 0 6 0 ∷ [])) where
  abbrev trap : ℕ
  trap = slice_index v.registers 9

  abbrev changed : List ℕ
  changed = 2 ∷ 6 ∷ 7 ∷ 9 ∷ []

  far_enough : 0x38010008 ≤ slice_index v.registers 9
  far_enough = let b = s.stack.low in omega (arith, b, low)

  pub first : Changes s v 1 (2 ∷ 6 ∷ 7 ∷ 9 ∷ []) v.memory (λ w. slice_index w.registers 2 ≡ slice_index v.registers 9)
  first =
      let sum : add_word (slice_index v.registers 9) (imm_i 0) ≡ slice_index v.registers 9 = ap (add_word (slice_index v.registers 9)) (low_12 0 (omega arith))
      ∙ up (slice_index v.registers 9) 0 (slice_index v.registers 9) (omega arith) (omega (arith, high)) in
      widened s v 1 (2 ∷ []) (2 ∷ 6 ∷ 7 ∷ 9 ∷ []) v.memory (λ w. slice_index w.registers 2 ≡ slice_index v.registers 9) _ (λ q i. ⊎_elim (λ x. inl x)
      (λ f. absurd f) i) (λ w p x. x)
      (set_changes s v (OpImm Addi 2 9 0) 1 (slice_index v.registers 9) code.0 (inr low)
      (sets_as s v (OpImm Addi 2 9 0) 2 _ _ sum (sets_imm s v Addi 2 9 0)) are (omega arith) (omega (arith, high)))

  pub second : Changes s v 2 (2 ∷ 6 ∷ 7 ∷ 9 ∷ []) v.memory (λ w. (slice_index w.registers 6 ≡ memory_word v.memory (slice_index v.registers 9))
      × ((q : ℕ) → q ≢ 6 → slice_index w.registers q ≡ slice_index first.view.registers q))
  second =
      let far = far_enough in
      let e = first.holds in
      set_more s v 1 (2 ∷ 6 ∷ 7 ∷ 9 ∷ []) v.memory _ (Load Ld 6 2 0) 5 (memory_word v.memory (slice_index v.registers 9)) first (inr (inl refl))
      (load_there s v 1 (2 ∷ 6 ∷ 7 ∷ 9 ∷ []) v.memory _ first 6 2 0 (slice_index v.registers 9)
      (ap (add_word (slice_index first.view.registers 2)) (low_12 0 (omega arith)) ∙ up (slice_index first.view.registers 2) 0 (slice_index v.registers 9)
      (omega (arith, e)) (omega (arith, high)))
      (λ q. omega (arith, q, far)) (omega (arith, far)) can0)
      code.1.0 (inl (λ q. omega (arith, q))) (omega arith) (word_below v.memory (slice_index v.registers 9))

  pub third : Changes s v 3 (2 ∷ 6 ∷ 7 ∷ 9 ∷ []) v.memory (λ w. (slice_index w.registers 9 ≡ memory_word v.memory (slice_index v.registers 9 + 8))
      × ((q : ℕ) → q ≢ 9 → slice_index w.registers q ≡ slice_index second.view.registers q))
  third =
      let far = far_enough in
      let e : slice_index second.view.registers 2 ≡ slice_index v.registers 9 = second.holds.1 2 (λ q. omega (arith, q)) ∙ first.holds in
      let place : v.place + 1 + 1 ≡ v.place + 2 = omega arith in
      set_more s v 2 (2 ∷ 6 ∷ 7 ∷ 9 ∷ []) v.memory _ (Load Ld 9 2 8) 8 (memory_word v.memory (slice_index v.registers 9 + 8)) second (inr (inr (inr (inl refl))))
      (load_there s v 2 (2 ∷ 6 ∷ 7 ∷ 9 ∷ []) v.memory _ second 9 2 8 (slice_index v.registers 9 + 8)
      (ap (add_word (slice_index second.view.registers 2)) (low_12 8 (omega arith))
      ∙ up (slice_index second.view.registers 2) 8 (slice_index v.registers 9 + 8) (omega (arith, e)) (omega (arith, high)))
      (λ q. omega (arith, q, far)) (omega (arith, far)) can8)
      (subst (λ q. IsInstructionAt s q (Load Ld 9 2 8)) place code.1.1.0) (inl (λ q. omega (arith, q))) (omega arith)
      (word_below v.memory (slice_index v.registers 9 + 8))

  pub fourth : Changes s v 4 (2 ∷ 6 ∷ 7 ∷ 9 ∷ []) v.memory (λ w. (slice_index w.registers 2 ≡ slice_index v.registers 9 + 16)
      × ((q : ℕ) → q ≢ 2 → slice_index w.registers q ≡ slice_index third.view.registers q))
  fourth =
      let e : slice_index third.view.registers 2 ≡ slice_index v.registers 9 = third.holds.1 2 (λ q. omega (arith, q))
      ∙ second.holds.1 2 (λ q. omega (arith, q)) ∙ first.holds in
      let place : v.place + 1 + 1 + 1 ≡ v.place + 3 = omega arith in
      set_more s v 3 (2 ∷ 6 ∷ 7 ∷ 9 ∷ []) v.memory _ (OpImm Addi 2 2 16) 1 (slice_index v.registers 9 + 16) third (inl refl)
      (sets_as s third.view (OpImm Addi 2 2 16) 2 _ (slice_index v.registers 9 + 16)
      (ap (add_word (slice_index third.view.registers 2)) (low_12 16 (omega arith))
      ∙ up (slice_index third.view.registers 2) 16 (slice_index v.registers 9 + 16) (omega (arith, e)) (omega (arith, high)))
      (sets_imm s third.view Addi 2 2 16))
      (subst (λ q. IsInstructionAt s q (OpImm Addi 2 2 16)) place code.1.1.1.0) (inr (omega (arith, low))) (omega arith) (omega (arith, high))

  abbrev pub raised_at : View
  raised_at = at_place ((memory_word v.memory (slice_index v.registers 9) - 0x10000) / 4) fourth.view

  pub raise_leads : ReachesView s 5 v raised_at
  raise_leads =
      let t : slice_index fourth.view.registers 6 ≡ memory_word v.memory (slice_index v.registers 9) = fourth.holds.1 6 (λ q. omega (arith, q))
      ∙ third.holds.1 6 (λ q. omega (arith, q)) ∙ second.holds.0 in
      let place : v.place + 1 + 1 + 1 + 1 ≡ v.place + 4 = omega arith in
      jalr_then s v 4 (2 ∷ 6 ∷ 7 ∷ 9 ∷ []) v.memory _ fourth 6 ((memory_word v.memory (slice_index v.registers 9) - 0x10000) / 4)
      (subst (λ q. IsInstructionAt s q (Jalr 0 6 0)) place code.1.1.1.1.0)
      (t ∙ sym (back_place (memory_word v.memory (slice_index v.registers 9)) is)) (back_near (memory_word v.memory (slice_index v.registers 9)) is)

  pub raise_differs : Differs (2 ∷ 6 ∷ 7 ∷ 9 ∷ []) v.memory v raised_at
  raise_differs = past_differs 4 (2 ∷ 6 ∷ 7 ∷ 9 ∷ []) v.memory v fourth.view ((memory_word v.memory (slice_index v.registers 9) - 0x10000) / 4) fourth.past

  pub raise_high : slice_index raised_at.registers 2 ≡ slice_index v.registers 9 + 16
  raise_high = fourth.holds.0

  pub raise_points : slice_index raised_at.registers 9 ≡ memory_word v.memory (slice_index v.registers 9 + 8)
  raise_points = fourth.holds.1 9 (λ q. omega (arith, q)) ∙ third.holds.0

  pub raise_value : slice_index raised_at.registers 10 ≡ slice_index v.registers 10
  raise_value = raise_differs.others 10 (λ i. ⊎_elim (λ q. omega (arith, q))
      (λ j. ⊎_elim (λ q. omega (arith, q)) (λ k. ⊎_elim (λ q. omega (arith, q)) (λ l. ⊎_elim (λ q. omega (arith, q)) (λ f. f) l) k) j) i)

  pub raise_place : code_start + 4 * raised_at.place ≡ memory_word v.memory (slice_index v.registers 9)
  raise_place = back_place (memory_word v.memory (slice_index v.registers 9)) is
