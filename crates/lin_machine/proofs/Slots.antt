-- Words of the stack are loaded and stored, near sp and far from it.
use Rattle.std.proofs.Common.{◌≡◌, ◌≢◌, ℕ, zero, suc, ◌+◌, ◌*◌, ◌/◌, ◌%◌, ◌^◌, ◌<◌, ◌≤◌, inl, inr, [], ◌∷◌, slice_index, refl, ap, ap₂, arith, ◌∙◌, sym, subst, ⊎_elim}
use Rattle.std.specs.List.{AllByRecursion}
use Rattle.bs_words.specs.Word.{add_word}
use Rattle.bs_words.proofs.Below.{add_word-below, sext_word-below}
use Rattle.rv_isa.specs.declared.instr.AluOp.TheVariants.{Add}
use Rattle.rv_isa.specs.declared.instr.Instr.TheVariants.{Load, Lui, Op, Store}
use Rattle.rv_isa.specs.declared.instr.LoadWidth.TheVariants.{Ld}
use Rattle.rv_isa.specs.declared.instr.StoreWidth.TheVariants.{Sd}
use Rattle.rv_machine.specs.Arithmetic.{imm_i, imm_u}
use Rattle.rv_machine.specs.Memory.{memory_word, write}
use Rattle.rv_machine.specs.Sound.{AreRegisters, IsRegion}
use Rattle.machine_laws.proofs.Memory.{word_below}
use Rattle.moving_laws.specs.Stands.{AmongNumbers}
use Rattle.moving_laws.specs.Words.{IsReadable}
use Rattle.lin_machine.specs.Straight.{Changes, IsPast}
use Rattle.lin_machine.specs.View.{Fixed, View, HasCode, IsInstructionAt}
use Rattle.lin_machine.proofs.Formats.{sets_load, sets_lui, sets_op}
use Rattle.machine_laws.proofs.Immediates.{Extended, by_12, by_20, low_12, up}
use Rattle.lin_machine.proofs.Sequences.{code_past, set_changes, set_then, sets_as, store_changes, then_changes, widened}
use Rattle.lin_machine.proofs.Steps.{SetsRegister, reg}

-- the upper 20 of 32 bits, rounded
abbrev pub above_12 : ℕ → ℕ
above_12 w = w / 4096 + w / 2048 % 2

far_by :
    (offset at h l hi lo : ℕ) → offset < 2 ^ 30 → at + offset < 2 ^ 64 → h ≡ above_12 offset % 2 ^ 20 → l ≡ offset % 4096 →
    Extended (2 ^ 31) (4096 * h) hi → Extended 2048 l lo → ((hi + at) % 2 ^ 64 + lo) % 2 ^ 64 ≡ at + offset
far_by offset at h l hi lo small fits eh el (inl a) (inl b) = let a0 = a.0 in let a1 = a.1 in let b0 = b.0 in let b1 = b.1 in omega (arith, a0, a1, b0, b1)
far_by offset at h l hi lo small fits eh el (inl a) (inr b) = let a0 = a.0 in let a1 = a.1 in let b0 = b.0 in let b1 = b.1 in omega (arith, a0, a1, b0, b1)
far_by offset at h l hi lo small fits eh el (inr a) b = let a0 = a.0 in absurd (omega (arith, a0, eh, small))

pub far_sum : (offset at : ℕ) → offset < 2 ^ 30 → at + offset < 2 ^ 64 →
    add_word (add_word (imm_u (above_12 offset % 2 ^ 20)) at) (imm_i (offset % 4096)) ≡ at + offset
unfolding add_word
far_sum offset at small fits =
    let h : ℕ = above_12 offset % 2 ^ 20 in
    far_by offset at h (offset % 4096) (imm_u h) (imm_i (offset % 4096)) small fits refl refl (by_20 h (omega arith)) (by_12 (offset % 4096) (omega arith))

near_sum : (offset at : ℕ) → offset < 2048 → at + offset < 2 ^ 64 → add_word at (imm_i (offset % 4096)) ≡ at + offset
near_sum offset at small fits =
    let e : offset % 4096 ≡ offset = omega (arith, small) in
    ap (add_word at) (ap imm_i e ∙ low_12 offset small) ∙ up at offset (at + offset) refl fits

-- a word of the stack
pub record IsStackWord (v : View) (offset : ℕ) : Type 0 where
  pub high : slice_index v.registers 2 + offset < 2 ^ 64
  pub low : 0x30000000 ≤ slice_index v.registers 2 + offset
  pub readable : IsReadable v.memory (slice_index v.registers 2 + offset)

module _ (s : Fixed) (v : View) (are : AreRegisters v.registers) (offset : ℕ) (there : IsStackWord v offset) where
  -- ---- near

  pub load_near : (r : ℕ) → suc r < 32 → suc r ≢ 2 → offset < 2048 → HasCode s v.place (Load Ld (suc r) 2 (offset % 4096) ∷ []) →
      Changes s v 1 (suc r ∷ []) v.memory (λ w. slice_index w.registers (suc r) ≡ memory_word v.memory (slice_index v.registers 2 + offset))
  load_near r fits other small code =
      let high = there.high in
      let low = there.low in
      set_changes s v (Load Ld (suc r) 2 (offset % 4096)) r (memory_word v.memory (slice_index v.registers 2 + offset)) code.0 (inl other)
      (sets_load s v (suc r) 2 (offset % 4096) (slice_index v.registers 2 + offset) (near_sum offset (slice_index v.registers 2) small high)
      (λ e. omega (arith, e, low)) (omega (arith, low)) there.readable)
      are fits (word_below v.memory (slice_index v.registers 2 + offset))

  pub store_near : (r : ℕ) → AllByRecursion IsRegion v.memory → offset < 2048 → HasCode s v.place (Store Sd 2 r (offset % 4096) ∷ []) →
      Changes s v 1 [] (write v.memory (slice_index v.registers 2 + offset) (reg v.registers r)) (λ w. w.registers ≡ v.registers)
  store_near r regions small code =
      store_changes s v 2 r (offset % 4096)
      (slice_index v.registers 2 + offset) code.0 (near_sum offset (slice_index v.registers 2) small there.high)
      (let low = there.low in λ q. omega (arith, q, low)) regions there.readable are

  -- ---- far: a scratch register has the upper bits and sp

  abbrev base : ℕ
  base = add_word (imm_u (above_12 offset % 2 ^ 20)) (slice_index v.registers 2)

  off_sp : (x : ℕ) → suc x ≢ 2 → AmongNumbers 2 (suc x ∷ []) → ⊥
  off_sp x other (inl e) = other (sym e)
  off_sp x other (inr e) = e

  far_base : (x : ℕ) → suc x < 32 → suc x ≢ 2 →
      HasCode s v.place (Lui (suc x) (above_12 offset % 2 ^ 20) ∷ Op Add (suc x) (suc x) 2 ∷ []) →
      Changes s v 2 (suc x ∷ []) v.memory (λ w. slice_index w.registers (suc x) ≡ base)
  far_base x fits other code =
      set_then s v 1 (suc x ∷ []) v.memory (λ w. slice_index w.registers (suc x) ≡ imm_u (above_12 offset % 2 ^ 20)) (Op Add (suc x) (suc x) 2) x base
      (set_changes s v (Lui (suc x) (above_12 offset % 2 ^ 20)) x (imm_u (above_12 offset % 2 ^ 20)) code.0 (inl other)
      (sets_lui s v (suc x) (above_12 offset % 2 ^ 20)) are fits (sext_word-below _ 32))
      (inl refl)
      (λ w past e. sets_as s w (Op Add (suc x) (suc x) 2) (suc x) _ base (ap₂ add_word e (past.others 2 (off_sp x other))) (sets_op s w Add (suc x) (suc x) 2))
      code.1.0 (inl other) fits (add_word-below _ _)

  module _ (x : ℕ) (x_fits : suc x < 32) (no_sp : suc x ≢ 2) (small : offset < 2 ^ 30) where
    pub load_far : (r : ℕ) → suc r < 32 → suc r ≢ 2 →
        HasCode s v.place (Lui (suc x) (above_12 offset % 2 ^ 20) ∷ Op Add (suc x) (suc x) 2 ∷ Load Ld (suc r) (suc x) (offset % 4096) ∷ []) →
        Changes s v 3 (suc r ∷ suc x ∷ []) v.memory (λ w. slice_index w.registers (suc r) ≡ memory_word v.memory (slice_index v.registers 2 + offset))
    load_far r fits other code =
        let high = there.high in
        let low = there.low in
        set_then s v 2 (suc r ∷ suc x ∷ []) v.memory (λ w. slice_index w.registers (suc x) ≡ base) (Load Ld (suc r) (suc x) (offset % 4096)) r
        (memory_word v.memory (slice_index v.registers 2 + offset))
        (widened s v 2 (suc x ∷ []) (suc r ∷ suc x ∷ []) v.memory (λ w. slice_index w.registers (suc x) ≡ base) (λ w. slice_index w.registers (suc x) ≡ base)
        (λ q i. inr i) (λ w p e. e) (far_base x x_fits no_sp (code.0, (code.1.0, tt))))
        (inl refl)
        (λ w past e.
        let sum : add_word (slice_index w.registers (suc x)) (imm_i (offset % 4096)) ≡ slice_index v.registers 2 + offset =
        ap (λ z. add_word z (imm_i (offset % 4096))) e ∙ far_sum offset (slice_index v.registers 2) small high in
        subst (λ m. SetsRegister s w (Load Ld (suc r) (suc x) (offset % 4096)) (suc r) (memory_word m (slice_index v.registers 2 + offset))) past.memory
        (sets_load s w (suc r) (suc x) (offset % 4096) (slice_index v.registers 2 + offset) sum (λ q. omega (arith, q, low)) (omega (arith, low))
        (subst (λ m. IsReadable m (slice_index v.registers 2 + offset)) (sym past.memory) there.readable)))
        (let e : v.place + 1 + 1 ≡ v.place + 2 = omega arith in subst (λ q. IsInstructionAt s q (Load Ld (suc r) (suc x) (offset % 4096))) e code.1.1.0)
        (inl other) fits (word_below v.memory (slice_index v.registers 2 + offset))

    pub store_far : (r : ℕ) → r ≢ suc x → AllByRecursion IsRegion v.memory →
        HasCode s v.place (Lui (suc x) (above_12 offset % 2 ^ 20) ∷ Op Add (suc x) (suc x) 2 ∷ Store Sd (suc x) r (offset % 4096) ∷ []) →
        Changes s v 3 (suc x ∷ []) (write v.memory (slice_index v.registers 2 + offset) (reg v.registers r)) (λ w. Unit {0})
    store_far r apart regions code =
        then_changes s v 2 1 (suc x ∷ []) v.memory (write v.memory (slice_index v.registers 2 + offset) (reg v.registers r))
        (λ w. slice_index w.registers (suc x) ≡ base)
        (λ w. Unit {0}) (far_base x x_fits no_sp (code.0, (code.1.0, tt)))
        (λ w past e.
        let sum : add_word (slice_index w.registers (suc x)) (imm_i (offset % 4096)) ≡ slice_index v.registers 2 + offset =
        ap (λ z. add_word z (imm_i (offset % 4096))) e ∙ far_sum offset (slice_index v.registers 2) small there.high in
        let place : v.place + 1 + 1 ≡ v.place + 2 = omega arith in
        let same : reg w.registers r ≡ reg v.registers r = kept r w apart past in
        subst (λ m. Changes s w 1 (suc x ∷ []) (write m (slice_index v.registers 2 + offset) (reg v.registers r)) (λ u. Unit {0})) past.memory
        (subst (λ z. Changes s w 1 (suc x ∷ []) (write w.memory (slice_index v.registers 2 + offset) z) (λ u. Unit {0})) same
        (widened s w 1 [] (suc x ∷ []) (write w.memory (slice_index v.registers 2 + offset) (reg w.registers r)) (λ u. u.registers ≡ w.registers)
        (λ u. Unit {0})
        (λ q i. absurd i) (λ u p f. tt)
        (store_changes s w (suc x) r (offset % 4096) (slice_index v.registers 2 + offset)
        (code_past s 2 (suc x ∷ []) v.memory v w (Store Sd (suc x) r (offset % 4096)) past (subst (λ q. IsInstructionAt s q (Store Sd (suc x) r
        (offset % 4096))) place code.1.1.0))
        sum (let low = there.low in λ q. omega (arith, q, low)) (subst (λ m. AllByRecursion IsRegion m) (sym past.memory) regions)
        (subst (λ m. IsReadable m (slice_index v.registers 2 + offset)) (sym past.memory) there.readable) past.are))))
      where
        kept : (r : ℕ) (w : View) → r ≢ suc x → IsPast 2 (suc x ∷ []) v.memory v w → reg w.registers r ≡ reg v.registers r
        kept zero w n past = refl
        kept (suc q) w n past = past.others (suc q) (λ i. ⊎_elim (λ e. n e) (λ f. f) i)
