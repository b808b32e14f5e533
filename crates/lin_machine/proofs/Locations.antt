-- A location is read into a register, and a value in a register is kept in a location.
use Rattle.std.proofs.Common.{◌≡◌, ◌≢◌, ℕ, suc, ◌+◌, ◌*◌, ◌%◌, ◌^◌, ◌<◌, List, [], ◌∷◌, length, Option, Some, None, slice_index, ap, arith, ◌∙◌, sym, subst, ⊎_elim}
use Rattle.std.specs.List.{AllByRecursion}
use Rattle.bs_words.specs.declared.types.Loc.{Loc}
use Rattle.bs_words.specs.declared.types.Loc.TheVariants as loc
use Rattle.bs_words.specs.declared.values.Value.{Value}
use Rattle.mach_ir.specs.Acts.{Around}
use Rattle.rv_isa.specs.declared.instr.AluOp.TheVariants.{Add}
use Rattle.rv_isa.specs.declared.instr.Instr.TheVariants.{Load, Lui, Op, Store}
use Rattle.rv_isa.specs.declared.instr.LoadWidth.TheVariants.{Ld}
use Rattle.rv_isa.specs.declared.instr.StoreWidth.TheVariants.{Sd}
use Rattle.rv_machine.specs.Hart.{Placed}
use Rattle.rv_machine.specs.Memory.{Region, write}
use Rattle.rv_machine.specs.Sound.{IsRegion}
use Rattle.moving_laws.specs.Stands.{AmongNumbers}
use Rattle.moving_laws.specs.Words.{IsReadable}
use Rattle.lin_machine.specs.Files.{IsPut}
use Rattle.lin_machine.specs.Relation.{AreCarried, Below, IsLocationRegister, Laid, StandsFor, Within, blocks_by_serial}
use Rattle.lin_machine.specs.Straight.{Changes, IsPast}
use Rattle.lin_machine.specs.View.{Fixed, View, HasCode}
use Rattle.lin_machine.proofs.Sequences.{then_here, widened}
use Rattle.lin_machine.proofs.Slots.{IsStackWord, above_12, load_far, load_near, store_far, store_near}
use Rattle.lin_machine.proofs.Spilling.{slot_in, within_spilled}
use Rattle.lin_machine.proofs.Standing.{AreScratch}

module _ (s : Fixed) (laid : Laid) (v : View) (young : List Placed) (taken : ℕ) (file : Loc → Option Value) (a : Around) (c : Below)
    (within : Within s laid v young taken file a c) where
  abbrev placed : List Placed
  placed = blocks_by_serial v young

  -- where slot k lies, from sp on
  abbrev offset : ℕ → ℕ
  offset k = 8 * k + 16 * length a.tries

  -- ---- reads

  pub read_register : (r : ℕ) (x : Value) → a.raised ≡ None → file (loc.Machine r) ≡ Some x → IsLocationRegister r × StandsFor s (blocks_by_serial v young)
      (slice_index v.registers r) x
  read_register r x none h = (subst (λ o. AreCarried s placed v.registers file o) none within.carried) r x h

  pub slot_word : (k : ℕ) → k < laid.slots → IsStackWord v (8 * k + 16 * length a.tries)
  slot_word k i =
      let there = slot_in s laid v young taken file a c within k i in
      let hi = there.high in
      let lo = there.low in
      let top = within.waits.high in
      let base = s.stack.low in
      record { high = omega (arith, hi, top); low = omega (arith, lo, base); readable = there.readable }

  module _ (k : ℕ) (x : Value) (h : file (loc.Slot k) ≡ Some x) (r : ℕ) (fits : suc r < 32) (other : suc r ≢ 2) where
    pub read_near : 8 * k + 16 * length a.tries < 2048 → HasCode s v.place (Load Ld (suc r) 2 ((8 * k + 16 * length a.tries) % 4096) ∷ []) →
        Changes s v 1 (suc r ∷ []) v.memory (λ w. StandsFor s (blocks_by_serial v young) (slice_index w.registers (suc r)) x)
    read_near small code =
        let held = within.slots k x h in
        widened s v 1 (suc r ∷ []) (suc r ∷ []) v.memory _ _ (λ q i. i)
        (λ w past e. subst (λ z. StandsFor s placed z x) (sym e) held.1)
        (load_near s v within.own.are (offset k) (slot_word k held.0) r fits other small code)

    -- through the register itself or another scratch register
    pub read_far : (y : ℕ) → suc y < 32 → suc y ≢ 2 → 8 * k + 16 * length a.tries < 2 ^ 30 →
        HasCode s v.place
        (Lui (suc y) (above_12 (8 * k + 16 * length a.tries) % 2 ^ 20) ∷ Op Add (suc y) (suc y) 2 ∷ Load Ld (suc r) (suc y)
        ((8 * k + 16 * length a.tries) % 4096) ∷ []) →
        Changes s v 3 (suc r ∷ suc y ∷ []) v.memory (λ w. StandsFor s (blocks_by_serial v young) (slice_index w.registers (suc r)) x)
    read_far y y_fits no_sp small code =
        let held = within.slots k x h in
        widened s v 3 (suc r ∷ suc y ∷ []) (suc r ∷ suc y ∷ []) v.memory _ _ (λ q i. i)
        (λ w past e. subst (λ z. StandsFor s placed z x) (sym e) held.1)
        (load_far s v within.own.are (offset k) (slot_word k held.0) y y_fits no_sp small r fits other code)

  -- ---- writes

  module _ (n : ℕ) (rs : List ℕ) (x : Value) (file' : Loc → Option Value) where
    module _ (r k : ℕ) (r_kept : suc r ≢ 7) (i : k < laid.slots) (scratch : AreScratch rs) (put : IsPut (loc.Slot k) x file file')
        (first : Changes s v n rs v.memory (λ w. StandsFor s (blocks_by_serial v young) (slice_index w.registers (suc r)) x)) where
      at : ℕ
      at = slice_index v.registers 2 + offset k

      sp_past : (w : View) → IsPast n rs v.memory v w → slice_index w.registers 2 ≡ slice_index v.registers 2
      sp_past w past = past.others 2 (λ i. ⊎_elim (λ e. omega (arith, e)) (λ e. omega (arith, e)) (scratch 2 i))

      -- the slot's place is found from there as well
      word_past : (w : View) → IsPast n rs v.memory v w → IsStackWord w (8 * k + 16 * length a.tries)
      word_past w past =
          let there = slot_word k i in
          let e = sp_past w past in
          let high = there.high in
          let low = there.low in
          record {
            high = omega (arith, e, high);
            low = omega (arith, e, low);
            readable = subst (λ m. IsReadable m (slice_index w.registers 2 + offset k)) (sym past.memory)
                (subst (λ p. IsReadable v.memory (p + offset k)) (sym e) there.readable);
          }

      memory_past : (w : View) (value : ℕ) → IsPast n rs v.memory v w →
          write w.memory (slice_index w.registers 2 + offset k) value ≡ write v.memory (slice_index v.registers 2 + offset k) value
      memory_past w value past = ap (λ m. write m (slice_index w.registers 2 + offset k) value) past.memory ∙ ap (λ p. write v.memory (p + offset k) value)
          (sp_past w past)

      spilled :
          (k' : ℕ) (rs' : List ℕ) → AreScratch rs' → (u w : View) → IsPast n rs v.memory v u → StandsFor s placed (slice_index u.registers (suc r)) x →
          IsPast (n + k') rs' (write v.memory (slice_index v.registers 2 + offset k) (slice_index u.registers (suc r))) v w →
          Within s laid w young taken file' a c
      spilled k' rs' scratch' u w pu stands pw =
          within_spilled s laid v young taken file a c within w (n + k') rs' k (slice_index u.registers (suc r)) x file' pw scratch' i (pu.are.words
          (suc r)) stands put

      value : ℕ
      value = slice_index first.view.registers (suc r)

      abbrev kept_memory : List Region
      kept_memory = write v.memory (slice_index v.registers 2 + offset k) (slice_index first.view.registers (suc r))

      regions_past : (w : View) → IsPast n rs v.memory v w → AllByRecursion IsRegion w.memory
      regions_past w past = subst (λ m. AllByRecursion IsRegion m) (sym past.memory) within.usable.regions.each

      pub put_near : 8 * k + 16 * length a.tries < 2048 → HasCode s (v.place + n) (Store Sd 2 (suc r) ((8 * k + 16 * length a.tries) % 4096) ∷ []) →
          Changes s v (n + 1) rs (write v.memory (slice_index v.registers 2 + (8 * k + 16 * length a.tries)) (slice_index first.view.registers (suc r)))
          (λ w. Within s laid w young taken file' a c)
      put_near small code =
          let u = first.view in
          let second : Changes s u 1 rs kept_memory (λ w. Unit {0}) =
          subst (λ m. Changes s u 1 rs m (λ w. Unit {0})) (memory_past u (slice_index u.registers (suc r)) first.past)
          (widened s u 1 [] rs (write u.memory (slice_index u.registers 2 + offset k) (slice_index u.registers (suc r))) (λ w. w.registers ≡ u.registers)
          (λ w. Unit {0})
          (λ q i. absurd i) (λ w p e. tt)
          (store_near s u first.past.are (offset k) (word_past u first.past) (suc r) (regions_past u first.past) small
          (subst (λ p. HasCode s p (Store Sd 2 (suc r) (offset k % 4096) ∷ [])) (sym first.past.place) code))) in
          widened s v (n + 1) rs rs kept_memory (λ w. Unit {0}) (λ w. Within s laid w young taken file' a c) (λ q i. i)
          (λ w past e. spilled 1 rs scratch u w first.past first.holds past)
          (then_here s v n 1 rs v.memory kept_memory (λ w. StandsFor s placed (slice_index w.registers (suc r)) x) (λ w. Unit {0}) first second)

      -- through t2
      pub put_far : AmongNumbers 7 rs → 8 * k + 16 * length a.tries < 2 ^ 30 →
          HasCode s (v.place + n)
          (Lui 7 (above_12 (8 * k + 16 * length a.tries) % 2 ^ 20) ∷ Op Add 7 7 2 ∷ Store Sd 7 (suc r) ((8 * k + 16 * length a.tries) % 4096) ∷ []) →
          Changes s v (n + 3) rs (write v.memory (slice_index v.registers 2 + (8 * k + 16 * length a.tries)) (slice_index first.view.registers (suc r)))
          (λ w. Within s laid w young taken file' a c)
      put_far among small code =
          let u = first.view in
          let second : Changes s u 3 rs kept_memory (λ w. Unit {0}) =
          subst (λ m. Changes s u 3 rs m (λ w. Unit {0})) (memory_past u (slice_index u.registers (suc r)) first.past)
          (widened s u 3 (7 ∷ []) rs (write u.memory (slice_index u.registers 2 + offset k) (slice_index u.registers (suc r))) (λ w. Unit {0}) (λ w. Unit {0})
          (λ q i. ⊎_elim (λ e. subst (λ z. AmongNumbers z rs) (sym e) among) (λ f. absurd f) i) (λ w p e. tt)
          (store_far s u first.past.are (offset k) (word_past u first.past) 6 (omega arith)
          (λ e. omega (arith, e)) small (suc r) r_kept (regions_past u first.past)
          (subst (λ p. HasCode s p (Lui 7 (above_12 (offset k) % 2 ^ 20) ∷ Op Add 7 7 2 ∷ Store Sd 7 (suc r) (offset k % 4096) ∷ []))
          (sym first.past.place) code))) in
          widened s v (n + 3) rs rs kept_memory (λ w. Unit {0}) (λ w. Within s laid w young taken file' a c) (λ q i. i)
          (λ w past e. spilled 3 rs scratch u w first.past first.holds past)
          (then_here s v n 3 rs v.memory kept_memory (λ w. StandsFor s placed (slice_index w.registers (suc r)) x) (λ w. Unit {0}) first second)
