-- Words of the stack are loaded and stored, near sp and far from it.
use Rattle.std.proofs.Common.{◌≡◌, ◌≢◌, ℕ, suc, ◌+◌, ◌%◌, ◌^◌, ◌<◌, Bool, true, false, cond, nat_lt, [], ◌∷◌, ◌++◌, slice_index, refl, arith, subst, ⊎_elim, inl}
use Rattle.std.specs.List.{AllByRecursion}
use Rattle.std.proofs.lemmas.Bool.{ltb-true}
use Rattle.rv_emit_rules.specs.Slots.{far_stack, stack_load, stack_store}
use Rattle.rv_emit_rules.specs.Instructions.{load_piece, store_piece}
use Rattle.rv_layout_rules.specs.Words.{NameAddresses}
use Rattle.rv_isa.specs.Registers.{register_number}
use Rattle.rv_isa.specs.declared.instr.AluOp.TheVariants.{Add}
use Rattle.rv_isa.specs.declared.instr.Instr.TheVariants.{Load, Lui, Op, Store}
use Rattle.rv_isa.specs.declared.instr.LoadWidth.TheVariants.{Ld}
use Rattle.rv_isa.specs.declared.instr.StoreWidth.TheVariants.{Sd}
use Rattle.rv_isa.specs.declared.register.Register.{Register}
use Rattle.rv_isa.specs.declared.register.Register.TheVariants.{Sp}
use Rattle.rv_machine.specs.Memory.{memory_word, write}
use Rattle.rv_machine.specs.Sound.{AreRegisters, IsRegion}
use Rattle.lin_machine.specs.View.{Fixed, View, HasCode}
use Rattle.lin_machine.proofs.Slots.{IsStackWord, above_12, load_far, load_near, store_far, store_near}
use Rattle.line_stands.specs.Parts.{PartStands}
use Rattle.line_stands.proofs.Parts.{known}
use Rattle.line_calls.specs.Reaches.{Reaches}
use Rattle.line_calls.proofs.Reaching.{reaches_as, single}

module _ (s : Fixed) (n : NameAddresses) (v : View) (are : AreRegisters v.registers) (offset : ℕ) (there : IsStackWord v offset) (small : offset < 2 ^ 30) where
  module _ (x t : Register) (kx kt : ℕ) (x_is : register_number x ≡ suc kx) (t_is : register_number t ≡ suc kt) (x_fits : suc kx < 32) (t_fits : suc kt < 32)
      (x_other : suc kx ≢ 2) (t_other : suc kt ≢ 2) where
    load_by : (to : ℕ) (b : Bool) → nat_lt offset 2048 ≡ b →
        PartStands s n v.place to (cond b (load_piece Ld t Sp offset ∷ []) (far_stack x offset ++ load_piece Ld t x offset ∷ [])) →
        Reaches s v to (suc kt ∷ suc kx ∷ []) v.memory (λ w. slice_index w.registers (suc kt) ≡ memory_word v.memory (slice_index v.registers 2 + offset))
    load_by to true e st =
        let c = single s n v.place to (Load Ld (register_number t) 2 (offset % 4096)) st in
        let near = ltb-true offset 2048 e in
        let code = subst (λ q. HasCode s v.place (Load Ld q 2 (offset % 4096) ∷ [])) t_is (c.0, tt) in
        let e = c.1 in
        reaches_as s v to (suc kt ∷ []) (suc kt ∷ suc kx ∷ []) v.memory _ _ (λ q i. ⊎_elim (λ h. inl h) (λ h. absurd h) i) (λ w m p h. h)
        (record { count = 1; lands = omega (arith, e); changes = load_near s v are offset there kt t_fits t_other near code })
    load_by to false e st =
        let a = known s n v.place to (Lui (register_number x) (above_12 offset % 2 ^ 20)) _ st in
        let b = known s n (v.place + 1) to (Op Add (register_number x) (register_number x) 2) _ a.1 in
        let c = single s n (v.place + 1 + 1) to (Load Ld (register_number t) (register_number x) (offset % 4096)) b.1 in
        let code = subst (λ q. HasCode s v.place (Lui (suc kx) (above_12 offset % 2 ^ 20) ∷ Op Add (suc kx) (suc kx) 2 ∷ Load Ld q (suc kx)
        (offset % 4096) ∷ [])) t_is
        (subst (λ q. HasCode s v.place (Lui q (above_12 offset % 2 ^ 20) ∷ Op Add q q 2 ∷ Load Ld (register_number t) q (offset % 4096) ∷ [])) x_is
        (a.0, (b.0, (c.0, tt)))) in
        let e = c.1 in
        record { count = 3; lands = omega (arith, e); changes = load_far s v are offset there kx x_fits x_other small kt t_fits t_other code }

    pub load_reaches : (to : ℕ) → PartStands s n v.place to (stack_load x t offset) →
        Reaches s v to (suc kt ∷ suc kx ∷ []) v.memory (λ w. slice_index w.registers (suc kt) ≡ memory_word v.memory (slice_index v.registers 2 + offset))
    load_reaches to st = load_by to (nat_lt offset 2048) refl st

  module _ (x r : Register) (kx kr : ℕ) (x_is : register_number x ≡ suc kx) (r_is : register_number r ≡ suc kr) (x_fits : suc kx < 32) (x_other : suc kx ≢ 2)
      (apart : suc kr ≢ suc kx) (regions : AllByRecursion IsRegion v.memory) where
    store_by : (to : ℕ) (b : Bool) → nat_lt offset 2048 ≡ b →
        PartStands s n v.place to (cond b (store_piece Sd r Sp offset ∷ []) (far_stack x offset ++ store_piece Sd r x offset ∷ [])) →
        Reaches s v to (suc kx ∷ []) (write v.memory (slice_index v.registers 2 + offset) (slice_index v.registers (suc kr))) (λ w. Unit {0})
    store_by to true e st =
        let c = single s n v.place to (Store Sd 2 (register_number r) (offset % 4096)) st in
        let near = ltb-true offset 2048 e in
        let code = subst (λ q. HasCode s v.place (Store Sd 2 q (offset % 4096) ∷ [])) r_is (c.0, tt) in
        let e = c.1 in
        reaches_as s v to [] (suc kx ∷ []) _ _ _ (λ q i. absurd i) (λ w m p h. tt)
        (record { count = 1; lands = omega (arith, e); changes = store_near s v are offset there (suc kr) regions near code })
    store_by to false e st =
        let a = known s n v.place to (Lui (register_number x) (above_12 offset % 2 ^ 20)) _ st in
        let b = known s n (v.place + 1) to (Op Add (register_number x) (register_number x) 2) _ a.1 in
        let c = single s n (v.place + 1 + 1) to (Store Sd (register_number x) (register_number r) (offset % 4096)) b.1 in
        let code = subst (λ q. HasCode s v.place (Lui (suc kx) (above_12 offset % 2 ^ 20) ∷ Op Add (suc kx) (suc kx) 2 ∷ Store Sd (suc kx) q
        (offset % 4096) ∷ [])) r_is
        (subst (λ q. HasCode s v.place (Lui q (above_12 offset % 2 ^ 20) ∷ Op Add q q 2 ∷ Store Sd q (register_number r) (offset % 4096) ∷ [])) x_is
        (a.0, (b.0, (c.0, tt)))) in
        let e = c.1 in
        record { count = 3; lands = omega (arith, e); changes = store_far s v are offset there kx x_fits x_other small (suc kr) apart regions code }

    pub store_reaches : (to : ℕ) → PartStands s n v.place to (stack_store x r offset) →
        Reaches s v to (suc kx ∷ []) (write v.memory (slice_index v.registers 2 + offset) (slice_index v.registers (suc kr))) (λ w. Unit {0})
    store_reaches to st = store_by to (nat_lt offset 2048) refl st
