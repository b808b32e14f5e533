-- The two answers of reloading, as its relation says them.
use Rattle.std.proofs.Common.{◌≡◌, ℕ, ◌<◌, ◌≤◌, Bool, true, false, List, [], ◌∷◌, refl, sym, ap, ◌∙◌, subst}
use Rattle.mach_ir.specs.Placed.{Colouring}
use Rattle.mach_ir.specs.Walks.{IsRegister}
use Rattle.mach_ir.specs.declared.reg.Reg.{Reg}
use Rattle.mach_ir.specs.declared.mach.Instr.{Instr}
use Rattle.mach_ir.specs.declared.mach.Mach.{Mach}
use Rattle.colouring_rules.specs.Places.{LocationAssignment, located_register, all_placed, placed_instr, placed_code, with_places, with_colouring}
use Rattle.reload_rules.specs.Reloaded.{any_needs, reloaded_code, reloaded, to_slots, in_slots, IsReloadedBy, is_coloured, asks_again}

module _ (place : Colouring) (first : LocationAssignment) where
  regs_twice : (rs : List Reg) → all_placed (λ (r : Reg). place r.number) (all_placed first rs) ≡ all_placed (λ (r : Reg). place r.number) rs
  regs_twice [] = refl
  regs_twice (r ∷ rs) = ap (λ xs. located_register (λ (r : Reg). place r.number) r ∷ xs) (regs_twice rs)

  code_twice : (code : List Instr) →
      placed_code (λ (r : Reg). place r.number) (placed_code first code) ≡ placed_code (λ (r : Reg). place r.number) code
  code_twice [] = refl
  code_twice (i ∷ is) =
      ap
      (λ rs. record i { args = rs; results = all_placed (λ (r : Reg). place r.number) (all_placed first i.results) }
      ∷ placed_code (λ (r : Reg). place r.number) (placed_code first is))
      (regs_twice i.args)
      ∙ ap
      (λ rs. record i { args = all_placed (λ (r : Reg). place r.number) i.args; results = rs }
      ∷ placed_code (λ (r : Reg). place r.number) (placed_code first is))
      (regs_twice i.results)
      ∙ ap (λ xs. placed_instr (λ (r : Reg). place r.number) i ∷ xs) (code_twice is)

  coloured_twice : (m : Mach) → with_colouring place (with_places first m) ≡ with_colouring place m
  coloured_twice m =
      ap
      (λ rs. record m {
        params = rs;
        colours = all_placed (λ (r : Reg). place r.number) (all_placed first m.colours);
        code = placed_code (λ (r : Reg). place r.number) (placed_code first m.code);
      })
      (regs_twice m.params)
      ∙ ap
      (λ rs. record m {
        params = all_placed (λ (r : Reg). place r.number) m.params;
        colours = rs;
        code = placed_code (λ (r : Reg). place r.number) (placed_code first m.code);
      })
      (regs_twice m.colours)
      ∙ ap
      (λ xs. record m {
        params = all_placed (λ (r : Reg). place r.number) m.params;
        colours = all_placed (λ (r : Reg). place r.number) m.colours;
        code = xs;
      })
      (code_twice m.code)

pub answers_coloured : (m slotted coloured : Mach) (place : Colouring) (needs : Bool) → slotted ≡ in_slots place m →
    needs ≡ any_needs slotted.code → needs ≡ false → coloured ≡ with_colouring place slotted → IsReloadedBy m place coloured false
answers_coloured m slotted coloured place needs is count none e =
    subst (λ q. IsReloadedBy m place q false)
    (sym (e ∙ ap (with_colouring place) is ∙ coloured_twice place (to_slots place) m))
    (is_coloured (sym (ap (λ (x : Mach). any_needs x.code) is) ∙ sym count ∙ none))

pub answers_reloaded : (m slotted : Mach) (place : Colouring) (needs : Bool) (free : ℕ) (code : List Instr) → slotted ≡ in_slots place m →
    needs ≡ any_needs slotted.code → needs ≡ true → ((r : Reg) → IsRegister m r → r.number < free) →
    ((b : ℕ) → ((r : Reg) → IsRegister m r → r.number < b) → free ≤ b) → code ≡ reloaded_code free slotted.code →
    IsReloadedBy m place (record slotted { code = code }) true
answers_reloaded m slotted place needs free code is count some above least e =
    subst (λ q. IsReloadedBy m place q true)
    (ap (reloaded free) (sym is) ∙ sym (ap (λ xs. record slotted { code = xs }) e))
    (asks_again (sym (ap (λ (x : Mach). any_needs x.code) is) ∙ sym count ∙ some) (record { above = above; least = least }))
