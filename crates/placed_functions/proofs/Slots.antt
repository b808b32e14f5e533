-- A function that keeps one without slots has slots only for origins that are open there.
use Rattle.std.proofs.Common.{◌≡◌, ◌≢◌, ℕ, inr, ⊎_elim, List, sym, ◌∙◌, subst}
use Rattle.std.specs.Prelude.{Contains}
use Rattle.bs_words.specs.declared.types.Loc.TheVariants as loc
use Rattle.mach_ir.specs.Keeps.{Keeps, IsLoose, is_open, is_slot}
use Rattle.mach_ir.specs.Sizes.{OpenAtMost}
use Rattle.mach_ir.specs.Walks.{IsRegister}
use Rattle.mach_ir.specs.declared.mach.Mach.{Mach}
use Rattle.mach_ir.specs.declared.reg.Reg.{Reg}
use Rattle.colouring_rules.specs.Places.{SlotsGrow}

module _ {p q : Mach} (keeps : Keeps p q) (no_slot : (r : Reg) → IsRegister p r → (slot : ℕ) → r.loc ≢ loc.Slot slot)
    (origins : (r : Reg) → IsRegister p r → r.origin ≡ r.number) where
  opened : (numbers : List ℕ) → ((r : Reg) → IsRegister p r → r.loc ≡ loc.Unset → Contains numbers r.number) → (x : Reg) → IsRegister p x → IsLoose x →
      Contains numbers x.number
  opened numbers all x among (is_open u) = all x among u
  opened numbers all x among (is_slot {k = k} s) = absurd (no_slot x among k s)

  pub slots_of_open : (k : ℕ) → OpenAtMost p k → SlotsGrow p q k
  slots_of_open k open_ones =
      record {
        others = open_ones.numbers;
        few = open_ones.few;
        all = λ slot s.
            ⊎_elim (λ h. absurd (no_slot h.register h.among slot h.stands))
            (λ same.
            let o = keeps.origins s.register s.among (is_slot s.stands) in
            let c : Contains open_ones.numbers (o.register).number = opened open_ones.numbers open_ones.all o.register o.among o.loose in
            inr (subst (Contains open_ones.numbers) (sym (origins o.register o.among) ∙ o.same ∙ sym same) c))
            (keeps.slots s.register slot s.among s.stands);
      }
