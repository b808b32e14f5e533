-- Locations by their kinds.
use Rattle.std.proofs.Common.{◌≡◌, ◌⊎◌, inl, inr, ℕ, ◌<◌}
use Rattle.std.specs.List.{Contains}
use Rattle.bs_words.specs.declared.types.Loc.TheVariants as loc
use Rattle.mach_ir.specs.Placed.{colour_numbers}
use Rattle.lin_ir.specs.Formed.{is_colour, is_slot, IsLocation, is_home, is_spare}
use Rattle.lin_ir.specs.declared.lin.Lin.{Lin}

module _ (m : Lin) where
  pub register_of : (n : ℕ) → IsLocation m (loc.Machine n) → Contains colour_numbers n ⊎ (n ≡ 5)
  register_of n (is_home (is_colour c)) = inl c
  register_of n (is_spare e) = inr (cc)

  pub slot_of : (k : ℕ) → IsLocation m (loc.Slot k) → k < m.slots
  slot_of k (is_home (is_slot lt)) = lt
  slot_of k (is_spare e) = absurd (cc)
