-- The places that one choice leaves.
use Rattle.std.proofs.Common.{◌≡◌, ℕ, cond, nat_eq, List, ap, ◌∙◌}
use Rattle.bs_words.specs.declared.types.Loc.{Loc}
use Rattle.bs_words.specs.declared.types.Loc.TheVariants as loc
use Rattle.colouring.specs.Chosen.{colouring_with}
use Rattle.colouring.specs.Tables.{places_by}
use Rattle.linscan.specs.Held.{places_left}
use Rattle.linscan.specs.declared.choice.Choice.TheVariants as choice
use Rattle.linscan.specs.declared.choice.Holder.{Holder}
use Rattle.linscan.specs.declared.order.OpenRegister.{OpenRegister}

-- one goes to its slot, and then another gets its colour
pub both_put : (old now new : List Loc) (x : OpenRegister) (h : Holder) →
    ((n : ℕ) → places_by now n ≡ colouring_with (places_by old) h.register.number (loc.Slot h.register.origin) n) →
    ((n : ℕ) → places_by new n ≡ colouring_with (places_by now) x.number (loc.Machine h.colour) n) →
    (n : ℕ) → places_by new n ≡ places_left (places_by old) x (choice.Taken h) n
both_put old now new x h one two n = two n ∙ ap (λ (l : Loc). cond (nat_eq n x.number) (loc.Machine h.colour) l) (one n)
