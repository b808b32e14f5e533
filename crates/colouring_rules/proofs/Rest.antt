-- The last resort: each register whose place is open goes to the slot of its origin. What holds of a function still does.
use Rattle.std.proofs.Common.{◌≡◌, ℕ, ◌⊎◌, inl, inr, ⊎_elim, refl, sym, ap, ◌∙◌}
use Rattle.bs_words.specs.declared.types.Loc.{Loc}
use Rattle.bs_words.specs.declared.types.Loc.TheVariants as loc
use Rattle.mach_ir.specs.Formed.{WellFormed}
use Rattle.mach_ir.specs.Placed.{HasColourOrSlot, in_colour, in_slot, MayShare, WellPlaced, FullyPlaced}
use Rattle.mach_ir.specs.Sizes.{Size, HasSize, OpenAtMost}
use Rattle.mach_ir.specs.Walks.{IsRegister, Joined}
use Rattle.mach_ir.specs.declared.reg.Reg.{Reg}
use Rattle.mach_ir.specs.declared.mach.Mach.{Mach}
use Rattle.colouring_rules.specs.Places.{IsProperAssignment, located_register, or_slot, last_resort, rest_in_slots, SlotsGrow}
use Rattle.colouring_rules.proofs.Text.{placed_formed}
use Rattle.colouring_rules.proofs.Open.{machine_open, slot_open, machine_slot}
use Rattle.colouring_rules.proofs.Walked.{colour_place}
use Rattle.colouring_rules.proofs.Whole.{placed_keeps, placed_fully, placed_seated, placed_size, placed_slots}
use Rattle.bs_words.proofs.Places.{same_slot}
use Rattle.mach_laws.specs.Passes.{IsPassKept}

-- ---- one register

-- what a register's place was, and what it is
data Rested (r : Reg) : Type 0 where
  was_open : r.loc ≡ loc.Unset → last_resort r ≡ loc.Slot r.origin → Rested r
  was_fixed : (r.loc ≡ loc.Unset → ⊥) → last_resort r ≡ r.loc → Rested r

rested : (r : Reg) → Rested r
rested r = by r.loc refl
  where
    by : (l : Loc) → r.loc ≡ l → Rested r
    by loc.Unset e = was_open e (ap (or_slot r.origin) e)
    by (loc.Machine n) e = was_fixed (λ h. machine_open e h) (ap (or_slot r.origin) e ∙ sym e)
    by (loc.Slot n) e = was_fixed (λ h. slot_open e h) (ap (or_slot r.origin) e ∙ sym e)

-- ---- it is a placing

module _ (m : Mach) (well : WellPlaced m) where
  is_at : (w : Reg) → IsRegister m w → Rested w → HasColourOrSlot (located_register last_resort w)
  is_at w i (was_open o h) = in_slot h
  is_at w i (was_fixed o h) = ⊎_elim (λ e. absurd (o e)) (λ p. by p) ((well.agree).places w i)
    where
      by : HasColourOrSlot w → HasColourOrSlot (located_register last_resort w)
      by (in_colour n c e) = in_colour n c (h ∙ e)
      by (in_slot e) = in_slot (h ∙ e)

  -- where a place is no slot, it is as it was
  same_colour_place : (w : Reg) (n : ℕ) → last_resort w ≡ loc.Machine n → w.loc ≡ loc.Machine n
  same_colour_place w n e = by (rested w)
    where
      by : Rested w → w.loc ≡ loc.Machine n
      by (was_open o h) = absurd (machine_slot e h)
      by (was_fixed o h) = sym h ∙ e

  -- two registers in one slot are of one origin
  rest_apart : (r k : Reg) → IsRegister m r → IsRegister m k → Joined m r.number k.number → last_resort r ≡ last_resort k →
      MayShare (located_register last_resort r) (located_register last_resort k)
  rest_apart r k i j joined e = by (is_at r i (rested r)) (is_at k j (rested k))
    where
      by : HasColourOrSlot (located_register last_resort r) → HasColourOrSlot (located_register last_resort k) →
          MayShare (located_register last_resort r) (located_register last_resort k)
      by (in_slot s) (in_slot t) = (same_slot s (e ∙ t), s)
      by (in_slot s) (in_colour n c t) = absurd (machine_slot t (sym e ∙ s))
      by (in_colour n c s) t =
          let one = same_colour_place r n s in
          let other = same_colour_place k n (sym e ∙ s) in
          let share = (well.agree).apart r k i j joined (λ u. machine_open one u) (one ∙ sym other) in
          absurd (machine_slot one share.1)

  pub rest_placing : IsProperAssignment m last_resort
  rest_placing =
      record {
        fixed = λ r i. by r (rested r);
        places = λ r i. inr (is_at r i (rested r));
        apart = λ r k i j joined open_one e. rest_apart r k i j joined e;
      }
    where
      by : (r : Reg) → Rested r → (r.loc ≡ loc.Unset) ⊎ (last_resort r ≡ r.loc)
      by r (was_open o h) = inl o
      by r (was_fixed o h) = inr h

-- ---- what it keeps

module _ (m : Mach) (formed : WellFormed m) (well : WellPlaced m) where
  -- With the open ones in slots the function does what it did.
  -- Each register has a place, and joined ones are apart.
  pub rest_placed : FullyPlaced (rest_in_slots m)
  rest_placed =
      placed_fully m last_resort formed well (rest_placing m well) (λ r i. is_at m well r i (rested r))
      (λ r k c i e.
      let at = colour_place well r c in
      (well.colours).least r k c i (same_colour_place m well k at.0 (e ∙ at.1) ∙ sym at.1))

  pub rest_pass : IsPassKept m (rest_in_slots m)
  rest_pass =
      record {
        keeps = placed_keeps m last_resort formed well (rest_placing m well);
        formed = placed_formed last_resort m formed;
        placed = λ _. rest_placed.well;
        seated = λ seated. placed_seated m last_resort formed well (rest_placing m well) seated;
      }

  pub rest_size : (s : Size) → HasSize m s → HasSize (rest_in_slots m) s
  rest_size s h = placed_size m last_resort s h

  -- It takes at most as many new slots as there were registers with open places.
  pub rest_slots : (k : ℕ) → OpenAtMost m k → SlotsGrow m (rest_in_slots m) k
  rest_slots k few = placed_slots m formed last_resort (rest_placing m well) k few
