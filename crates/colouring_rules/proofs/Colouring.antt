-- A function that has been coloured: what holds of it still does, and it does what it did.
use Rattle.std.proofs.Common.{◌≡◌, ℕ, ◌≤◌, inr, ⊎_elim, sym, ◌∙◌, arith}
use Rattle.std.specs.List.{Contains}
use Rattle.bs_words.specs.declared.types.Loc.TheVariants as loc
use Rattle.mach_ir.specs.Formed.{WellFormed}
use Rattle.mach_ir.specs.Keeps.{Keeps}
use Rattle.mach_ir.specs.Placed.{Colouring, IsProperColouring, WellPlaced, FullyPlaced}
use Rattle.mach_ir.specs.Seats.{Seated}
use Rattle.mach_ir.specs.Sizes.{Size, HasSize, OpenAtMost}
use Rattle.mach_ir.specs.Walks.{IsRegister, Joined}
use Rattle.mach_ir.specs.declared.reg.Reg.{Reg}
use Rattle.mach_ir.specs.declared.mach.Mach.{Mach}
use Rattle.colouring_rules.specs.Places.{LocationAssignment, IsProperAssignment, ColoursLow, with_colouring, SlotsGrow}
use Rattle.colouring_rules.specs.Rest.{IsRestKept}
use Rattle.colouring_rules.proofs.Text.{placed_formed}
use Rattle.colouring_rules.proofs.Whole.{placed_keeps, placed_fully, placed_seated, placed_size, placed_slots}

module _ (m : Mach) (place : Colouring) (formed : WellFormed m) (well : WellPlaced m)
    (colouring : IsProperColouring (IsRegister m) (Joined m) place) where
  abbrev by_number : LocationAssignment
  by_number = λ r. place r.number

  pub colouring_placing : IsProperAssignment m (λ r. place r.number)
  colouring_placing =
      record {
        fixed = colouring.fixed;
        places = λ r i. inr (colouring.places r i);
        apart = λ r k i j joined open_one e. colouring.apart r k i j joined e;
      }

  pub coloured_keeps : Keeps m (with_colouring place m)
  coloured_keeps = placed_keeps m by_number formed well colouring_placing

  -- Each register has a place, where none is put at a colour whose register has a greater number.
  pub coloured_placed :
      ((r k : Reg) → Contains m.colours r → IsRegister m k → place k.number ≡ r.loc → r.number ≤ k.number) →
      FullyPlaced (with_colouring place m)
  coloured_placed least = placed_fully m by_number formed well colouring_placing colouring.places least

  -- So it is where the registers of the colours have the least numbers.
  pub coloured_placed_after :
      ((r k : Reg) → Contains m.colours r → IsRegister m k → k.loc ≡ loc.Unset → r.number ≤ k.number) →
      FullyPlaced (with_colouring place m)
  coloured_placed_after before =
      coloured_placed
      (λ r k c i e.
      ⊎_elim (λ o. before r k c i o) (λ s. (well.colours).least r k c i (sym s ∙ e)) (colouring.fixed k i))

  pub coloured_formed : WellFormed (with_colouring place m)
  coloured_formed = placed_formed by_number m formed

  pub coloured_seated : Seated m → Seated (with_colouring place m)
  coloured_seated seated = placed_seated m by_number formed well colouring_placing seated

  pub coloured_size : (s : Size) → HasSize m s → HasSize (with_colouring place m) s
  coloured_size s h = placed_size m by_number s h

  pub coloured_slots : (k : ℕ) → OpenAtMost m k → SlotsGrow m (with_colouring place m) k
  coloured_slots k few = placed_slots m formed by_number colouring_placing k few

  -- What is kept of it, where the registers of the colours are low.
  pub coloured_kept : ColoursLow m → IsRestKept m (with_colouring place m)
  coloured_kept low =
      let placed = coloured_placed_after (λ r k c i o. let l = low r k c i o in omega (arith, l)) in
      record {
        pass = record {
          keeps = coloured_keeps;
          formed = coloured_formed;
          placed = λ _. placed.well;
          seated = coloured_seated;
        };
        placed = placed;
        size = coloured_size;
        slots = coloured_slots;
      }
