-- What linear scan gives beside a colouring: no register is in a slot needlessly, by intervals.
use Rattle.std.specs.Prelude.{◌≡◌, ℕ, Contains}
use Rattle.bs_words.specs.declared.types.Loc.TheVariants as loc
use Rattle.mach_ir.specs.Placed.{Colouring, colour_numbers}
use Rattle.mach_ir.specs.declared.reg.Reg.{Reg}
use Rattle.linscan_rules.specs.Ranges.{Overlap}

-- Both have intervals, and these share a place. `Interval n from to` is the interval of the
-- register of that number.
pub record Overlaps (Interval : ℕ → ℕ → ℕ → Type 0) (n k : ℕ) : Type 0 where
  pub from : ℕ
  pub to : ℕ
  pub other_from : ℕ
  pub other_to : ℕ
  pub one : Interval n from to
  pub two : Interval k other_from other_to
  pub overlap : Overlap from to other_from other_to

-- A register whose place is open, and which is put into a slot, has for each colour a register
-- there whose interval overlaps its own.
pub record NoNeedlessSlotByIntervals (IsOne : Reg → Type 0) (Interval : ℕ → ℕ → ℕ → Type 0)
    (place : Colouring) : Type 0 where
  pub full : (r : Reg) → IsOne r → r.loc ≡ loc.Unset → (k : ℕ) → place r.number ≡ loc.Slot k →
      (n : ℕ) → Contains colour_numbers n →
      (q : Reg) × IsOne q × Overlaps Interval r.number q.number × (place q.number ≡ loc.Machine n)
