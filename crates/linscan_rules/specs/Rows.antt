-- Which rows linear scan takes, in which order, and what the places are that it gives them.
use Rattle.std.specs.Prelude.{◌≡◌, ◌≢◌, ◌⊎◌, ℕ, ◌≤◌, true, false, List, All, AllPairs, Contains}
use Rattle.bs_words.specs.declared.types.Loc.TheVariants as loc
use Rattle.mach_ir.specs.Placed.{Colouring, LocationsAgree}
use Rattle.mach_ir.specs.declared.reg.Reg.{Reg}
use Rattle.linscan_rules.specs.Ranges.{Overlap}
use Rattle.linscan_rules.specs.Scan.{OpenInterval, FixedInterval, ClosedColours}

-- ---- the order

-- by where they begin, each with a number of its own and a range that is not empty
pub record AreByStart (rows : List OpenInterval) : Type 0 where
  pub pairs : AllPairs (λ (x y : OpenInterval). (x.from ≤ y.from) × (x.number ≢ y.number)) rows
  pub ranges : All (λ (x : OpenInterval). x.from ≤ x.to) rows

-- ---- after all of them

abbrev pub RowsOverlap : OpenInterval → OpenInterval → Type 0
RowsOverlap x y = Overlap x.from x.to y.from y.to

-- a register that is fixed at this colour has an interval that overlaps the row's
pub record IsFixedOver (intervals : List FixedInterval) (x : OpenInterval) (c : ℕ) : Type 0 where
  pub fixed : FixedInterval
  pub among : Contains intervals fixed
  pub colour : fixed.colour ≡ c
  pub overlap : Overlap fixed.from fixed.to x.from x.to

-- At a colour stands what overlaps the row: a fixed register, or another row, which ends no later.
pub data IsHeldOver (intervals : List FixedInterval) (rows : List OpenInterval) (place : Colouring) (x : OpenInterval)
    (c : ℕ) : Type 0 where
  by_one_fixed : IsFixedOver intervals x c → IsHeldOver intervals rows place x c
  by_another : (y : OpenInterval) → Contains rows y → place y.number ≡ loc.Machine c → RowsOverlap y x →
      y.to ≤ x.to → IsHeldOver intervals rows place x c

pub record IsSettled (colours : List ℕ) (closed : ClosedColours) (intervals : List FixedInterval)
    (rows : List OpenInterval) (place : Colouring) : Type 0 where
  -- each is at a colour or in the slot of its origin
  pub chosen : (x : OpenInterval) → Contains rows x →
      ((c : ℕ) × Contains colours c × (place x.number ≡ loc.Machine c))
      ⊎ (place x.number ≡ loc.Slot x.origin)
  -- none is at a colour that is closed to it
  pub clear : (x : OpenInterval) → Contains rows x → (c : ℕ) → place x.number ≡ loc.Machine c →
      closed x c ≡ false
  -- no two that overlap are at one colour
  pub apart : (x y : OpenInterval) → Contains rows x → Contains rows y → (c : ℕ) →
      place x.number ≡ loc.Machine c → place y.number ≡ loc.Machine c → RowsOverlap x y →
      x.number ≡ y.number
  -- each colour is held over one that is in a slot
  pub full : (x : OpenInterval) → Contains rows x → (k : ℕ) → place x.number ≡ loc.Slot k →
      (c : ℕ) → Contains colours c → IsHeldOver intervals rows place x c

-- ---- the rows of a function, or of its graph

-- What is known of them. `Interval n from to` is the interval of the register of that number,
-- `start` the places that are fixed.
pub record AreScanRows (IsOne : Reg → Type 0) (AreJoined : ℕ → ℕ → Type 0)
    (Interval : ℕ → ℕ → ℕ → Type 0) (closed : ClosedColours) (intervals : List FixedInterval)
    (start : Colouring) (rows : List OpenInterval) : Type 0 where
  pub by_start : AreByStart rows
  -- each register whose place is open has a row, and no other has one
  pub open_row : (r : Reg) → IsOne r → r.loc ≡ loc.Unset →
      (x : OpenInterval) × Contains rows x × (x.number ≡ r.number) × (x.origin ≡ r.origin)
  pub no_row : (r : Reg) → IsOne r → r.loc ≢ loc.Unset → (x : OpenInterval) → Contains rows x →
      x.number ≢ r.number
  pub is_row : (x : OpenInterval) → Contains rows x →
      (r : Reg) × IsOne r × (r.number ≡ x.number) × Interval x.number x.from x.to
  -- those that are fixed stand where they are fixed
  pub begins : (r : Reg) → IsOne r → r.loc ≢ loc.Unset → start r.number ≡ r.loc
  pub fixed : (f : FixedInterval) → Contains intervals f →
      (q : Reg) × IsOne q × (q.loc ≡ loc.Machine f.colour) × Interval q.number f.from f.to
  -- closed is a colour where a joined register is fixed, and only one over which one is fixed
  pub closes : (x : OpenInterval) (q : Reg) (c : ℕ) → Contains rows x → IsOne q → q.loc ≡ loc.Machine c →
      AreJoined x.number q.number → closed x c ≡ true
  pub blocks : (x : OpenInterval) (c : ℕ) → Contains rows x → closed x c ≡ true → IsFixedOver intervals x c
  -- joined registers have intervals that overlap
  pub meet : (x y : OpenInterval) → Contains rows x → Contains rows y → AreJoined x.number y.number →
      RowsOverlap x y
  pub symmetric : (n k : ℕ) → AreJoined n k → AreJoined k n
  pub apart_from_itself : (n : ℕ) → AreJoined n n → ⊥
  pub agree : LocationsAgree IsOne AreJoined
