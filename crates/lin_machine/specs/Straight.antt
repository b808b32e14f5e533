-- Some instructions that come one after the other change some registers, and the memory in one
-- way.
use Rattle.std.specs.Prelude.{◌≡◌, ℕ, ◌+◌, List, slice_index}
use Rattle.rv_machine.specs.Memory.{Region}
use Rattle.rv_machine.specs.Sound.{AreRegisters}
use Rattle.moving_laws.specs.Stands.{AmongNumbers}
use Rattle.lin_machine.specs.View.{Fixed, View, ReachesView}

-- so many words further, where these registers may have changed
pub record IsPast (n : ℕ) (rs : List ℕ) (m : List Region) (v w : View) : Type 0 where
  pub place : w.place ≡ v.place + n
  pub are : AreRegisters w.registers
  pub others : (q : ℕ) → (AmongNumbers q rs → ⊥) →
      slice_index w.registers q ≡ slice_index v.registers q
  pub memory : w.memory ≡ m
  pub blocks : w.blocks ≡ v.blocks

pub record Changes (s : Fixed) (v : View) (n : ℕ) (rs : List ℕ) (m : List Region)
    (P : View → Type 0) : Type 0 where
  pub view : View
  pub leads : ReachesView s n v view
  pub past : IsPast n rs m v view
  pub holds : P view

-- They lead so many words further, to where something holds.
pub record LeadsFurther (s : Fixed) (v : View) (n : ℕ) (P : View → Type 0) : Type 0 where
  pub view : View
  pub leads : ReachesView s n v view
  pub place : view.place ≡ v.place + n
  pub holds : P view

-- wherever it is, these registers alone may have changed, and the memory is this one
pub record Differs (rs : List ℕ) (m : List Region) (v w : View) : Type 0 where
  pub are : AreRegisters w.registers
  pub others : (q : ℕ) → (AmongNumbers q rs → ⊥) →
      slice_index w.registers q ≡ slice_index v.registers q
  pub memory : w.memory ≡ m
  pub blocks : w.blocks ≡ v.blocks
