-- Words of a part that lead to a place, and what they change on the way.
use Rattle.std.specs.Prelude.{◌≡◌, ℕ, ◌+◌, List}
use Rattle.rv_machine.specs.Memory.{Region}
use Rattle.lin_machine.specs.Straight.{Changes}
use Rattle.lin_machine.specs.View.{Fixed, View}

-- They lead to this place, where these registers alone may have changed, and the memory is this
-- one.
pub record Reaches (s : Fixed) (v : View) (to : ℕ) (rs : List ℕ) (m : List Region)
    (P : View → Type 0) : Type 0 where
  pub count : ℕ
  pub lands : v.place + count ≡ to
  pub changes : Changes s v count rs m P
