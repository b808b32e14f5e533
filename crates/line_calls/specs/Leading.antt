-- Words of a part that end in a jump, to somewhere else.
use Rattle.std.specs.Prelude.{◌≡◌, ℕ, ◌+◌, ◌≤◌}
use Rattle.lin_machine.specs.View.{Fixed, View, ReachesView}

-- The words from here up to a place, at least one, lead to where something holds.
pub record LeadsUpTo (s : Fixed) (v : View) (to : ℕ) (P : View → Type 0) : Type 0 where
  pub count : ℕ
  pub lands : v.place + count ≡ to
  pub some : 1 ≤ count
  pub view : View
  pub leads : ReachesView s count v view
  pub holds : P view
