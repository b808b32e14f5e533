-- Positions from which control goes on to where a location is live.
use Rattle.std.specs.Prelude.{◌≡◌, ℕ, true, List, Some, slice_get, Contains}
use Rattle.bs_bits.specs.Set.{has}
use Rattle.bs_words.specs.Contents.{contents}
use Rattle.dataflow.specs.Rows.{set_in_row}
use Rattle.dataflow.specs.declared.flow.Place as place
use Rattle.lin_flow.specs.Search.{groups_of, search_members, IsThere}
use Rattle.lin_flow.specs.declared.live.LiveWalks.{LiveWalks}

-- the number is live before one of these positions
pub record ReadsOnAmong (w : LiveWalks) (positions : List ℕ) (number : ℕ) : Type 0 where
  pub position : ℕ
  pub among : Contains positions position
  pub live : has (set_in_row w.live.rows.items position) number ≡ true

-- the position is at the place, and the number is live before one to which control goes on
pub record ReadsOnFrom (w : LiveWalks) (p number position : ℕ) : Type 0 where
  pub there : IsThere w.search p position
  pub node : place.Place
  pub is : slice_get (contents w.flow.places) position ≡ Some node
  pub on : ReadsOnAmong w (contents node.next) number

-- so it is with one of the positions of the place
pub record ReadsOnSomewhere (w : LiveWalks) (p number : ℕ) : Type 0 where
  pub position : ℕ
  pub member : Contains (search_members (groups_of w.search) p) position
  pub from : ReadsOnFrom w p number position
