-- How many traps are pushed before each line, as it is found.
use Rattle.std.specs.Prelude.{◌≡◌, ℕ, suc, ◌-◌, ◌<◌, List, ◌∷◌, Some, length, slice_get, slice_index}
use Rattle.lin_ir.specs.Walks.{StandsAsLine, Reached, ArePushed}
use Rattle.lin_ir.specs.declared.lin.Line.{Line}
use Rattle.lin_ir.specs.declared.lin.Lin.{Lin}
use Rattle.lin_laws.specs.declared.position.Position.{Position}

-- the table has the numbers of traps of the first k positions, by the lines after each
pub record AreTabled (m : Lin) (all : List Position) (k : ℕ) (table : List ℕ) : Type 0 where
  pub len : length table ≡ length m.code
  pub each : (q : ℕ) (x : Position) → q < k → slice_get all q ≡ Some x → x.place < length m.code →
      slice_index table (length m.code - suc x.place) ≡ length x.tries
  -- and 0 where none of the positions is
  pub none : (left : ℕ) → ((q : ℕ) (x : Position) → slice_get all q ≡ Some x →
      x.place < length m.code → length m.code - suc x.place ≡ left → ⊥) → slice_index table left ≡ 0

-- So many traps are pushed before each line to which a walk comes, and none before any other, by
-- the number of lines after it.
pub record AreCounted (m : Lin) (traps : ℕ → ℕ) : Type 0 where
  pub pushed : ArePushed m traps
  pub unreached : (i : Line) (next : List Line) → StandsAsLine i next m.code →
      ((tries : List ℕ) → Reached m (i ∷ next) tries → ⊥) → traps (length next) ≡ 0
