-- How deep the forms of a drawn expression nest.
use Rattle.std.specs.Prelude.{ℕ, suc, ◌≤◌, Bool}
use Rattle.cmm_gen.specs.Drawn.{Drawn, Number, Variable, Sum, Difference, Product, Choice, Cell, Attempt}

-- Forms nest at most so deep in an expression, and its numbers are from -100 to 100.
pub data IsWithin : ℕ → Drawn → Type 0 where
  number : (d draw : ℕ) → draw ≤ 200 → IsWithin d (Number draw)
  variable : (d : ℕ) (even : Bool) → IsWithin d (Variable even)
  sum : (d : ℕ) (a b : Drawn) → IsWithin d a → IsWithin d b → IsWithin (suc d) (Sum a b)
  difference : (d : ℕ) (a b : Drawn) → IsWithin d a → IsWithin d b → IsWithin (suc d) (Difference a b)
  product : (d : ℕ) (a b : Drawn) → IsWithin d a → IsWithin d b → IsWithin (suc d) (Product a b)
  choice : (d : ℕ) (a b c e : Drawn)
      → IsWithin d a
      → IsWithin d b
      → IsWithin d c
      → IsWithin d e
      → IsWithin (suc d) (Choice a b c e)
  cell : (d : ℕ) (a b : Drawn) → IsWithin d a → IsWithin d b → IsWithin (suc d) (Cell a b)
  attempt : (d : ℕ) (a b c e : Drawn)
      → IsWithin d a
      → IsWithin d b
      → IsWithin d c
      → IsWithin d e
      → IsWithin (suc d) (Attempt a b c e)
