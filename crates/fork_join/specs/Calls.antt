-- What calls with numbers one after the other give.
use Rattle.std.specs.Prelude.{◌≡◌, ℕ, ◌+◌, List, [], ◌∷◌, length}

-- each item is given at its number, where the first has the number `from`
abbrev pub AreGivenFrom : {X : Type 0} → (ℕ → X → Type 0) → ℕ → List X → Type 0
AreGivenFrom Gives from [] = Unit {0}
AreGivenFrom Gives from (x ∷ xs) = Gives from x × AreGivenFrom Gives (from + 1) xs

-- The items are what the calls with `count` numbers from `from` on may give, in their order.
pub record AreGiven {X : Type 0} (Gives : ℕ → X → Type 0) (from count : ℕ) (xs : List X) : Type 0 where
  pub len : length xs ≡ count
  pub each : AreGivenFrom Gives from xs
