-- Where something held last in a list.
use Rattle.std.specs.Prelude.{ℕ, zero, suc, Bool, true, false, List, [], ◌∷◌}

abbrev pub or_before : Bool → ℕ → ℕ
or_before true zero = 1
or_before false zero = 0
or_before b (suc n) = suc (suc n)

-- the place of the last item for which the test holds, counted from 1; 0 where it holds for none
abbrev pub last : {X : Type 0} → (X → Bool) → List X → ℕ
last test [] = 0
last test (x ∷ xs) = or_before (test x) (last test xs)
