-- Numbers that rise.
use Rattle.std.proofs.Common.{◌≢◌, ℕ, suc, ◌<◌, ◌≤◌, List, [], ◌∷◌, ◌++◌, arith}
use Rattle.std.specs.List.{AllByRecursion}

-- numbers that rise, each from a lower bound up and below an upper one
abbrev pub Rise : ℕ → ℕ → List ℕ → Type 0
Rise low high [] = Unit {0}
Rise low high (a ∷ as') = (low ≤ a) × (a < high) × Rise (suc a) high as'

pub rise_low : (low from high : ℕ) (as' : List ℕ) → low ≤ from → Rise from high as' → Rise low high as'
rise_low low from high [] h r = tt
rise_low low from high (a ∷ as') h r = (omega (arith, r.0), r.1, r.2)

pub rise_high : (low high top : ℕ) (as' : List ℕ) → high ≤ top → Rise low high as' → Rise low top as'
rise_high low high top [] h r = tt
rise_high low high top (a ∷ as') h r = (r.0, omega (arith, r.1), rise_high (suc a) high top as' h r.2)

pub rise-append : (low middle high : ℕ) (as' bs : List ℕ) → low ≤ middle → middle ≤ high → Rise low middle as' → Rise middle high bs → Rise low high (as' ++ bs)
rise-append low middle high [] bs h k r s = rise_low low middle high bs h s
rise-append low middle high (a ∷ as') bs h k r s = (r.0, omega (arith, r.1), rise-append (suc a) middle high as' bs (omega (arith, r.1)) k r.2 s)

pub none_above : (low high b : ℕ) (as' : List ℕ) → high ≤ b → Rise low high as' → AllByRecursion (λ a. a ≢ b) as'
none_above low high b [] h r = tt
none_above low high b (a ∷ as') h r = (λ e. omega (arith, r.1), none_above (suc a) high b as' h r.2)

pub none_below : (low high b : ℕ) (as' : List ℕ) → b < low → Rise low high as' → AllByRecursion (λ a. a ≢ b) as'
none_below low high b [] h r = tt
none_below low high b (a ∷ as') h r = (λ e. omega (arith, r.0), none_below (suc a) high b as' (omega (arith, r.0)) r.2)
