-- Pairs in options.
use Rattle.std.proofs.Common.{◌≡◌, Option, Some, unwrap_or, ap}

pub some_pair : {A B : Type 0} (a c : A) (b d : B) → ◌≡◌ {A = Option (A × B)} (Some (a, b)) (Some (c, d)) → (a ≡ c) × (b ≡ d)
some_pair {A} {B} a c b d e =
    let f : Option (A × B) → A × B = λ o. unwrap_or o (a, b) in
    (ap (λ o. (f o).0) e, ap (λ o. (f o).1) e)
