-- Truth values.
use Rattle.std.proofs.Common.{◌≡◌, Bool, true, false, refl, sym}

pub bool_same : (p q : Bool) → (p ≡ true → q ≡ true) → (q ≡ true → p ≡ true) → p ≡ q
bool_same true true f g = refl
bool_same true false f g = sym (f refl)
bool_same false true f g = g refl
bool_same false false f g = refl

pub not_both : (b : Bool) → b ≡ true → b ≡ false → ⊥
not_both b e h = cc
