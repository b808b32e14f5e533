-- Options that a test decides.
use Rattle.std.proofs.Common.{◌≡◌, Bool, true, false, cond, Some, None, refl}

pub if-some : {A : Type 0} (b : Bool) (x n : A) → Some n ≡ cond b (Some x) None → (b ≡ true) × (n ≡ x)
if-some true x n e = (refl, cc)
if-some false x n e = cc

pub if-none : {A : Type 0} (b : Bool) (x : A) → None ≡ cond b (Some x) None → b ≡ false
if-none true x e = cc
if-none false x e = refl
