-- Counts, and the best of some colours by them.
use Rattle.std.proofs.Common.{◌≡◌, ℕ, zero, suc, slice_index_or, refl}
use Rattle.std.proofs.Math.ListN.{replicate}

pub all_alike : {A : Type 0} (a : A) (n k : ℕ) → slice_index_or (replicate n a) k a ≡ a
all_alike a zero k = refl
all_alike a (suc n) zero = refl
all_alike a (suc n) (suc k) = all_alike a n k
