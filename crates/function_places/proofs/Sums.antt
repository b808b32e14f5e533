-- A sum that is made one after the other.
use Rattle.std.proofs.Common.{◌≡◌, ℕ, ◌+◌, ◌<◌, ◌≤◌, List, length, get_or, drop, ap, arith}
use Rattle.std.specs.Prelude.{sum_by}
use Rattle.std.proofs.lemmas.List.{drop_all}
use Rattle.std.proofs.lemmas.List.Sums.{sum_by-cons}
use Rattle.bs_words.proofs.Lists.{drop_step}

pub sum_step : {A : Type 0} (size : A → ℕ) (xs : List A) (i : ℕ) (x : A) (sum total : ℕ) → i < length xs → x ≡ get_or xs i x → sum + sum_by size (drop i xs) ≡ total →
    sum + size x + sum_by size (drop (i + 1) xs) ≡ total
sum_step size xs i x sum total h is so_far =
    omega (arith, so_far, ap (sum_by size) (drop_step xs i x h is), sum_by-cons size x (drop (i + 1) xs))

pub sum_done : {A : Type 0} (size : A → ℕ) (xs : List A) (i sum total : ℕ) → length xs ≤ i → sum + sum_by size (drop i xs) ≡ total → sum ≡ total
sum_done size xs i sum total h so_far =
    let none : sum_by size (drop i xs) ≡ 0 = ap (sum_by size) (drop_all i xs h) in
    omega (arith, so_far, none)
