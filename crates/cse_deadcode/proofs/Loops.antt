-- The set of a place, step by step.
use Rattle.std.proofs.Common.{◌≡◌, ℕ, Bool, false, not, ◌||◌, ◌&&◌, zero, suc, List, replicate, ◌∙◌, ap, refl}
use Rattle.std.specs.Prelude.{◌==◌}
use Rattle.std.specs.List.{list_any}
use Rattle.bs_bits.specs.Set.{has}
use Rattle.dataflow.specs.Rows.{set_in_row}
use Rattle.cse_deadcode.specs.Flows.{is_wanted, is_used_before}

pub has_none : (n r : ℕ) → has (replicate n false) r ≡ false
has_none zero r = refl
has_none (suc n) zero = refl
has_none (suc n) (suc r) = has_none n r

pub back_all : (computes user : Bool) (next past reads writes : List ℕ) (rows : List (List Bool)) (r : ℕ) (before some less more all : Bool) →
    before ≡ false → some ≡ (before || list_any (λ q. has (set_in_row rows q) r) next) →
    less ≡ (some && not (list_any (λ k. k == r) writes)) → more ≡ (less || list_any (λ q. has (set_in_row rows q) r) past) →
    all ≡ (more || (user && list_any (λ k. k == r) reads)) → user ≡ (not computes || is_wanted next writes rows) →
    all ≡ is_used_before computes next past reads writes rows r
back_all computes user next past reads writes rows r before some less more all a b c d e h =
    e
    ∙ ap (λ x. x || (user && list_any (λ k. k == r) reads))
    (d
    ∙ ap (λ x. x || list_any (λ q. has (set_in_row rows q) r) past)
    (c ∙ ap (λ x. x && not (list_any (λ k. k == r) writes)) (b ∙ ap (λ x. x || list_any (λ q. has (set_in_row rows q) r) next) a)))
    ∙ ap
    (λ x.
    ((list_any (λ q. has (set_in_row rows q) r) next && not (list_any (λ k. k == r) writes))
    || list_any (λ q. has (set_in_row rows q) r) past)
    || (x && list_any (λ k. k == r) reads))
    h
