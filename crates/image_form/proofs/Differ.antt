-- That no element of a list occurs twice, along the list: each differs from those after it.
use Rattle.std.specs.Prelude.{⊤}
use Rattle.std.proofs.Common.{◌≢◌, zero, suc, List, [], ◌∷◌, arith}
use Rattle.std.specs.List.{AllByRecursion, AllPairs}
use Rattle.std.proofs.lemmas.List.Elements.{All-from_recursion, recursion_from_All}
use Rattle.std.proofs.lemmas.List.Kept.{AllPairs-cons}

abbrev pub AllDiffer : {A : Type 0} → List A → Type 0
AllDiffer [] = ⊤
AllDiffer (x ∷ xs) = AllByRecursion (λ y. x ≢ y) xs × AllDiffer xs

-- as any two places of the list say it, and back
pub apart : {A : Type 0} (xs : List A) → AllDiffer xs → AllPairs (λ (x y : A). x ≢ y) xs
apart [] all = λ i j d lt within. absurd (omega arith)
apart {A} (x ∷ xs) all = AllPairs-cons (λ (x y : A). x ≢ y) x xs (All-from_recursion (λ y. x ≢ y) xs all.0) (apart xs all.1)

pub along : {A : Type 0} (xs : List A) → AllPairs (λ (x y : A). x ≢ y) xs → AllDiffer xs
along [] all = tt
along (x ∷ xs) all = (
  recursion_from_All (λ y. x ≢ y) xs (λ k d within. all zero (suc k) d (omega arith) (omega arith)),
  along xs (λ i j d lt within. all (suc i) (suc j) d (omega arith) (omega arith)),
)
