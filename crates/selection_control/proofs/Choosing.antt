-- The labels of a switch, one number after the other.
use Rattle.std.proofs.Common.{◌≡◌, ℕ, suc, ◌+◌, ◌-◌, ◌<◌, List, [], ◌∷◌, ◌++◌, ap, sym, ◌∙◌, append_assoc, arith}
use Rattle.cmm_tree.specs.Tree.{Cases}
use Rattle.selection_rules.specs.Select.{label_of_last_case, switch_labels}

labels-of : (l : ℕ) (cases : Cases) (k size : ℕ) → k < size → switch_labels l cases k (size - k) ≡ label_of_last_case l cases k l ∷ switch_labels l cases (k + 1) (size - (k + 1))
labels-of l cases k size below =
    let left : size - k ≡ suc (size - (k + 1)) = omega (arith, below) in
    let next : suc k ≡ k + 1 = omega arith in
    ap (switch_labels l cases k) left ∙ ap (λ n. label_of_last_case l cases k l ∷ switch_labels l cases n (size - (k + 1))) next

pub next-label : (l : ℕ) (cases : Cases) (k size : ℕ) (old new whole : List ℕ) (v : ℕ) → k < size → v ≡ label_of_last_case l cases k l → new ≡ old ++ v ∷ []
    → old ++ switch_labels l cases k (size - k) ≡ whole
    → new ++ switch_labels l cases (k + 1) (size - (k + 1)) ≡ whole
next-label l cases k size old new whole v below is put same =
    let rest = switch_labels l cases (k + 1) (size - (k + 1)) in
    ap (λ xs. xs ++ rest) put
    ∙ append_assoc old (v ∷ []) rest
    ∙ ap (λ n. old ++ n ∷ rest) is
    ∙ ap (λ xs. old ++ xs) (sym (labels-of l cases k size below))
    ∙ same
