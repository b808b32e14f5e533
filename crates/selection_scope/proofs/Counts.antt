-- How many parts there are.
use Rattle.std.proofs.Common.{◌≡◌, suc, List, [], ◌∷◌, length, refl, ap}
use Rattle.cmm_tree.specs.Rows.{expressions_of, cases_of}
use Rattle.cmm_tree.specs.declared.expr.Case.{Case}
use Rattle.cmm_tree.specs.declared.expr.Expr.{Expr}
use Rattle.selection_rules.specs.Select.{count_cases}
use Rattle.cmm_tree.specs.Measures.{count_of}

pub count-cases : (xs : List Case) → count_cases (cases_of xs) ≡ length xs
count-cases [] = refl
count-cases (x ∷ xs) = ap suc (count-cases xs)

pub count-row : (xs : List Expr) → count_of (expressions_of xs) ≡ length xs
count-row [] = refl
count-row (x ∷ xs) = ap suc (count-row xs)
