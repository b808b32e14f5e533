-- The room of operands in a row.
use Rattle.std.proofs.Common.{◌≡◌, ℕ, suc, ◌+◌, ◌<◌, ◌≤◌, List, [], ◌∷◌, length, refl, ap, arith}
use Rattle.cmm_tree.specs.Rows.{expressions_of}
use Rattle.cmm_tree.specs.View.{expr_view}
use Rattle.cmm_tree.specs.declared.expr.Expr.{Expr}
use Rattle.selection_rules.specs.Select.{width, width_row, regs_of, NamedRegister}
use Rattle.cmm_tree.specs.Measures.{count_of}
use Rattle.selection_scope.proofs.Counts.{count-row}
use Rattle.selection_scope.specs.Room.{HasExpressionRoom, indexes_in, indexes_in_row, most_numbers}

-- ---- the first part of a row of operands, which take a number each before those of their code

pub row_wide : (es : List Expr) → length es ≤ width_row (expressions_of es)
row_wide [] = omega arith
row_wide (e ∷ es) = let more = row_wide es in omega (arith, more)

pub row-first : (b : ℕ) (rest others : List Expr) (e : Expr) → e ∷ others ≡ rest → b + (width_row (expressions_of rest) + indexes_in_row (expressions_of rest)) < most_numbers + length rest
    → b + (width (expr_view e) + width_row (expressions_of others) + (indexes_in (expr_view e) + indexes_in_row (expressions_of others))) < most_numbers + length others
row-first b rest others e is room =
    let wide : suc (width (expr_view e) + width_row (expressions_of others)) ≡ width_row (expressions_of rest) = ap (λ l. width_row (expressions_of l)) is in
    let many : indexes_in (expr_view e) + indexes_in_row (expressions_of others) ≡ indexes_in_row (expressions_of rest) = ap (λ l. indexes_in_row (expressions_of l)) is in
    let count : suc (length others) ≡ length rest = ap length is in
    omega (arith, wide, many, count, room)

pub row-room-first : (b : ℕ) (rest others : List Expr) (e : Expr) → e ∷ others ≡ rest → b + (width_row (expressions_of rest) + indexes_in_row (expressions_of rest)) < most_numbers + length rest
    → HasExpressionRoom b (expr_view e)
row-room-first b rest others e is room =
    let first = row-first b rest others e is room in
    let wide = row_wide others in
    omega (arith, first, wide)

pub row_count : (es : List Expr) → count_of (expressions_of es) ≡ length es
row_count es = count-row es

-- ---- as many as

pub length-regs : (env : List NamedRegister) (b : ℕ) (es : List Expr) → length (regs_of env b (expressions_of es)) ≡ length es
length-regs env b [] = refl
length-regs env b (e ∷ es) = ap suc (length-regs env (suc b) es)
