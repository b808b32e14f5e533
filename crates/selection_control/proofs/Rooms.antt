-- The room of the parts of rows.
use Rattle.std.proofs.Common.{◌≡◌, ℕ, zero, suc, ◌+◌, ◌<◌, ◌≤◌, Bool, true, false, List, [], ◌∷◌, ◌++◌, length, refl, ap, ◌∙◌, arith}
use Rattle.cmm_tree.specs.Rows.{expressions_of, bindings_of, cases_of, handlers_of}
use Rattle.cmm_tree.specs.View.{expr_view}
use Rattle.cmm_tree.specs.declared.expr.Binding.{Binding}
use Rattle.cmm_tree.specs.declared.expr.Case.{Case}
use Rattle.cmm_tree.specs.declared.expr.Expr.{Expr}
use Rattle.cmm_tree.specs.declared.expr.Handler.{Handler}
use Rattle.selection_rules.specs.Select.{Label, width, width_row, width_bound, width_cases, width_handlers, labels_from, in_handlers, unless_bare_mark, labels_within_try, switch_labels, count_cases, params_from}
use Rattle.cmm_tree.specs.Tree.{Cases, Handlers, NoHandler, Handle, Parameter, is_bare}
use Rattle.selection_scope.proofs.Counts.{count-cases}
use Rattle.selection_control.proofs.Ends.{width-last, cases-width-last, handlers-width-last}
use Rattle.selection_scope.specs.Room.{indexes_in, indexes_in_row, indexes_in_bound, indexes_in_cases, indexes_in_handlers, most_numbers, most_tries}

-- ---- the last part of a row

row-indexes-last : (xs : List Expr) (e : Expr) → indexes_in_row (expressions_of (xs ++ e ∷ [])) ≡ indexes_in_row (expressions_of xs) + indexes_in (expr_view e)
row-indexes-last [] e = omega arith
row-indexes-last (x ∷ xs) e = let more = row-indexes-last xs e in omega (arith, more)

pub row-room : (b : ℕ) (rest others : List Expr) (e : Expr) → rest ≡ others ++ e ∷ [] → b + (width_row (expressions_of rest) + indexes_in_row (expressions_of rest)) < most_numbers
    → b + (width_row (expressions_of others) + suc (width (expr_view e)) + (indexes_in_row (expressions_of others) + indexes_in (expr_view e))) < most_numbers
row-room b rest others e is room =
    let wide = ap (λ l. width_row (expressions_of l)) is ∙ width-last others e in
    let many = ap (λ l. indexes_in_row (expressions_of l)) is ∙ row-indexes-last others e in
    omega (arith, wide, many, room)

bound-width-last : (xs : List Binding) (x : Binding) → width_bound (bindings_of (xs ++ x ∷ [])) ≡ width_bound (bindings_of xs) + suc (width (expr_view x.value))
bound-width-last [] x = omega arith
bound-width-last (y ∷ xs) x = let more = bound-width-last xs x in omega (arith, more)

bound-indexes-last : (xs : List Binding) (x : Binding) → indexes_in_bound (bindings_of (xs ++ x ∷ [])) ≡ indexes_in_bound (bindings_of xs) + indexes_in (expr_view x.value)
bound-indexes-last [] x = omega arith
bound-indexes-last (y ∷ xs) x = let more = bound-indexes-last xs x in omega (arith, more)

pub bindings-room : (b : ℕ) (rest others : List Binding) (x : Binding) → rest ≡ others ++ x ∷ [] → b + (width_bound (bindings_of rest) + indexes_in_bound (bindings_of rest)) < most_numbers
    → b + (width_bound (bindings_of others) + suc (width (expr_view x.value)) + (indexes_in_bound (bindings_of others) + indexes_in (expr_view x.value))) < most_numbers
bindings-room b rest others x is room =
    let wide = ap (λ l. width_bound (bindings_of l)) is ∙ bound-width-last others x in
    let many = ap (λ l. indexes_in_bound (bindings_of l)) is ∙ bound-indexes-last others x in
    omega (arith, wide, many, room)

cases-indexes-last : (xs : List Case) (c : Case) → indexes_in_cases (cases_of (xs ++ c ∷ [])) ≡ indexes_in_cases (cases_of xs) + indexes_in (expr_view c.body)
cases-indexes-last [] c = omega arith
cases-indexes-last (x ∷ xs) c = let more = cases-indexes-last xs c in omega (arith, more)

pub cases-room : (b : ℕ) (rest others : List Case) (c : Case) → rest ≡ others ++ c ∷ [] → b + (width_cases (cases_of rest) + indexes_in_cases (cases_of rest)) < most_numbers
    → b + (width_cases (cases_of others) + width (expr_view c.body) + (indexes_in_cases (cases_of others) + indexes_in (expr_view c.body))) < most_numbers
cases-room b rest others c is room =
    let wide = ap (λ l. width_cases (cases_of l)) is ∙ cases-width-last others c in
    let many = ap (λ l. indexes_in_cases (cases_of l)) is ∙ cases-indexes-last others c in
    omega (arith, wide, many, room)

handlers-indexes-last : (xs : List Handler) (h : Handler) → indexes_in_handlers (handlers_of (xs ++ h ∷ [])) ≡ indexes_in_handlers (handlers_of xs) + indexes_in (expr_view h.body)
handlers-indexes-last [] h = omega arith
handlers-indexes-last (x ∷ xs) h = let more = handlers-indexes-last xs h in omega (arith, more)

pub handlers-room : (b : ℕ) (rest others : List Handler) (h : Handler) → rest ≡ others ++ h ∷ [] → b + (width_handlers (handlers_of rest) + indexes_in_handlers (handlers_of rest)) < most_numbers
    → b + (width_handlers (handlers_of others) + width (expr_view h.body) + (indexes_in_handlers (handlers_of others) + indexes_in (expr_view h.body))) < most_numbers
handlers-room b rest others h is room =
    let wide = ap (λ l. width_handlers (handlers_of l)) is ∙ handlers-width-last others h in
    let many = ap (λ l. indexes_in_handlers (handlers_of l)) is ∙ handlers-indexes-last others h in
    omega (arith, wide, many, room)

-- ---- as many as

pub length-params : (b : ℕ) (ps : List Parameter) → length (params_from b ps) ≡ length ps
length-params b [] = refl
length-params b (p ∷ ps) = ap suc (length-params (suc b) ps)

pub labels_count : (l : ℕ) (cases : Cases) (k n : ℕ) → length (switch_labels l cases k n) ≡ n
labels_count l cases k zero = refl
labels_count l cases k (suc n) = ap suc (labels_count l cases (suc k) n)

pub cases_count : (cs : List Case) → count_cases (cases_of cs) ≡ length cs
cases_count cs = count-cases cs

-- ---- tries

pub tries-deeper : (ls : List Label) → most_tries (labels_within_try ls) ≤ suc (most_tries ls)
tries-deeper [] = omega arith
tries-deeper (t ∷ ls) = let more = tries-deeper ls in omega (arith, more)

pub tries-body : (b : ℕ) (hs : Handlers) (ls : List Label) → most_tries (labels_from b hs ++ ls) ≡ most_tries ls
tries-body b NoHandler ls = refl
tries-body b (Handle at label params body rest) ls = let more = tries-body (suc b + length params) rest ls in omega (arith, more)

pub tries-handlers : (b : ℕ) (hs : Handlers) (ls : List Label) → most_tries (in_handlers (labels_from b hs) ++ ls) ≡ most_tries ls
tries-handlers b NoHandler ls = refl
tries-handlers b (Handle at label params body rest) ls = by (is_bare label) (tries-handlers (suc b + length params) rest ls)
  where
    by : (bare : Bool) → most_tries (in_handlers (labels_from (suc b + length params) rest) ++ ls) ≡ most_tries ls
        → most_tries (unless_bare_mark bare (record { label = label; params = params_from (suc b) params; number = b; tries = 0 }) (in_handlers (labels_from (suc b + length params) rest)) ++ ls) ≡ most_tries ls
    by true more = more
    by false more = omega (arith, more)
