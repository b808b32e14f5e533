-- The code of rows, by their last parts: it is made from the end.
use Rattle.std.proofs.Common.{◌≡◌, ℕ, suc, ◌+◌, Bool, false, List, [], ◌∷◌, ◌++◌, length, refl, ap, ◌∙◌, arith}
use Rattle.cmm_tree.specs.Rows.{expressions_of, cases_of, handlers_of}
use Rattle.cmm_tree.specs.View.{expr_view, params_view}
use Rattle.cmm_tree.specs.declared.expr.Case.{Case}
use Rattle.cmm_tree.specs.declared.expr.Expr.{Expr}
use Rattle.cmm_tree.specs.declared.expr.Handler.{Handler}
use Rattle.cmm_types.specs.Annotated.{IsAnnotated}
use Rattle.cmm_types.specs.Lists.{AreAnnotated, AreCasesAnnotated, AreHandlersAnnotated}
use Rattle.cmm_types.specs.Types.{Scoped, type_of, with_parameters}
use Rattle.mach_ir.specs.Formed.{indexes_to_label}
use Rattle.mach_ir.specs.declared.mach.Instr.{Instr}
use Rattle.mach_ir.specs.declared.mach.Mark.TheVariants as mark
use Rattle.mach_ir.specs.declared.reg.Reg.{Reg}
use Rattle.selection_rules.specs.Instructions.{bare_mark}
use Rattle.selection_rules.specs.Select.{NamedRegister, Label, scopes, fresh_register, select, select_seq, select_cases, select_handlers, width, width_row, width_cases, width_handlers, width_labels, with_params, params_from}
use Rattle.selection_control.specs.Rows.{select_dropped}

-- ---- rows of expressions

pub typed-last : (names : List Scoped) (xs : List Expr) (e : Expr) → AreAnnotated names (xs ++ e ∷ []) → AreAnnotated names xs × IsAnnotated names e
typed-last names [] e t = (tt, t.0)
typed-last names (x ∷ xs) e t = let more = typed-last names xs e t.1 in ((t.0, more.0), more.1)

pub width-last : (xs : List Expr) (e : Expr) → width_row (expressions_of (xs ++ e ∷ [])) ≡ width_row (expressions_of xs) + suc (width (expr_view e))
width-last [] e = omega arith
width-last (x ∷ xs) e = let more = width-last xs e in omega (arith, more)

pub dropped-last : (env : List NamedRegister) (labels : List Label) (b : ℕ) (xs : List Expr) (e : Expr) (next : List Instr)
    → select_dropped env labels b (expressions_of (xs ++ e ∷ [])) next
    ≡ select_dropped env labels b (expressions_of xs)
    (select env labels false false (fresh_register (b + width_row (expressions_of xs)) (type_of (scopes env) (expr_view e))) (suc (b + width_row (expressions_of xs))) (expr_view e) next)
dropped-last env labels b [] e next =
    let none : b ≡ b + 0 = omega arith in
    ap (λ n. select env labels false false (fresh_register n (type_of (scopes env) (expr_view e))) (suc n) (expr_view e) next) none
dropped-last env labels b (x ∷ xs) e next =
    let w = width (expr_view x) in
    let here : ℕ → List Instr = λ n. select env labels false false (fresh_register n (type_of (scopes env) (expr_view e))) (suc n) (expr_view e) next in
    let same : suc (b + w) + width_row (expressions_of xs) ≡ b + width_row (expressions_of (x ∷ xs)) = omega arith in
    ap (λ rest. select env labels false false (fresh_register b (type_of (scopes env) (expr_view x))) (suc b) (expr_view x) rest)
    (dropped-last env labels (suc (b + w)) xs e next ∙ ap (λ n. select_dropped env labels (suc (b + w)) (expressions_of xs) (here n)) same)

not-last : (env : List NamedRegister) (labels : List Label) (valued tail : Bool) (d : Reg) (b : ℕ) (x : Expr) (xs : List Expr) (e : Expr) (next : List Instr)
    → select_seq env labels valued tail d b (expressions_of (x ∷ xs ++ e ∷ [])) next
    ≡ select env labels false false (fresh_register b (type_of (scopes env) (expr_view x))) (suc b) (expr_view x)
    (select_seq env labels valued tail d (suc (b + width (expr_view x))) (expressions_of (xs ++ e ∷ [])) next)
not-last env labels valued tail d b x [] e next = refl
not-last env labels valued tail d b x (y ∷ ys) e next = refl

pub seq-last : (env : List NamedRegister) (labels : List Label) (valued tail : Bool) (d : Reg) (b : ℕ) (xs : List Expr) (e : Expr) (next : List Instr)
    → select_seq env labels valued tail d b (expressions_of (xs ++ e ∷ [])) next
    ≡ select_dropped env labels b (expressions_of xs) (select env labels valued tail d (suc (b + width_row (expressions_of xs))) (expr_view e) next)
seq-last env labels valued tail d b [] e next =
    let none : b ≡ b + 0 = omega arith in
    ap (λ n. select env labels valued tail d (suc n) (expr_view e) next) none
seq-last env labels valued tail d b (x ∷ xs) e next =
    let w = width (expr_view x) in
    let here : ℕ → List Instr = λ n. select env labels valued tail d (suc n) (expr_view e) next in
    let same : suc (b + w) + width_row (expressions_of xs) ≡ b + width_row (expressions_of (x ∷ xs)) = omega arith in
    not-last env labels valued tail d b x xs e next
    ∙ ap (λ rest. select env labels false false (fresh_register b (type_of (scopes env) (expr_view x))) (suc b) (expr_view x) rest)
    (seq-last env labels valued tail d (suc (b + w)) xs e next ∙ ap (λ n. select_dropped env labels (suc (b + w)) (expressions_of xs) (here n)) same)

-- ---- cases

pub cases-typed-last : (names : List Scoped) (xs : List Case) (c : Case) → AreCasesAnnotated names (xs ++ c ∷ []) → AreCasesAnnotated names xs × IsAnnotated names c.body
cases-typed-last names [] c t = (tt, t.0)
cases-typed-last names (x ∷ xs) c t = let more = cases-typed-last names xs c t.1 in ((t.0, more.0), more.1)

pub cases-width-last : (xs : List Case) (c : Case) → width_cases (cases_of (xs ++ c ∷ [])) ≡ width_cases (cases_of xs) + width (expr_view c.body)
cases-width-last [] c = omega arith
cases-width-last (x ∷ xs) c = let more = cases-width-last xs c in omega (arith, more)

pub cases-last : (env : List NamedRegister) (labels : List Label) (valued tail : Bool) (d : Reg) (all : List ℕ) (end l b : ℕ) (xs : List Case) (c : Case) (next : List Instr)
    → select_cases env labels valued tail d all end l b (cases_of (xs ++ c ∷ [])) next
    ≡ select_cases env labels valued tail d all end l b (cases_of xs)
    (bare_mark (mark.Case (indexes_to_label (l + length xs) 0 all) (l + length xs) end)
    ∷ select env labels valued tail d (b + width_cases (cases_of xs)) (expr_view c.body) next)
cases-last env labels valued tail d all end l b [] c next =
    let here : ℕ → ℕ → List Instr = λ k n. bare_mark (mark.Case (indexes_to_label k 0 all) k end) ∷ select env labels valued tail d n (expr_view c.body) next in
    let label : l ≡ l + 0 = omega arith in
    let number : b ≡ b + 0 = omega arith in
    ap (λ k. here k b) label ∙ ap (here (l + 0)) number
cases-last env labels valued tail d all end l b (x ∷ xs) c next =
    let w = width (expr_view x.body) in
    let here : ℕ → ℕ → List Instr = λ k n. bare_mark (mark.Case (indexes_to_label k 0 all) k end) ∷ select env labels valued tail d n (expr_view c.body) next in
    let label : suc l + length xs ≡ l + length (x ∷ xs) = omega arith in
    let number : b + w + width_cases (cases_of xs) ≡ b + width_cases (cases_of (x ∷ xs)) = omega arith in
    ap (λ rest. bare_mark (mark.Case (indexes_to_label l 0 all) l end) ∷ select env labels valued tail d b (expr_view x.body) rest)
    (cases-last env labels valued tail d all end (suc l) (b + w) xs c next
    ∙ ap (λ k. select_cases env labels valued tail d all end (suc l) (b + w) (cases_of xs) (here k (b + w + width_cases (cases_of xs)))) label
    ∙ ap (λ n. select_cases env labels valued tail d all end (suc l) (b + w) (cases_of xs) (here (l + length (x ∷ xs)) n)) number)

-- ---- handlers

abbrev pub HandlerTyped : List Scoped → Handler → Type 0
HandlerTyped names h = IsAnnotated (with_parameters (params_view h.params.items) names) h.body

pub handlers-typed-last : (names : List Scoped) (xs : List Handler) (h : Handler) → AreHandlersAnnotated names (xs ++ h ∷ []) → AreHandlersAnnotated names xs × HandlerTyped names h
handlers-typed-last names [] h t = (tt, t.0)
handlers-typed-last names (x ∷ xs) h t = let more = handlers-typed-last names xs h t.1 in ((t.0, more.0), more.1)

pub handlers-width-last : (xs : List Handler) (h : Handler) → width_handlers (handlers_of (xs ++ h ∷ [])) ≡ width_handlers (handlers_of xs) + width (expr_view h.body)
handlers-width-last [] h = omega arith
handlers-width-last (x ∷ xs) h = let more = handlers-width-last xs h in omega (arith, more)

pub labels-width-last : (xs : List Handler) (h : Handler) → width_labels (handlers_of (xs ++ h ∷ [])) ≡ width_labels (handlers_of xs) + suc (length (params_view h.params.items))
labels-width-last [] h = omega arith
labels-width-last (x ∷ xs) h = let more = labels-width-last xs h in omega (arith, more)

-- the body of a handler whose label has this number
abbrev pub handler_code : List NamedRegister → List Label → Bool → Bool → Reg → ℕ → ℕ → Handler → List Instr → List Instr
handler_code env labels valued tail d l b h next =
    select (with_params (params_view h.params.items) (params_from (suc l) (params_view h.params.items)) env) labels valued tail d b (expr_view h.body) next

pub handlers-last : (env : List NamedRegister) (labels : List Label) (valued tail : Bool) (d : Reg) (end l b : ℕ) (xs : List Handler) (h : Handler) (next : List Instr)
    → select_handlers env labels valued tail d end l b (handlers_of (xs ++ h ∷ [])) next
    ≡ select_handlers env labels valued tail d end l b (handlers_of xs)
    (bare_mark (mark.With (l + width_labels (handlers_of xs)) end)
    ∷ handler_code env labels valued tail d (l + width_labels (handlers_of xs)) (b + width_handlers (handlers_of xs)) h next)
handlers-last env labels valued tail d end l b [] h next =
    let here : ℕ → ℕ → List Instr = λ k m. bare_mark (mark.With k end) ∷ handler_code env labels valued tail d k m h next in
    let label : l ≡ l + 0 = omega arith in
    let number : b ≡ b + 0 = omega arith in
    ap (λ k. here k b) label ∙ ap (here (l + 0)) number
handlers-last env labels valued tail d end l b (x ∷ xs) h next =
    let w = width (expr_view x.body) in
    let n = length (params_view x.params.items) in
    let here : ℕ → ℕ → List Instr = λ k m. bare_mark (mark.With k end) ∷ handler_code env labels valued tail d k m h next in
    let label : suc l + n + width_labels (handlers_of xs) ≡ l + width_labels (handlers_of (x ∷ xs)) = omega arith in
    let number : b + w + width_handlers (handlers_of xs) ≡ b + width_handlers (handlers_of (x ∷ xs)) = omega arith in
    ap (λ rest. bare_mark (mark.With l end) ∷ handler_code env labels valued tail d l b x rest)
    (handlers-last env labels valued tail d end (suc l + n) (b + w) xs h next
    ∙ ap (λ k. select_handlers env labels valued tail d end (suc l + n) (b + w) (handlers_of xs) (here k (b + w + width_handlers (handlers_of xs)))) label
    ∙ ap (λ m. select_handlers env labels valued tail d end (suc l + n) (b + w) (handlers_of xs) (here (l + width_labels (handlers_of (x ∷ xs))) m)) number)
