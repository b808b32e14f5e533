-- The rows inside expressions, as lists, and what is noted of lists one by one.
use Rattle.std.proofs.Common.{◌≡◌, ℕ, Bool, List, [], ◌∷◌, Some, None, map, option_map, refl, ap, ◌∙◌}
use Rattle.std.specs.List.{slice_get}
use Rattle.std.proofs.lemmas.Option.{slice_get-map}
use Rattle.cmm_tree.specs.Tree.{Parameter}
use Rattle.cmm_tree.specs.declared.expr.Expr.{Expr}
use Rattle.cmm_tree.specs.declared.file.Param.{Param}
use Rattle.cmm_tree.specs.View.{param_view, expr_view, form_view, params_view}
use Rattle.cmm_tree.specs.declared.expr.Form as form
use Rattle.cmm_tree.specs.Place.{place_of}
use Rattle.cmm_tree.specs.Rows.{expressions_of, bindings_of, cases_of, handlers_of}
use Rattle.cmm_tree.proofs.Rows.{place_view, seq_view, exit_view, alloc_view, float_view, extcall_view, app_view, let_view, switch_view, catch_view}
use Rattle.cmm_limits.specs.Limits.{places, too_many, size_faults, faults_in, row_faults, binding_faults, case_faults, handler_faults}
use Rattle.bs_fault.specs.Limits.{most_params}
use Rattle.bs_fault.specs.Reported.{Both}
use Rattle.bs_words.specs.declared.types.Ret.{Ret}
use Rattle.cmm_tree.specs.declared.expr.Binding.{Binding}
use Rattle.cmm_tree.specs.declared.expr.Case.{Case}
use Rattle.cmm_tree.specs.declared.expr.Handler.{Handler}
use Rattle.cmm_tree.specs.declared.expr.Label.{Label}
use Rattle.std.proofs.Common.{Vec, Global}
use Rattle.std.specs.Prelude.{Box}

-- the places of a row
pub places-are : (es : List Expr) → places (expressions_of es) ≡ map (λ (e : Expr). e.at) es
places-are [] = refl
places-are (e ∷ es) = ap (λ (v : List ℕ). place_of (expr_view e) ∷ v) (places-are es) ∙ ap (λ v. v ∷ map (λ (e : Expr). e.at) es) (place_view e.at e.form)

pub argument-some : (es : List Expr) (e : Expr) → slice_get es most_params ≡ Some e → slice_get (places (expressions_of es)) most_params ≡ Some e.at
argument-some es e h =
    ap (λ v. slice_get v most_params) (places-are es) ∙ slice_get-map (λ (e : Expr). e.at) es most_params ∙ ap (option_map (λ (e : Expr). e.at)) h

pub argument-none : (es : List Expr) → slice_get es most_params ≡ None → slice_get (places (expressions_of es)) most_params ≡ None
argument-none es h =
    ap (λ v. slice_get v most_params) (places-are es) ∙ slice_get-map (λ (e : Expr). e.at) es most_params ∙ ap (option_map (λ (e : Expr). e.at)) h

pub param-some : (ps : List Param) (p : Param) → slice_get ps most_params ≡ Some p
    → slice_get (map (λ (p : Parameter). p.at) (params_view ps)) most_params ≡ Some p.at
param-some ps p h =
    slice_get-map (λ (p : Parameter). p.at) (params_view ps) most_params
    ∙ ap (option_map (λ (p : Parameter). p.at)) (slice_get-map param_view ps most_params ∙ ap (option_map param_view) h)

pub param-none : (ps : List Param) → slice_get ps most_params ≡ None → slice_get (map (λ (p : Parameter). p.at) (params_view ps)) most_params ≡ None
param-none ps h =
    slice_get-map (λ (p : Parameter). p.at) (params_view ps) most_params
    ∙ ap (option_map (λ (p : Parameter). p.at)) (slice_get-map param_view ps most_params ∙ ap (option_map param_view) h)

-- ---- the faults of forms that hold lists

pub float-faults : (at word_at : ℕ) (operands : Vec Expr Global)
    → faults_in (form_view at (form.Float word_at operands)) ≡ row_faults (expressions_of operands.items)
float-faults at word_at operands = ap faults_in (float_view at word_at operands)

pub alloc-faults : (at header_at header : ℕ) (operands : Vec Expr Global)
    → faults_in (form_view at (form.Alloc header_at header operands)) ≡ row_faults (expressions_of operands.items)
alloc-faults at header_at header operands = ap faults_in (alloc_view at header_at header operands)

pub seq-faults : (at : ℕ) (elements : Vec Expr Global)
    → faults_in (form_view at (form.Seq elements)) ≡ row_faults (expressions_of elements.items)
seq-faults at elements = ap faults_in (seq_view at elements)

pub exit-faults : (at label_at : ℕ) (label : Label) (arguments : Vec Expr Global)
    → faults_in (form_view at (form.Exit label_at label arguments)) ≡ row_faults (expressions_of arguments.items)
exit-faults at label_at label arguments = ap faults_in (exit_view at label_at label arguments)

pub extcall-faults : (at : ℕ) (frame : Bool) (name : List ℕ) (arguments : Vec Expr Global) (result : Ret) (result_at : ℕ)
    → faults_in (form_view at (form.Extcall frame name arguments result result_at))
    ≡ Both (too_many (places (expressions_of arguments.items))) (row_faults (expressions_of arguments.items))
extcall-faults at frame name arguments result result_at = ap faults_in (extcall_view at frame name arguments result result_at)

pub app-faults : (at : ℕ) (callee : Box Expr Global) (arguments : Vec Expr Global) (result : Ret) (result_at : ℕ)
    → faults_in (form_view at (form.App callee arguments result result_at))
    ≡ Both (too_many (places (expressions_of arguments.items))) (Both (faults_in (expr_view callee.value)) (row_faults (expressions_of arguments.items)))
app-faults at callee arguments result result_at = ap faults_in (app_view at callee arguments result result_at)

pub let-faults : (at : ℕ) (bindings : Vec Binding Global) (body : Box Expr Global)
    → faults_in (form_view at (form.Let bindings body)) ≡ Both (binding_faults (bindings_of bindings.items)) (faults_in (expr_view body.value))
let-faults at bindings body = ap faults_in (let_view at bindings body)

pub switch-faults : (at size_at size : ℕ) (selector : Box Expr Global) (cases : Vec Case Global)
    → faults_in (form_view at (form.Switch size_at size selector cases))
    ≡ Both (size_faults size_at size) (Both (faults_in (expr_view selector.value)) (case_faults size (cases_of cases.items)))
switch-faults at size_at size selector cases = ap faults_in (switch_view at size_at size selector cases)

pub catch-faults : (at : ℕ) (body : Box Expr Global) (handlers : Vec Handler Global)
    → faults_in (form_view at (form.Catch body handlers)) ≡ Both (faults_in (expr_view body.value)) (handler_faults (handlers_of handlers.items))
catch-faults at body handlers = ap faults_in (catch_view at body handlers)
