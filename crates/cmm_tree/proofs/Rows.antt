-- What the views of forms with rows are, by the lists that the code holds.
use Rattle.std.proofs.Common.{◌≡◌, ℕ, Bool, List, map, option_map, refl, ap, ◌∙◌, Vec, Box, Global}
use mathlib.Core.Former.{Count}
use Rattle.bs_words.specs.declared.types.Ret.{Ret}
use Rattle.cmm_tree.specs.declared.expr.Expr.{Expr}
use Rattle.cmm_tree.specs.declared.expr.Binding.{Binding}
use Rattle.cmm_tree.specs.declared.expr.Case.{Case}
use Rattle.cmm_tree.specs.declared.expr.Handler.{Handler}
use Rattle.cmm_tree.specs.declared.expr.Label.{Label}
use Rattle.cmm_tree.specs.declared.expr.Form.{Form}
use Rattle.cmm_tree.specs.declared.expr.Form as form
use Rattle.cmm_tree.specs.Tree as tree
use Rattle.cmm_tree.specs.Place.{place_of}
use Rattle.cmm_tree.specs.View.{expr_view, form_view, row_view, bindings_view, cases_view, handlers_view, declared_view, index_view, label_view, params_view}
use Rattle.cmm_tree.specs.Rows.{expressions_of, bindings_of, cases_of, handlers_of}

-- a form begins where its node does
pub place_view : (at : ℕ) (f : Form) → place_of (form_view at f) ≡ at
place_view at (form.Integer word) = refl
place_view at (form.Pointer word) = refl
place_view at (form.Symbol name) = refl
place_view at (form.Name name) = refl
place_view at form.Nothing = refl
place_view at (form.Float' word_at shape operands) = refl
place_view at (form.Let' shape bindings p body_at body_ty body) = refl
place_view at (form.Assign' name_at name p value_at value_ty value) = refl
place_view at (form.Operator' op p left_at left_ty left q right_at right_ty right) = refl
place_view at (form.Load' chunk p address_at address_ty address) = refl
place_view at (form.Store' chunk p address_at address_ty address q value_at value_ty value) = refl
place_view at (form.Alloc' header_at header shape operands) = refl
place_view at (form.App' p callee_at callee_ty callee shape arguments result result_at) = refl
place_view at (form.Extcall' frame name shape arguments result result_at) = refl
place_view at (form.Checkbound' p bound_at bound_ty bound q index_at index_ty index) = refl
place_view at (form.Raise' p value_at value_ty value) = refl
place_view at (form.Seq' shape elements) = refl
place_view at (form.If' p condition_at condition_ty condition q true_at true_ty on_true r false_at false_ty on_false) = refl
place_view at (form.Switch' size_at size p selector_at selector_ty selector shape cases) = refl
place_view at (form.Catch' p body_at body_ty body shape handlers) = refl
place_view at (form.Exit' label_at label shape arguments) = refl
place_view at (form.Try' p body_at body_ty body name_at name q handler_at handler_ty handler) = refl

-- ---- a row of the tree and the list of its items

pub row_items : (n : Count) (k : form.Row_of-Expr n) → row_view k ≡ expressions_of (form.items-the_row-Expr n k)
row_items n form.end_of-Expr = refl
row_items n (form.more_of-Expr at ty f rest) = ap (tree.More (form_view at f)) (row_items _ rest)

pub bindings_items : (n : Count) (k : form.Row_of-Binding n) → bindings_view k ≡ bindings_of (form.items-the_row-Binding n k)
bindings_items n form.end_of-Binding = refl
bindings_items n (form.more_of-Binding at name declared value_at value_ty value rest) =
    ap (tree.Bind at name (option_map declared_view declared) (form_view value_at value)) (bindings_items _ rest)

pub cases_items : (n : Count) (k : form.Row_of-Case n) → cases_view k ≡ cases_of (form.items-the_row-Case n k)
cases_items n form.end_of-Case = refl
cases_items n (form.more_of-Case indexes body_at body_ty body rest) =
    ap (tree.Choose (map index_view indexes.items) (form_view body_at body)) (cases_items _ rest)

pub handlers_items : (n : Count) (k : form.Row_of-Handler n) → handlers_view k ≡ handlers_of (form.items-the_row-Handler n k)
handlers_items n form.end_of-Handler = refl
handlers_items n (form.more_of-Handler at label params body_at body_ty body rest) =
    ap (tree.Handle at (label_view label) (params_view params.items) (form_view body_at body)) (handlers_items _ rest)

-- ---- the row that a form holds

abbrev pub row_in : Form → (n : Count) × form.Row_of-Expr n
row_in (form.Seq' _ row) = (_, row)
row_in _ = (_, form.end_of-Expr)

abbrev pub bindings_in : Form → (n : Count) × form.Row_of-Binding n
bindings_in (form.Let' _ row p at ty f) = (_, row)
bindings_in _ = (_, form.end_of-Binding)

abbrev pub cases_in : Form → (n : Count) × form.Row_of-Case n
cases_in (form.Switch' size_at size p at ty f _ row) = (_, row)
cases_in _ = (_, form.end_of-Case)

abbrev pub handlers_in : Form → (n : Count) × form.Row_of-Handler n
handlers_in (form.Catch' p at ty f _ row) = (_, row)
handlers_in _ = (_, form.end_of-Handler)

-- the row of a vector, by its items
pub row-is : (v : Vec Expr Global) → row_view (row_in (form.Seq v)).1 ≡ expressions_of v.items
row-is v = row_items (row_in (form.Seq v)).0 (row_in (form.Seq v)).1 ∙ ap expressions_of (form.items_hidden-the_row-Expr-0 v)

pub seq_view : (at : ℕ) (v : Vec Expr Global) → form_view at (form.Seq v) ≡ tree.Seq at (expressions_of v.items)
seq_view at v = ap (tree.Seq at) (row-is v)

pub exit_view : (at label_at : ℕ) (label : Label) (v : Vec Expr Global) → form_view at (form.Exit label_at label v) ≡ tree.Exit at label_at (label_view label) (expressions_of v.items)
exit_view at label_at label v = ap (tree.Exit at label_at (label_view label)) (row-is v)

pub alloc_view : (at header_at header : ℕ) (v : Vec Expr Global) → form_view at (form.Alloc header_at header v) ≡ tree.Alloc at header_at header (expressions_of v.items)
alloc_view at header_at header v = ap (tree.Alloc at header_at header) (row-is v)

pub float_view : (at word_at : ℕ) (v : Vec Expr Global) → form_view at (form.Float word_at v) ≡ tree.Float at word_at (expressions_of v.items)
float_view at word_at v = ap (tree.Float at word_at) (row-is v)

pub extcall_view : (at : ℕ) (frame : Bool) (name : List ℕ) (v : Vec Expr Global) (result : Ret) (result_at : ℕ) → form_view at (form.Extcall frame name v result result_at) ≡ tree.Extcall at frame name (expressions_of v.items) result result_at
extcall_view at frame name v result result_at = ap (λ (r : tree.Expressions). tree.Extcall at frame name r result result_at) (row-is v)

pub app_view : (at : ℕ) (b : Box Expr Global) (v : Vec Expr Global) (result : Ret) (result_at : ℕ) → form_view at (form.App b v result result_at) ≡ tree.App at (expr_view b.value) (expressions_of v.items) result result_at
app_view at b v result result_at = ap (λ (r : tree.Expressions). tree.App at (expr_view b.value) r result result_at) (row-is v)

pub bindings-is : (v : Vec Binding Global) (b : Box Expr Global) → bindings_view (bindings_in (form.Let v b)).1 ≡ bindings_of v.items
bindings-is v b = bindings_items (bindings_in (form.Let v b)).0 (bindings_in (form.Let v b)).1 ∙ ap bindings_of (form.items_hidden-the_row-Binding-1 v)

pub let_view : (at : ℕ) (v : Vec Binding Global) (b : Box Expr Global) → form_view at (form.Let v b) ≡ tree.Let at (bindings_of v.items) (expr_view b.value)
let_view at v b = ap (λ (r : tree.Bindings). tree.Let at r (expr_view b.value)) (bindings-is v b)

pub switch_view : (at size_at size : ℕ) (b : Box Expr Global) (v : Vec Case Global) → form_view at (form.Switch size_at size b v) ≡ tree.Switch at size_at size (expr_view b.value) (cases_of v.items)
switch_view at size_at size b v =
    ap (tree.Switch at size_at size (expr_view b.value))
    (cases_items (cases_in (form.Switch size_at size b v)).0 (cases_in (form.Switch size_at size b v)).1 ∙ ap cases_of (form.items_hidden-the_row-Case-2 v))

pub catch_view : (at : ℕ) (b : Box Expr Global) (v : Vec Handler Global) → form_view at (form.Catch b v) ≡ tree.Catch at (expr_view b.value) (handlers_of v.items)
catch_view at b v =
    ap (tree.Catch at (expr_view b.value))
    (handlers_items (handlers_in (form.Catch b v)).0 (handlers_in (form.Catch b v)).1 ∙ ap handlers_of (form.items_hidden-the_row-Handler-3 v))
