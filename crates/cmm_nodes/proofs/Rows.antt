-- The forms that hold rows, by the lists that the code holds.
use Rattle.std.proofs.Common.{◌≡◌, ℕ, ◌==◌, Bool, true, false, List, [], ◌∷◌, length, map, option_map, refl, sym, ap, subst, ◌∙◌}
use Rattle.std.specs.List.{insert}
use Rattle.cmm_tree.specs.Tree.{Expression, Expressions, NoMore, More, LabelTree, Bindings, Bind}
use Rattle.cmm_tree.specs.Tree as tree
use Rattle.cmm_tree.specs.View.{expr_view, form_view, declared_view, label_view}
use Rattle.cmm_tree.specs.Rows.{expressions_of, bindings_of, cases_of, handlers_of}
use Rattle.cmm_tree.proofs.Rows.{seq_view, exit_view, alloc_view, float_view, extcall_view, app_view, let_view, switch_view, catch_view}
use Rattle.cmm_tree.specs.declared.expr.Expr.{Expr}
use Rattle.cmm_tree.specs.declared.expr.Binding.{Binding}
use Rattle.cmm_tree.specs.declared.expr.Form.{Form, Float, Alloc, App, App', Extcall, Exit, Let, Let', Switch, Switch', Catch, Catch', Seq}
use Rattle.cmm_grammar.specs.Rewriting.{exit_to}
use Rattle.cmm_grammar.specs.Parts.{expressions, bindings, sequence_at}
use Rattle.cmm_nodes.specs.Nodes.{binding_part}

expressions_are : (es : List Expr) → expressions_of es ≡ expressions (map expr_view es)
expressions_are [] = refl
expressions_are (e ∷ es) = ap (More (expr_view e)) (expressions_are es)

bindings_are : (bs : List Binding) → bindings_of bs ≡ bindings (map binding_part bs)
bindings_are [] = refl
bindings_are (b ∷ bs) = ap (Bind b.at b.name (option_map declared_view b.declared) (expr_view b.value)) (bindings_are bs)

view_at : (r : Expr) (at : ℕ) (f : Form) → r.at ≡ at → r.form ≡ f → expr_view r ≡ form_view at f
view_at r at f h g = ap (λ (a : ℕ). form_view a r.form) h ∙ ap (λ (v : Form). form_view at v) g

pub seq_is : (r : Expr) (at : ℕ) (v : _) → r.at ≡ at → r.form ≡ Seq v → expr_view r ≡ tree.Seq at (expressions (map expr_view v.items))
seq_is r at v h g =
    view_at r at (Seq v) h g ∙ (seq_view at v ∙ ap (tree.Seq at) (expressions_are v.items))

pub float_is : (r : Expr) (at word_at : ℕ) (v : _) → r.at ≡ at → r.form ≡ Float word_at v → expr_view r ≡ tree.Float at word_at (expressions (map expr_view v.items))
float_is r at word_at v h g =
    view_at r at (Float word_at v) h g ∙ (float_view at word_at v ∙ ap (tree.Float at word_at) (expressions_are v.items))

pub alloc_is : (r : Expr) (at header_at header : ℕ) (v : _) → r.at ≡ at → r.form ≡ Alloc header_at header v
    → expr_view r ≡ tree.Alloc at header_at header (expressions (map expr_view v.items))
alloc_is r at header_at header v h g =
    view_at r at (Alloc header_at header v) h g
    ∙ (alloc_view at header_at header v ∙ ap (tree.Alloc at header_at header) (expressions_are v.items))

pub extcall_is : (r : Expr) (at : ℕ) (frame : Bool) (name : _) (v : _) (ret : _) (ret_at : ℕ) → r.at ≡ at → r.form ≡ Extcall frame name v ret ret_at
    → expr_view r ≡ tree.Extcall at frame name (expressions (map expr_view v.items)) ret ret_at
extcall_is r at frame name v ret ret_at h g =
    view_at r at (Extcall frame name v ret ret_at) h g
    ∙ (extcall_view at frame name v ret ret_at ∙ ap (λ (x : Expressions). tree.Extcall at frame name x ret ret_at) (expressions_are v.items))

pub exit_is : (r : Expr) (at label_at : ℕ) (label : _) (v : _) → r.at ≡ at → r.form ≡ Exit label_at label v
    → expr_view r ≡ tree.Exit at label_at (label_view label) (expressions (map expr_view v.items))
exit_is r at label_at label v h g =
    view_at r at (Exit label_at label v) h g
    ∙ (exit_view at label_at label v ∙ ap (tree.Exit at label_at (label_view label)) (expressions_are v.items))

-- the expression in the box of a form
abbrev pub boxed : Form → Expression
boxed (App' p at ty f shape arguments ret ret_at) = form_view at f
boxed (Let' shape found p at ty f) = form_view at f
boxed (Switch' size_at size p at ty f shape found) = form_view at f
boxed (Catch' p at ty f shape found) = form_view at f
boxed f = tree.Nothing 0

pub app_is : (r : Expr) (at : ℕ) (b : _) (v : _) (ret : _) (ret_at : ℕ) (e : Expression) → r.at ≡ at → r.form ≡ App b v ret ret_at → boxed (App b v ret ret_at) ≡ e
    → expr_view r ≡ tree.App at e (expressions (map expr_view v.items)) ret ret_at
app_is r at b v ret ret_at e h g i =
    view_at r at (App b v ret ret_at) h g
    ∙ (app_view at b v ret ret_at
    ∙ (ap (λ (x : Expressions). tree.App at (expr_view b.value) x ret ret_at) (expressions_are v.items)
    ∙ ap (λ (y : Expression). tree.App at y (expressions (map expr_view v.items)) ret ret_at) i))

pub let_is : (r : Expr) (at : ℕ) (v : _) (b : _) (e : Expression) → r.at ≡ at → r.form ≡ Let v b → boxed (Let v b) ≡ e
    → expr_view r ≡ tree.Let at (bindings (map binding_part v.items)) e
let_is r at v b e h g i =
    view_at r at (Let v b) h g
    ∙ (let_view at v b
    ∙ (ap (λ (x : Bindings). tree.Let at x (expr_view b.value)) (bindings_are v.items) ∙ ap (tree.Let at (bindings (map binding_part v.items))) i))

pub switch_is : (r : Expr) (at size_at size : ℕ) (b : _) (v : _) (e : Expression) → r.at ≡ at → r.form ≡ Switch size_at size b v → boxed (Switch size_at size b v) ≡ e
    → expr_view r ≡ tree.Switch at size_at size e (cases_of v.items)
switch_is r at size_at size b v e h g i =
    view_at r at (Switch size_at size b v) h g
    ∙ (switch_view at size_at size b v ∙ ap (λ (y : Expression). tree.Switch at size_at size y (cases_of v.items)) i)

pub catch_is : (r : Expr) (at : ℕ) (b : _) (v : _) (e : Expression) → r.at ≡ at → r.form ≡ Catch b v → boxed (Catch b v) ≡ e
    → expr_view r ≡ tree.Catch at e (handlers_of v.items)
catch_is r at b v e h g i =
    view_at r at (Catch b v) h g
    ∙ (catch_view at b v ∙ ap (λ (y : Expression). tree.Catch at y (handlers_of v.items)) i)

-- an expression before others is a sequence with them
pub seq_of_more : (e : Expression) (at : ℕ) (first : Expr) (more items : List Expr) (n : ℕ) → e ≡ tree.Seq at (expressions (map expr_view items)) → items ≡ insert more 0 first
    → (n == 0) ≡ false
    → length more ≡ n
    → e ≡ sequence_at at (expr_view first) (map expr_view more)
seq_of_more e at first [] items n h i k l = let bad : true ≡ false = subst (λ (m : ℕ). (m == 0) ≡ false) (sym l) k in cc
seq_of_more e at first (m ∷ ms) items n h i k l = h ∙ ap (λ (v : List Expr). tree.Seq at (expressions (map expr_view v))) i

pub exit_alone : (e : Expression) (at : ℕ) (label : LabelTree) (items : List Expr) → e ≡ tree.Exit at at label (expressions (map expr_view items)) → items ≡ [] → e ≡ exit_to at label
exit_alone e at label items h g = h ∙ ap (λ (v : List Expr). tree.Exit at at label (expressions (map expr_view v))) g

pub float_alone : (e : Expression) (at : ℕ) (items : List Expr) → e ≡ tree.Float at at (expressions (map expr_view items)) → items ≡ [] → e ≡ tree.Float at at NoMore
float_alone e at items h g = h ∙ ap (λ (v : List Expr). tree.Float at at (expressions (map expr_view v))) g
