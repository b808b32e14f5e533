-- The forms that hold a vector: their views where the parts in it are replaced by ones of the same view.
use Rattle.std.proofs.Common.{◌≡◌, ℕ, ◌-◌, Bool, List, [], ◌∷◌, ◌++◌, Option, length, drop, refl, ap, sym, subst, ◌∙◌, arith, Vec, Box, Global}
use Rattle.bs_fault.specs.declared.fault.Fault.{Fault}
use Rattle.bs_words.specs.declared.types.Ty.{Ty}
use Rattle.bs_words.specs.declared.types.Ret.{Ret}
use Rattle.cmm_tree.specs.Tree.{Expression, Expressions, Bindings, Parameter}
use Rattle.cmm_tree.specs.Tree as tree
use Rattle.cmm_tree.specs.View.{expr_view, form_view, label_view}
use Rattle.cmm_tree.specs.declared.expr.Expr.{Expr}
use Rattle.cmm_tree.specs.declared.expr.Binding.{Binding}
use Rattle.cmm_tree.specs.declared.expr.Case.{Case}
use Rattle.cmm_tree.specs.declared.expr.Handler.{Handler}
use Rattle.cmm_tree.specs.declared.expr.Label.{Label}
use Rattle.cmm_tree.specs.declared.expr.Form as form
use Rattle.cmm_types.specs.Types.{Scoped, with_parameters, with_bindings, type_without_float, holds_float}
use Rattle.cmm_types.specs.Standing.{Visible}
use Rattle.cmm_tree.specs.Symbols.{DefinedSymbol}
use Rattle.cmm_types.specs.Faults.{row_length}
use Rattle.cmm_types.specs.Gathered.{faults_in}
use Rattle.bs_fault.specs.Reported.{noted_all}
use Rattle.cmm_tree.specs.Rows.{expressions_of, bindings_of, cases_of, handlers_of}
use Rattle.cmm_types.specs.Annotated.{IsAnnotated, PartsTyped}
use Rattle.cmm_types.specs.Lists.{AreAnnotated, AreBindingsAnnotated, AreCasesAnnotated, AreHandlersAnnotated}
use Rattle.cmm_tree.proofs.Rows.{seq_view, exit_view, alloc_view, float_view, extcall_view, app_view, let_view, switch_view, catch_view}
use Rattle.cmm_types.proofs.Views.{let_typed}
use Rattle.cmm_types.proofs.Leaving.{leave_bindings, leave_parameters, leave_front}

-- ---- what is said of a form, by its view

pub told : (d : List ℕ → Option DefinedSymbol) (names : List Scoped) (labels : List Visible) (found : Option Fault) (after : Option Fault) {x y : Expression} → x ≡ y → after ≡ noted_all (faults_in d names labels y) found → after ≡ noted_all (faults_in d names labels x) found
told d names labels found after e is = is ∙ sym (ap (λ w. noted_all (faults_in d names labels w) found) e)

pub plain_by : (names : List Scoped) (type : Ty) {x y : Expression} → x ≡ y → type ≡ type_without_float names y → type ≡ type_without_float names x
plain_by names type e is = is ∙ sym (ap (type_without_float names) e)

pub float_by : (float : Bool) {x y : Expression} → x ≡ y → float ≡ holds_float y → float ≡ holds_float x
float_by float e is = is ∙ sym (ap holds_float e)

-- ---- rows, by their vectors

pub row_same : {v w : Vec Expr Global} → v ≡ w → expressions_of v.items ≡ expressions_of w.items
row_same e = ap (λ (v : Vec Expr Global). expressions_of v.items) e

pub bindings_same : {v w : Vec Binding Global} → v ≡ w → bindings_of v.items ≡ bindings_of w.items
bindings_same e = ap (λ (v : Vec Binding Global). bindings_of v.items) e

pub cases_same : {v w : Vec Case Global} → v ≡ w → cases_of v.items ≡ cases_of w.items
cases_same e = ap (λ (v : Vec Case Global). cases_of v.items) e

pub handlers_same : {v w : Vec Handler Global} → v ≡ w → handlers_of v.items ≡ handlers_of w.items
handlers_same e = ap (λ (v : Vec Handler Global). handlers_of v.items) e

-- what a box lends has the view of what it holds
pub lent_same : {e : Expr} {b c : Box Expr Global} → e ≡ b.value → b ≡ c → expr_view e ≡ expr_view c.value
lent_same v s = ap (λ (x : Expr). expr_view x) (v ∙ ap (λ (b : Box Expr Global). b.value) s)

pub row_length_of : (xs : List Expr) → row_length (expressions_of xs) ≡ length xs
row_length_of xs = by xs
  where
    by : (xs : List Expr) → row_length (expressions_of xs) ≡ length xs
    by [] = refl
    by (x ∷ rest) = let more = by rest in omega (arith, more)

-- ---- views that stay

pub float_kept : (at w0 w : ℕ) (v old new : Vec Expr Global) → w0 ≡ w → old ≡ v → expressions_of new.items ≡ expressions_of old.items → form_view at (form.Float w0 new) ≡ form_view at (form.Float w v)
float_kept at w0 w v old new hw same view =
    float_view at w0 new ∙ ap (λ p. tree.Float at p (expressions_of new.items)) hw ∙ ap (tree.Float at w) (view ∙ row_same same) ∙ sym (float_view at w v)

pub alloc_kept : (at a0 a h0 h : ℕ) (v old new : Vec Expr Global) → a0 ≡ a → h0 ≡ h → old ≡ v → expressions_of new.items ≡ expressions_of old.items → form_view at (form.Alloc a0 h0 new) ≡ form_view at (form.Alloc a h v)
alloc_kept at a0 a h0 h v old new ha hh same view =
    alloc_view at a0 h0 new
    ∙ ap (λ p. tree.Alloc at p h0 (expressions_of new.items)) ha
    ∙ ap (λ p. tree.Alloc at a p (expressions_of new.items)) hh
    ∙ ap (tree.Alloc at a h) (view ∙ row_same same)
    ∙ sym (alloc_view at a h v)

pub seq_kept : (at : ℕ) (v old new : Vec Expr Global) → old ≡ v → expressions_of new.items ≡ expressions_of old.items → form_view at (form.Seq new) ≡ form_view at (form.Seq v)
seq_kept at v old new same view = seq_view at new ∙ ap (tree.Seq at) (view ∙ row_same same) ∙ sym (seq_view at v)

pub exit_kept : (at a0 a : ℕ) (label0 label : Label) (v old new : Vec Expr Global) → a0 ≡ a → label0 ≡ label → old ≡ v → expressions_of new.items ≡ expressions_of old.items → form_view at (form.Exit a0 label0 new) ≡ form_view at (form.Exit a label v)
exit_kept at a0 a label0 label v old new ha hl same view =
    exit_view at a0 label0 new
    ∙ ap (λ p. tree.Exit at p (label_view label0) (expressions_of new.items)) ha
    ∙ ap (λ (p : Label). tree.Exit at a (label_view p) (expressions_of new.items)) hl
    ∙ ap (tree.Exit at a (label_view label)) (view ∙ row_same same)
    ∙ sym (exit_view at a label v)

pub extcall_kept : (at : ℕ) (f0 f : Bool) (name0 name : List ℕ) (g0 g : Ret) (a0 a : ℕ) (v old new : Vec Expr Global) → f0 ≡ f → name0 ≡ name → g0 ≡ g → a0 ≡ a → old ≡ v → expressions_of new.items ≡ expressions_of old.items → form_view at (form.Extcall f0 name0 new g0 a0) ≡ form_view at (form.Extcall f name v g a)
extcall_kept at f0 f name0 name g0 g a0 a v old new hf hn hg ha same view =
    extcall_view at f0 name0 new g0 a0
    ∙ ap (λ p. tree.Extcall at p name0 (expressions_of new.items) g0 a0) hf
    ∙ ap (λ p. tree.Extcall at f p (expressions_of new.items) g0 a0) hn
    ∙ ap (λ p. tree.Extcall at f name (expressions_of new.items) p a0) hg
    ∙ ap (λ p. tree.Extcall at f name (expressions_of new.items) g p) ha
    ∙ ap (λ (r : Expressions). tree.Extcall at f name r g a) (view ∙ row_same same)
    ∙ sym (extcall_view at f name v g a)

pub app_kept : (at : ℕ) (g0 g : Ret) (a0 a : ℕ) (b : Box Expr Global) (e : Expr) (v old new : Vec Expr Global) → g0 ≡ g → a0 ≡ a → expr_view e ≡ expr_view b.value → old ≡ v → expressions_of new.items ≡ expressions_of old.items → form_view at (form.App (record b { value = e }) new g0 a0) ≡ form_view at (form.App b v g a)
app_kept at g0 g a0 a b e v old new hg ha first same view =
    app_view at (record b { value = e }) new g0 a0
    ∙ ap (λ p. tree.App at (expr_view e) (expressions_of new.items) p a0) hg
    ∙ ap (λ p. tree.App at (expr_view e) (expressions_of new.items) g p) ha
    ∙ ap (λ (w : Expression). tree.App at w (expressions_of new.items) g a) first
    ∙ ap (λ (r : Expressions). tree.App at (expr_view b.value) r g a) (view ∙ row_same same)
    ∙ sym (app_view at b v g a)

pub switch_kept : (at a0 a s0 s : ℕ) (b : Box Expr Global) (e : Expr) (v old new : Vec Case Global) → a0 ≡ a → s0 ≡ s → expr_view e ≡ expr_view b.value → old ≡ v → cases_of new.items ≡ cases_of old.items → form_view at (form.Switch a0 s0 (record b { value = e }) new) ≡ form_view at (form.Switch a s b v)
switch_kept at a0 a s0 s b e v old new ha hs first same view =
    switch_view at a0 s0 (record b { value = e }) new
    ∙ ap (λ p. tree.Switch at p s0 (expr_view e) (cases_of new.items)) ha
    ∙ ap (λ p. tree.Switch at a p (expr_view e) (cases_of new.items)) hs
    ∙ ap (λ (w : Expression). tree.Switch at a s w (cases_of new.items)) first
    ∙ ap (tree.Switch at a s (expr_view b.value)) (view ∙ cases_same same)
    ∙ sym (switch_view at a s b v)

pub let_kept : (at : ℕ) (b : Box Expr Global) (e : Expr) (v old new : Vec Binding Global) → expr_view e ≡ expr_view b.value → old ≡ v → bindings_of new.items ≡ bindings_of old.items → form_view at (form.Let new (record b { value = e })) ≡ form_view at (form.Let v b)
let_kept at b e v old new last same view =
    let_view at new (record b { value = e })
    ∙ ap (λ (r : Bindings). tree.Let at r (expr_view e)) (view ∙ bindings_same same)
    ∙ ap (tree.Let at (bindings_of v.items)) last
    ∙ sym (let_view at v b)

pub catch_kept : (at : ℕ) (b : Box Expr Global) (e : Expr) (v old new : Vec Handler Global) → expr_view e ≡ expr_view b.value → old ≡ v → handlers_of new.items ≡ handlers_of old.items → form_view at (form.Catch (record b { value = e }) new) ≡ form_view at (form.Catch b v)
catch_kept at b e v old new first same view =
    catch_view at (record b { value = e }) new
    ∙ ap (λ (w : Expression). tree.Catch at w (handlers_of new.items)) first
    ∙ ap (tree.Catch at (expr_view b.value)) (view ∙ handlers_same same)
    ∙ sym (catch_view at b v)

-- ---- scopes that are left

pub left_bindings : (names now after : List Scoped) (row : Bindings) (outer : ℕ) → outer ≡ length names → now ≡ with_bindings names row → after ≡ drop (length now - outer) now → after ≡ names
left_bindings names now after row outer count is left =
    left
    ∙ ap (λ n. drop (length now - n) now) count
    ∙ ap (λ l. drop (length l - length names) l) is
    ∙ leave_bindings names row

pub left_parameters : (names now after : List Scoped) (params : List Parameter) (outer : ℕ) → outer ≡ length names → now ≡ with_parameters params names → after ≡ drop (length now - outer) now → after ≡ names
left_parameters names now after params outer count is left =
    left
    ∙ ap (λ n. drop (length now - n) now) count
    ∙ ap (λ l. drop (length l - length names) l) is
    ∙ leave_parameters params names

pub left_labels : (front labels now after : List Visible) (outer : ℕ) → outer ≡ length labels → now ≡ front ++ labels → after ≡ drop (length now - outer) now → after ≡ labels
left_labels front labels now after outer count is left =
    left
    ∙ ap (λ n. drop (length now - n) now) count
    ∙ ap (λ l. drop (length l - length labels) l) is
    ∙ leave_front front labels

-- ---- nodes that hold their types

pub annotated_in : {names now : List Scoped} (xs : List Expr) → now ≡ names → AreAnnotated now xs → AreAnnotated names xs
annotated_in {names} {now} xs e t = let P : List Scoped → Type 0 = λ n. AreAnnotated n xs in subst P e t

pub cases_in_scope : {names now : List Scoped} (xs : List Case) → now ≡ names → AreCasesAnnotated now xs → AreCasesAnnotated names xs
cases_in_scope {names} {now} xs e t = let P : List Scoped → Type 0 = λ n. AreCasesAnnotated n xs in subst P e t

pub handlers_in_scope : {names now : List Scoped} (xs : List Handler) → now ≡ names → AreHandlersAnnotated now xs → AreHandlersAnnotated names xs
handlers_in_scope {names} {now} xs e t = let P : List Scoped → Type 0 = λ n. AreHandlersAnnotated n xs in subst P e t

pub one_in : {names now : List Scoped} (e : Expr) → now ≡ names → IsAnnotated now e → IsAnnotated names e
one_in {names} {now} e p t = let P : List Scoped → Type 0 = λ n. IsAnnotated n e in subst P p t

pub let_annotated : (names now : List Scoped) (b : Box Expr Global) (e : Expr) (new : Vec Binding Global) {row : Bindings} → AreBindingsAnnotated names new.items → bindings_of new.items ≡ row → now ≡ with_bindings names row → IsAnnotated now e → PartsTyped names (form.Let new (record b { value = e }))
let_annotated names now b e new {row} all view is own =
    let_typed names new (record b { value = e }) all (one_in e (is ∙ sym (ap (with_bindings names) view)) own)
