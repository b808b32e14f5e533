-- Forms: what they stand for, and that their parts hold their types.
use Rattle.std.proofs.Common.{◌≡◌, ℕ, Bool, false, List, ◌∷◌, option_map, refl, sym, ap, ◌∙◌, subst, Vec, Box, Global}
use mathlib.Core.Former.{Count}
use Rattle.bs_words.specs.declared.types.Ret.{Ret}
use Rattle.bs_words.specs.declared.types.Ty.TheVariants as ty
use Rattle.cmm_tree.specs.Tree.{Expression, NoBinding}
use Rattle.cmm_tree.specs.Tree as tree
use Rattle.cmm_tree.specs.View.{expr_view, form_view, declared_view, label_view}
use Rattle.cmm_tree.specs.declared.expr.Binding.{Binding}
use Rattle.cmm_tree.specs.declared.expr.Case.{Case}
use Rattle.cmm_tree.specs.declared.expr.Expr.{Expr}
use Rattle.cmm_tree.specs.declared.expr.Form.{Form}
use Rattle.cmm_tree.specs.declared.expr.Form as form
use Rattle.cmm_tree.specs.declared.expr.Handler.{Handler}
use Rattle.cmm_tree.specs.declared.expr.Label.{Label}
use Rattle.cmm_tree.proofs.Rows.{row_in, bindings_in, cases_in, handlers_in, bindings-is, seq_view, exit_view, alloc_view, extcall_view, app_view, let_view, switch_view, catch_view}
use Rattle.cmm_types.specs.Annotated.{IsAnnotated, RowTyped, BindingsTyped, CasesTyped, HandlersTyped, PartsTyped}
use Rattle.cmm_types.specs.Lists.{AreAnnotated, AreBindingsAnnotated, AreCasesAnnotated, AreHandlersAnnotated}
use Rattle.cmm_tree.specs.Rows.{expressions_of, bindings_of, cases_of, handlers_of}
use Rattle.cmm_types.specs.Types.{Scoped, with_bindings}
use Rattle.walk_tables.specs.Sound.{AddsCells}
use Rattle.walk_tables.specs.Walks.{Slotted, names, tasks_of}
use Rattle.walk_tables.specs.declared.items.Item.{Item}
use Rattle.walk_tables.proofs.Pushed.{adds-as}

typed_row : (ns : List Scoped) (n : Count) (k : form.Row_of-Expr n) → RowTyped ns k → AreAnnotated ns (form.items-the_row-Expr n k)
typed_row ns n form.end_of-Expr t = tt
typed_row ns n (form.more_of-Expr at ty f rest) t = (t.0, typed_row ns _ rest t.1)

typed_bindings : (ns : List Scoped) (n : Count) (k : form.Row_of-Binding n) → BindingsTyped ns k → AreBindingsAnnotated ns (form.items-the_row-Binding n k)
typed_bindings ns n form.end_of-Binding t = tt
typed_bindings ns n (form.more_of-Binding at name declared value_at value_ty value rest) t =
    (t.0, typed_bindings (with_bindings ns (tree.Bind at name (option_map declared_view declared) (form_view value_at value) tree.NoBinding)) _ rest t.1)

typed_cases : (ns : List Scoped) (n : Count) (k : form.Row_of-Case n) → CasesTyped ns k → AreCasesAnnotated ns (form.items-the_row-Case n k)
typed_cases ns n form.end_of-Case t = tt
typed_cases ns n (form.more_of-Case indexes body_at body_ty body rest) t = (t.0, typed_cases ns _ rest t.1)

typed_handlers : (ns : List Scoped) (n : Count) (k : form.Row_of-Handler n) → HandlersTyped ns k → AreHandlersAnnotated ns (form.items-the_row-Handler n k)
typed_handlers ns n form.end_of-Handler t = tt
typed_handlers ns n (form.more_of-Handler at label params body_at body_ty body rest) t = (t.0, typed_handlers ns _ rest t.1)

-- ---- the row that a form holds

row-typed : (ns : List Scoped) (v : Vec Expr Global) (es : List Expr) → es ≡ v.items → RowTyped ns (row_in (form.Seq v)).1 → AreAnnotated ns es
row-typed ns v es e t =
    let P : List Expr → Type 0 = λ l. AreAnnotated ns l in
    subst P (form.items_hidden-the_row-Expr-0 v ∙ sym e) (typed_row ns (row_in (form.Seq v)).0 (row_in (form.Seq v)).1 t)

is-typed : (ns : List Scoped) (e e' : Expr) → e' ≡ e → IsAnnotated ns e → IsAnnotated ns e'
is-typed ns e e' q t =
    let P : Expr → Type 0 = λ x. IsAnnotated ns x in
    subst P (sym q) t

-- what a form stands for, and what its parts hold
pub record Shape (ns : List Scoped) (at : ℕ) (f : Form) (e : Expression) (Parts : Type 0) : Type 0 where
  pub view : form_view at f ≡ e
  pub parts : PartsTyped ns f → Parts

pub by-shape : {old new : List Item} {cell rest : ℕ} (s : List Slotted) (slot : ℕ) (e : Expr) (f : Form) (t : Expression) (Parts : Type 0)
    → e.form ≡ f
    → Shape (names s) e.at f t Parts
    → IsAnnotated (names s) e
    → (Parts → AddsCells old new cell (tasks_of s slot t) rest)
    → AddsCells old new cell (tasks_of s slot (expr_view e)) rest
by-shape s slot e f t Parts is shape typed adds =
    let P : Form → Type 0 = λ x. PartsTyped (names s) x in
    adds-as (ap (λ (x : Expression). tasks_of s slot x) (sym (ap (λ (x : Form). form_view e.at x) is ∙ shape.view))) (adds (shape.parts (subst P is typed.below)))

pub seq-shape : (ns : List Scoped) (at : ℕ) (v : Vec Expr Global) (es : List Expr) → es ≡ v.items → Shape ns at (form.Seq v) (tree.Seq at (expressions_of es)) (AreAnnotated ns es)
seq-shape ns at v es e = record {
  view = seq_view at v ∙ ap (λ (l : List Expr). tree.Seq at (expressions_of l)) (sym e);
  parts = λ t. row-typed ns v es e t;
}

pub exit-shape : (ns : List Scoped) (at label_at : ℕ) (label : Label) (v : Vec Expr Global) (es : List Expr) → es ≡ v.items
    → Shape ns at (form.Exit label_at label v) (tree.Exit at label_at (label_view label) (expressions_of es)) (AreAnnotated ns es)
exit-shape ns at label_at label v es e = record {
  view = exit_view at label_at label v ∙ ap (λ (l : List Expr). tree.Exit at label_at (label_view label) (expressions_of l)) (sym e);
  parts = λ t. row-typed ns v es e t;
}

pub alloc-shape : (ns : List Scoped) (at header_at header : ℕ) (v : Vec Expr Global) (es : List Expr) → es ≡ v.items
    → Shape ns at (form.Alloc header_at header v) (tree.Alloc at header_at header (expressions_of es)) (AreAnnotated ns es)
alloc-shape ns at header_at header v es e = record {
  view = alloc_view at header_at header v ∙ ap (λ (l : List Expr). tree.Alloc at header_at header (expressions_of l)) (sym e);
  parts = λ t. row-typed ns v es e t;
}

pub extcall-shape : (ns : List Scoped) (at : ℕ) (frame : Bool) (name : List ℕ) (v : Vec Expr Global) (result : Ret) (result_at : ℕ) (es : List Expr) → es ≡ v.items
    → Shape ns at (form.Extcall frame name v result result_at) (tree.Extcall at frame name (expressions_of es) result result_at) (AreAnnotated ns es)
extcall-shape ns at frame name v result result_at es e = record {
  view = extcall_view at frame name v result result_at ∙ ap (λ (l : List Expr). tree.Extcall at frame name (expressions_of l) result result_at) (sym e);
  parts = λ t. row-typed ns v es e t;
}

pub app-shape : (ns : List Scoped) (at : ℕ) (b : Box Expr Global) (v : Vec Expr Global) (result : Ret) (result_at : ℕ) (callee : Expr) (es : List Expr)
    → callee ≡ b.value
    → es ≡ v.items
    → Shape ns at (form.App b v result result_at) (tree.App at (expr_view callee) (expressions_of es) result result_at) (IsAnnotated ns callee × AreAnnotated ns es)
app-shape ns at b v result result_at callee es q e = record {
  view =
      app_view at b v result result_at
      ∙ ap (λ (l : List Expr). tree.App at (expr_view b.value) (expressions_of l) result result_at) (sym e)
      ∙ ap (λ (x : Expr). tree.App at (expr_view x) (expressions_of es) result result_at) (sym q);
  parts = λ t. (is-typed ns b.value callee q t.0, row-typed ns v es e t.1);
}

pub let-shape : (ns : List Scoped) (at : ℕ) (v : Vec Binding Global) (b : Box Expr Global) (bs : List Binding) (body : Expr)
    → bs ≡ v.items
    → body ≡ b.value
    → Shape ns at (form.Let v b) (tree.Let at (bindings_of bs) (expr_view body)) (AreBindingsAnnotated ns bs × IsAnnotated (with_bindings ns (bindings_of bs)) body)
let-shape ns at v b bs body e q = record {
  view =
      let_view at v b
      ∙ ap (λ (l : List Binding). tree.Let at (bindings_of l) (expr_view b.value)) (sym e)
      ∙ ap (λ (x : Expr). tree.Let at (bindings_of bs) (expr_view x)) (sym q);
  parts = λ t.
      let P : List Binding → Type 0 = λ l. AreBindingsAnnotated ns l in
      let Q : tree.Bindings → Type 0 = λ r. IsAnnotated (with_bindings ns r) b.value in (
        subst P (form.items_hidden-the_row-Binding-1 v ∙ sym e) (typed_bindings ns (bindings_in (form.Let v b)).0 (bindings_in (form.Let v b)).1 t.0),
        is-typed (with_bindings ns (bindings_of bs)) b.value body q (subst Q (bindings-is v b ∙ ap bindings_of (sym e)) t.1),
      );
}

pub if-shape : (ns : List Scoped) (at : ℕ) (b b' b'' : Box Expr Global) (condition on_true on_false : Expr)
    → condition ≡ b.value
    → on_true ≡ b'.value
    → on_false ≡ b''.value
    → Shape ns at (form.If b b' b'') (tree.If at (expr_view condition) (expr_view on_true) (expr_view on_false)) (IsAnnotated ns condition × IsAnnotated ns on_true × IsAnnotated ns on_false)
if-shape ns at b b' b'' condition on_true on_false q q' q'' = record {
  view =
      let view : form_view at (form.If b b' b'') ≡ tree.If at (expr_view b.value) (expr_view b'.value) (expr_view b''.value) = refl in
      cc;
  parts = λ t. (is-typed ns b.value condition q t.0, is-typed ns b'.value on_true q' t.1, is-typed ns b''.value on_false q'' t.2);
}

pub switch-shape : (ns : List Scoped) (at size_at size : ℕ) (b : Box Expr Global) (v : Vec Case Global) (selector : Expr) (cs : List Case)
    → selector ≡ b.value
    → cs ≡ v.items
    → Shape ns at (form.Switch size_at size b v) (tree.Switch at size_at size (expr_view selector) (cases_of cs)) (IsAnnotated ns selector × AreCasesAnnotated ns cs)
switch-shape ns at size_at size b v selector cs q e = record {
  view =
      switch_view at size_at size b v
      ∙ ap (λ (l : List Case). tree.Switch at size_at size (expr_view b.value) (cases_of l)) (sym e)
      ∙ ap (λ (x : Expr). tree.Switch at size_at size (expr_view x) (cases_of cs)) (sym q);
  parts = λ t.
      let P : List Case → Type 0 = λ l. AreCasesAnnotated ns l in
      (is-typed ns b.value selector q t.0, subst P (form.items_hidden-the_row-Case-2 v ∙ sym e) (typed_cases ns (cases_in (form.Switch size_at size b v)).0 (cases_in (form.Switch size_at size b v)).1 t.1));
}

pub catch-shape : (ns : List Scoped) (at : ℕ) (b : Box Expr Global) (v : Vec Handler Global) (body : Expr) (hs : List Handler)
    → body ≡ b.value
    → hs ≡ v.items
    → Shape ns at (form.Catch b v) (tree.Catch at (expr_view body) (handlers_of hs)) (IsAnnotated ns body × AreHandlersAnnotated ns hs)
catch-shape ns at b v body hs q e = record {
  view =
      catch_view at b v
      ∙ ap (λ (l : List Handler). tree.Catch at (expr_view b.value) (handlers_of l)) (sym e)
      ∙ ap (λ (x : Expr). tree.Catch at (expr_view x) (handlers_of hs)) (sym q);
  parts = λ t.
      let P : List Handler → Type 0 = λ l. AreHandlersAnnotated ns l in
      (is-typed ns b.value body q t.0, subst P (form.items_hidden-the_row-Handler-3 v ∙ sym e) (typed_handlers ns (handlers_in (form.Catch b v)).0 (handlers_in (form.Catch b v)).1 t.1));
}

pub try-shape : (ns : List Scoped) (at name_at : ℕ) (name : List ℕ) (b b' : Box Expr Global) (body handler : Expr)
    → body ≡ b.value
    → handler ≡ b'.value
    → Shape ns at (form.Try b name_at name b') (tree.Try at (expr_view body) name_at name (expr_view handler)) (IsAnnotated ns body × IsAnnotated (record { name = name; type = ty.Val; mutable = false } ∷ ns) handler)
try-shape ns at name_at name b b' body handler q q' = record {
  view =
      let view : form_view at (form.Try b name_at name b') ≡ tree.Try at (expr_view b.value) name_at name (expr_view b'.value) = refl in
      cc;
  parts = λ t. (is-typed ns b.value body q t.0, is-typed (record { name = name; type = ty.Val; mutable = false } ∷ ns) b'.value handler q' t.1);
}
