-- Forms with rows hold their types, where the lists that the code holds do.
use Rattle.std.proofs.Common.{ℕ, Bool, List, option_map, sym, subst, Vec, Box, Global}
use mathlib.Core.Former.{Count}
use Rattle.bs_words.specs.declared.types.Ret.{Ret}
use Rattle.cmm_tree.specs.declared.expr.Expr.{Expr}
use Rattle.cmm_tree.specs.declared.expr.Binding.{Binding}
use Rattle.cmm_tree.specs.declared.expr.Case.{Case}
use Rattle.cmm_tree.specs.declared.expr.Handler.{Handler}
use Rattle.cmm_tree.specs.declared.expr.Label.{Label}
use Rattle.cmm_tree.specs.declared.expr.Form as form
use Rattle.cmm_tree.specs.Tree as tree
use Rattle.cmm_tree.specs.View.{form_view, declared_view}
use Rattle.cmm_tree.specs.Rows.{bindings_of}
use Rattle.cmm_tree.proofs.Rows.{row_in, bindings_in, cases_in, handlers_in, bindings-is}
use Rattle.cmm_types.specs.Types.{Scoped, with_bindings}
use Rattle.cmm_types.specs.Annotated.{IsAnnotated, RowTyped, BindingsTyped, CasesTyped, HandlersTyped, PartsTyped}
use Rattle.cmm_types.specs.Lists.{AreAnnotated, AreBindingsAnnotated, AreCasesAnnotated, AreHandlersAnnotated}

pub row_typed : (names : List Scoped) (n : Count) (k : form.Row_of-Expr n) → AreAnnotated names (form.items-the_row-Expr n k) → RowTyped names k
row_typed names n form.end_of-Expr t = tt
row_typed names n (form.more_of-Expr at ty f rest) t = (t.0, row_typed names _ rest t.1)

pub bindings_typed : (names : List Scoped) (n : Count) (k : form.Row_of-Binding n) → AreBindingsAnnotated names (form.items-the_row-Binding n k) → BindingsTyped names k
bindings_typed names n form.end_of-Binding t = tt
bindings_typed names n (form.more_of-Binding at name declared value_at value_ty value rest) t =
    (t.0, bindings_typed (with_bindings names (tree.Bind at name (option_map declared_view declared) (form_view value_at value) tree.NoBinding)) _ rest t.1)

pub cases_typed : (names : List Scoped) (n : Count) (k : form.Row_of-Case n) → AreCasesAnnotated names (form.items-the_row-Case n k) → CasesTyped names k
cases_typed names n form.end_of-Case t = tt
cases_typed names n (form.more_of-Case indexes body_at body_ty body rest) t = (t.0, cases_typed names _ rest t.1)

pub handlers_typed : (names : List Scoped) (n : Count) (k : form.Row_of-Handler n) → AreHandlersAnnotated names (form.items-the_row-Handler n k) → HandlersTyped names k
handlers_typed names n form.end_of-Handler t = tt
handlers_typed names n (form.more_of-Handler at label params body_at body_ty body rest) t = (t.0, handlers_typed names _ rest t.1)

-- ---- forms with rows, by the lists that the code holds

row-typed : (names : List Scoped) (v : Vec Expr Global) → AreAnnotated names v.items → RowTyped names (row_in (form.Seq v)).1
row-typed names v t =
    let P : List Expr → Type 0 = λ l. AreAnnotated names l in
    row_typed names (row_in (form.Seq v)).0 (row_in (form.Seq v)).1 (subst P (sym (form.items_hidden-the_row-Expr-0 v)) t)

pub seq_typed : (names : List Scoped) (v : Vec Expr Global) → AreAnnotated names v.items → PartsTyped names (form.Seq v)
seq_typed names v t = row-typed names v t

pub float_typed : (names : List Scoped) (word_at : ℕ) (v : Vec Expr Global) → AreAnnotated names v.items → PartsTyped names (form.Float word_at v)
float_typed names word_at v t = row-typed names v t

pub exit_typed : (names : List Scoped) (label_at : ℕ) (label : Label) (v : Vec Expr Global) → AreAnnotated names v.items → PartsTyped names (form.Exit label_at label v)
exit_typed names label_at label v t = row-typed names v t

pub alloc_typed : (names : List Scoped) (header_at header : ℕ) (v : Vec Expr Global) → AreAnnotated names v.items → PartsTyped names (form.Alloc header_at header v)
alloc_typed names header_at header v t = row-typed names v t

pub extcall_typed : (names : List Scoped) (frame : Bool) (name : List ℕ) (v : Vec Expr Global) (result : Ret) (result_at : ℕ) → AreAnnotated names v.items → PartsTyped names (form.Extcall frame name v result result_at)
extcall_typed names frame name v result result_at t = row-typed names v t

pub app_typed : (names : List Scoped) (b : Box Expr Global) (v : Vec Expr Global) (result : Ret) (result_at : ℕ) → IsAnnotated names b.value → AreAnnotated names v.items → PartsTyped names (form.App b v result result_at)
app_typed names b v result result_at c t = (c, row-typed names v t)

pub let_typed : (names : List Scoped) (v : Vec Binding Global) (b : Box Expr Global) → AreBindingsAnnotated names v.items → IsAnnotated (with_bindings names (bindings_of v.items)) b.value → PartsTyped names (form.Let v b)
let_typed names v b t c =
    let P : List Binding → Type 0 = λ l. AreBindingsAnnotated names l in
    let Q : tree.Bindings → Type 0 = λ r. IsAnnotated (with_bindings names r) b.value in (
      bindings_typed names (bindings_in (form.Let v b)).0 (bindings_in (form.Let v b)).1 (subst P (sym (form.items_hidden-the_row-Binding-1 v)) t),
      subst Q (sym (bindings-is v b)) c,
    )

pub switch_typed : (names : List Scoped) (size_at size : ℕ) (b : Box Expr Global) (v : Vec Case Global) → IsAnnotated names b.value → AreCasesAnnotated names v.items → PartsTyped names (form.Switch size_at size b v)
switch_typed names size_at size b v c t =
    let P : List Case → Type 0 = λ l. AreCasesAnnotated names l in
    (c, cases_typed names (cases_in (form.Switch size_at size b v)).0 (cases_in (form.Switch size_at size b v)).1 (subst P (sym (form.items_hidden-the_row-Case-2 v)) t))

pub catch_typed : (names : List Scoped) (b : Box Expr Global) (v : Vec Handler Global) → IsAnnotated names b.value → AreHandlersAnnotated names v.items → PartsTyped names (form.Catch b v)
catch_typed names b v c t =
    let P : List Handler → Type 0 = λ l. AreHandlersAnnotated names l in
    (c, handlers_typed names (handlers_in (form.Catch b v)).0 (handlers_in (form.Catch b v)).1 (subst P (sym (form.items_hidden-the_row-Handler-3 v)) t))
