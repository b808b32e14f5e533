-- Where a tree holds its types, the calls by these are the calls of the text.
use Rattle.std.proofs.Common.{◌≡◌, ℕ, List, [], ◌∷◌, ◌++◌, map, option_map, Bool, false, refl, ap, ap₂, ◌∙◌, Vec, Box, Global}
use mathlib.Core.Former.{Count}
use Rattle.bs_words.specs.Contents.{contents}
use Rattle.bs_words.specs.External.{External}
use Rattle.bs_words.specs.declared.types.Comp.{Comp}
use Rattle.bs_words.specs.declared.types.Ret.{Ret}
use Rattle.bs_words.specs.declared.types.Ty.TheVariants.{Val}
use Rattle.cmm_meaning.specs.Held.{comps_held}
use Rattle.cmm_meaning.proofs.Held.{comps_same}
use Rattle.cmm_tree.specs.Tree.{NoBinding, Bind, functions_among}
use Rattle.cmm_tree.specs.View.{form_view, row_view, bindings_view, cases_view, handlers_view, declared_view, params_view, item_view}
use Rattle.cmm_tree.specs.declared.expr.Binding.{Binding}
use Rattle.cmm_tree.specs.declared.expr.Case.{Case}
use Rattle.cmm_tree.specs.declared.expr.Expr.{Expr}
use Rattle.cmm_tree.specs.declared.expr.Form.{Form}
use Rattle.cmm_tree.specs.declared.expr.Form as form
use Rattle.cmm_tree.specs.declared.expr.Handler.{Handler}
use Rattle.cmm_tree.specs.declared.expr.Label.{Label}
use Rattle.cmm_tree.specs.declared.file.Item.{Item}
use Rattle.cmm_tree.specs.declared.file.Item.TheVariants as item
use Rattle.cmm_tree.proofs.Rows.{row_in, bindings_in, cases_in, handlers_in}
use Rattle.cmm_types.specs.Annotated.{PartsTyped, RowTyped, BindingsTyped, CasesTyped, HandlersTyped}
use Rattle.cmm_types.specs.Types.{Scoped, with_parameters, with_bindings, comp_of_argument}
use Rattle.cmm_types.specs.Typing.{AreItemsAnnotated}
use Rattle.assemble_rules.specs.Held.{calls_held, row_held, bindings_held, cases_held, handlers_held, comps_among, calls_among, calls_among_bindings, calls_among_cases, calls_among_handlers, calls_among_items}
use Rattle.rv_layout_rules.specs.Externals.{calls_in, calls_in_row, calls_in_bindings, calls_in_cases, calls_in_handlers, calls_in_function}
use Rattle.std.specs.List.{flat_map}

joined : (a b c d : List External) → a ≡ b → c ≡ d → a ++ c ≡ b ++ d
joined a b c d e f = ap₂ (λ (x y : List External). x ++ y) e f

mutual
  calls_same : (names : List Scoped) (at : ℕ) (f : Form) → PartsTyped names f → calls_held f ≡ calls_in names (form_view at f)
  calls_same names at (form.Integer word) t = refl
  calls_same names at (form.Pointer word) t = refl
  calls_same names at (form.Symbol name) t = refl
  calls_same names at (form.Name name) t = refl
  calls_same names at form.Nothing t = refl
  calls_same names at (form.Float' word_at shape operands) t = row_same names operands t
  calls_same names at (form.Let' shape bindings p body_at body_ty body) t =
      joined _ _ _ _ (bindings_same names bindings t.0) (calls_same (with_bindings names (bindings_view bindings)) body_at body t.1.below)
  calls_same names at (form.Assign' name_at name p value_at value_ty value) t = calls_same names value_at value t.below
  calls_same names at (form.Operator' op p left_at left_ty left q right_at right_ty right) t =
      joined _ _ _ _ (calls_same names left_at left t.0.below) (calls_same names right_at right t.1.below)
  calls_same names at (form.Load' chunk p address_at address_ty address) t = calls_same names address_at address t.below
  calls_same names at (form.Store' chunk p address_at address_ty address q value_at value_ty value) t =
      joined _ _ _ _ (calls_same names address_at address t.0.below) (calls_same names value_at value t.1.below)
  calls_same names at (form.Alloc' header_at header shape operands) t = row_same names operands t
  calls_same names at (form.App' p callee_at callee_ty callee shape arguments result result_at) t =
      joined _ _ _ _ (calls_same names callee_at callee t.0.below) (row_same names arguments t.1)
  calls_same names at (form.Extcall' frame name shape arguments result result_at) t =
      ap₂ (λ (cs : List Comp) (es : List External). record { name = name; params = cs; result = result } ∷ es) (comps_same names arguments t) (row_same names arguments t)
  calls_same names at (form.Checkbound' p bound_at bound_ty bound q index_at index_ty index) t =
      joined _ _ _ _ (calls_same names bound_at bound t.0.below) (calls_same names index_at index t.1.below)
  calls_same names at (form.Raise' p value_at value_ty value) t = calls_same names value_at value t.below
  calls_same names at (form.Seq' shape elements) t = row_same names elements t
  calls_same names at (form.If' p condition_at condition_ty condition q true_at true_ty on_true r false_at false_ty on_false) t =
      joined _ _ _ _ (calls_same names condition_at condition t.0.below)
      (joined _ _ _ _ (calls_same names true_at on_true t.1.below) (calls_same names false_at on_false t.2.below))
  calls_same names at (form.Switch' size_at size p selector_at selector_ty selector shape cases) t =
      joined _ _ _ _ (calls_same names selector_at selector t.0.below) (cases_same names cases t.1)
  calls_same names at (form.Catch' p body_at body_ty body shape handlers) t =
      joined _ _ _ _ (calls_same names body_at body t.0.below) (handlers_same names handlers t.1)
  calls_same names at (form.Exit' label_at label shape arguments) t = row_same names arguments t
  calls_same names at (form.Try' p body_at body_ty body name_at name q handler_at handler_ty handler) t =
      joined _ _ _ _ (calls_same names body_at body t.0.below)
      (calls_same (record { name = name; type = Val; mutable = false } ∷ names) handler_at handler t.1.below)

  row_same : {m : Count} (names : List Scoped) (k : form.Row_of-Expr m) → RowTyped names k → row_held k ≡ calls_in_row names (row_view k)
  row_same names form.end_of-Expr t = refl
  row_same names (form.more_of-Expr at ty f rest) t = joined _ _ _ _ (calls_same names at f t.0.below) (row_same names rest t.1)

  bindings_same : {m : Count} (names : List Scoped) (k : form.Row_of-Binding m) → BindingsTyped names k → bindings_held k ≡ calls_in_bindings names (bindings_view k)
  bindings_same names form.end_of-Binding t = refl
  bindings_same names (form.more_of-Binding at name declared value_at value_ty value rest) t =
      joined _ _ _ _ (calls_same names value_at value t.0.below)
      (bindings_same (with_bindings names (Bind at name (option_map declared_view declared) (form_view value_at value) NoBinding)) rest t.1)

  cases_same : {m : Count} (names : List Scoped) (k : form.Row_of-Case m) → CasesTyped names k → cases_held k ≡ calls_in_cases names (cases_view k)
  cases_same names form.end_of-Case t = refl
  cases_same names (form.more_of-Case indexes body_at body_ty body rest) t = joined _ _ _ _ (calls_same names body_at body t.0.below) (cases_same names rest t.1)

  handlers_same : {m : Count} (names : List Scoped) (k : form.Row_of-Handler m) → HandlersTyped names k → handlers_held k ≡ calls_in_handlers names (handlers_view k)
  handlers_same names form.end_of-Handler t = refl
  handlers_same names (form.more_of-Handler at label params body_at body_ty body rest) t =
      joined _ _ _ _ (calls_same (with_parameters (params_view params.items) names) body_at body t.0.below) (handlers_same names rest t.1)

-- The calls among items are those of their functions.
pub items_same : (items : List Item) → AreItemsAnnotated items → calls_among_items items ≡ flat_map calls_in_function (functions_among (map item_view items))
items_same [] t = refl
items_same (item.Function f ∷ rest) t =
    joined _ _ _ _ (calls_same (with_parameters (params_view (contents f.params)) []) f.body.at f.body.form t.0.below) (items_same rest t.1)
items_same (item.Data d ∷ rest) t = items_same rest t.1

-- ---- a row of the tree and the list of its items

row_among : (n : Count) (k : form.Row_of-Expr n) → row_held k ≡ calls_among (form.items-the_row-Expr n k)
row_among n form.end_of-Expr = refl
row_among n (form.more_of-Expr at ty f rest) = ap (λ (es : List External). calls_held f ++ es) (row_among _ rest)

comps_row : (n : Count) (k : form.Row_of-Expr n) → comps_held k ≡ comps_among (form.items-the_row-Expr n k)
comps_row n form.end_of-Expr = refl
comps_row n (form.more_of-Expr at ty f rest) = ap (λ (cs : List Comp). comp_of_argument ty ∷ cs) (comps_row _ rest)

bindings_among : (n : Count) (k : form.Row_of-Binding n) → bindings_held k ≡ calls_among_bindings (form.items-the_row-Binding n k)
bindings_among n form.end_of-Binding = refl
bindings_among n (form.more_of-Binding at name declared value_at value_ty value rest) =
    ap (λ (es : List External). calls_held value ++ es) (bindings_among _ rest)

cases_among : (n : Count) (k : form.Row_of-Case n) → cases_held k ≡ calls_among_cases (form.items-the_row-Case n k)
cases_among n form.end_of-Case = refl
cases_among n (form.more_of-Case indexes body_at body_ty body rest) = ap (λ (es : List External). calls_held body ++ es) (cases_among _ rest)

handlers_among : (n : Count) (k : form.Row_of-Handler n) → handlers_held k ≡ calls_among_handlers (form.items-the_row-Handler n k)
handlers_among n form.end_of-Handler = refl
handlers_among n (form.more_of-Handler at label params body_at body_ty body rest) =
    ap (λ (es : List External). calls_held body ++ es) (handlers_among _ rest)

-- ---- forms with rows, by the lists that the code holds

row_of_vec : (v : Vec Expr Global) → row_held (row_in (form.Seq v)).1 ≡ calls_among v.items
row_of_vec v = row_among (row_in (form.Seq v)).0 (row_in (form.Seq v)).1 ∙ ap calls_among (form.items_hidden-the_row-Expr-0 v)

comps_of_vec : (v : Vec Expr Global) → comps_held (row_in (form.Seq v)).1 ≡ comps_among v.items
comps_of_vec v = comps_row (row_in (form.Seq v)).0 (row_in (form.Seq v)).1 ∙ ap comps_among (form.items_hidden-the_row-Expr-0 v)

pub calls_of_float : (word_at : ℕ) (v : Vec Expr Global) → calls_held (form.Float word_at v) ≡ calls_among v.items
calls_of_float word_at v = row_of_vec v

pub calls_of_alloc : (header_at header : ℕ) (v : Vec Expr Global) → calls_held (form.Alloc header_at header v) ≡ calls_among v.items
calls_of_alloc header_at header v = row_of_vec v

pub calls_of_seq : (v : Vec Expr Global) → calls_held (form.Seq v) ≡ calls_among v.items
calls_of_seq v = row_of_vec v

pub calls_of_exit : (label_at : ℕ) (label : Label) (v : Vec Expr Global) → calls_held (form.Exit label_at label v) ≡ calls_among v.items
calls_of_exit label_at label v = row_of_vec v

pub calls_of_app : (b : Box Expr Global) (v : Vec Expr Global) (result : Ret) (result_at : ℕ) → calls_held (form.App b v result result_at) ≡ calls_held b.value.form ++ calls_among v.items
calls_of_app b v result result_at = ap (λ (es : List External). calls_held b.value.form ++ es) (row_of_vec v)

pub calls_of_extcall : (frame : Bool) (name : List ℕ) (v : Vec Expr Global) (result : Ret) (result_at : ℕ) →
    calls_held (form.Extcall frame name v result result_at) ≡ record { name = name; params = comps_among v.items; result = result } ∷ calls_among v.items
calls_of_extcall frame name v result result_at =
    ap₂ (λ (cs : List Comp) (es : List External). record { name = name; params = cs; result = result } ∷ es) (comps_of_vec v) (row_of_vec v)

pub calls_of_let : (v : Vec Binding Global) (b : Box Expr Global) → calls_held (form.Let v b) ≡ calls_among_bindings v.items ++ calls_held b.value.form
calls_of_let v b =
    let bound = bindings_among (bindings_in (form.Let v b)).0 (bindings_in (form.Let v b)).1 ∙ ap calls_among_bindings (form.items_hidden-the_row-Binding-1 v) in
    ap (λ (es : List External). es ++ calls_held b.value.form) bound

pub calls_of_switch : (size_at size : ℕ) (b : Box Expr Global) (v : Vec Case Global) → calls_held (form.Switch size_at size b v) ≡ calls_held b.value.form ++ calls_among_cases v.items
calls_of_switch size_at size b v =
    let all = cases_among (cases_in (form.Switch size_at size b v)).0 (cases_in (form.Switch size_at size b v)).1 ∙ ap calls_among_cases (form.items_hidden-the_row-Case-2 v) in
    ap (λ (es : List External). calls_held b.value.form ++ es) all

pub calls_of_catch : (b : Box Expr Global) (v : Vec Handler Global) → calls_held (form.Catch b v) ≡ calls_held b.value.form ++ calls_among_handlers v.items
calls_of_catch b v =
    let all = handlers_among (handlers_in (form.Catch b v)).0 (handlers_in (form.Catch b v)).1 ∙ ap calls_among_handlers (form.items_hidden-the_row-Handler-3 v) in
    ap (λ (es : List External). calls_held b.value.form ++ es) all
