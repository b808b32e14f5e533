-- The types that the code's tree holds: each node holds the type that it has in its scope.
use Rattle.std.specs.Prelude.{◌≡◌, ℕ, false, List, ◌∷◌, option_map}
use Rattle.bs_words.specs.declared.types.Ty.{Ty}
use Rattle.bs_words.specs.declared.types.Ty.TheVariants.{Val}
use Rattle.cmm_tree.specs.Tree.{NoBinding, Bind}
use Rattle.cmm_tree.specs.View.{form_view, expr_view, bindings_view, declared_view, params_view}
use Rattle.cmm_tree.specs.declared.expr.Expr.{Expr}
use Rattle.cmm_tree.specs.declared.expr.Form.{Form}
use Rattle.cmm_tree.specs.declared.expr.Form as form
use Rattle.cmm_types.specs.Types.{Scoped, with_parameters, with_bindings, type_of}

-- a node holds its type, and so do all below it
pub record HasType (held due : Ty) (Below : Type 0) : Type 0 where
  pub type : held ≡ due
  pub below : Below

abbrev pub Node : List Scoped → ℕ → Ty → Form → Type 0 → Type 0
Node names at ty f Below = HasType ty (type_of names (form_view at f)) Below

-- all nodes below this one hold their types
abbrev mutual
  pub PartsTyped : List Scoped → Form → Type 0
  PartsTyped names (form.Integer word) = Unit {0}
  PartsTyped names (form.Pointer word) = Unit {0}
  PartsTyped names (form.Symbol name) = Unit {0}
  PartsTyped names (form.Name name) = Unit {0}
  PartsTyped names form.Nothing = Unit {0}
  PartsTyped names (form.Float' word_at shape operands) = RowTyped names operands
  PartsTyped names (form.Let' shape bindings p body_at body_ty body) =
      BindingsTyped names bindings
      × (let inner : List Scoped = with_bindings names (bindings_view bindings) in
      Node inner body_at body_ty body (PartsTyped inner body))
  PartsTyped names (form.Assign' name_at name p value_at value_ty value) =
      Node names value_at value_ty value (PartsTyped names value)
  PartsTyped names (form.Operator' op p left_at left_ty left q right_at right_ty right) =
      Node names left_at left_ty left (PartsTyped names left)
      × Node names right_at right_ty right (PartsTyped names right)
  PartsTyped names (form.Load' chunk p address_at address_ty address) =
      Node names address_at address_ty address (PartsTyped names address)
  PartsTyped names (form.Store' chunk p address_at address_ty address q value_at value_ty value) =
      Node names address_at address_ty address (PartsTyped names address)
      × Node names value_at value_ty value (PartsTyped names value)
  PartsTyped names (form.Alloc' header_at header shape operands) = RowTyped names operands
  PartsTyped names (form.App' p callee_at callee_ty callee shape arguments result result_at) =
      Node names callee_at callee_ty callee (PartsTyped names callee) × RowTyped names arguments
  PartsTyped names (form.Extcall' frame name shape arguments result result_at) =
      RowTyped names arguments
  PartsTyped names (form.Checkbound' p bound_at bound_ty bound q index_at index_ty index) =
      Node names bound_at bound_ty bound (PartsTyped names bound)
      × Node names index_at index_ty index (PartsTyped names index)
  PartsTyped names (form.Raise' p value_at value_ty value) =
      Node names value_at value_ty value (PartsTyped names value)
  PartsTyped names (form.Seq' shape elements) = RowTyped names elements
  PartsTyped names (form.If' p condition_at condition_ty condition q true_at true_ty on_true r false_at false_ty on_false) =
      Node names condition_at condition_ty condition (PartsTyped names condition)
      × Node names true_at true_ty on_true (PartsTyped names on_true)
      × Node names false_at false_ty on_false (PartsTyped names on_false)
  PartsTyped names (form.Switch' size_at size p selector_at selector_ty selector shape cases) =
      Node names selector_at selector_ty selector (PartsTyped names selector)
      × CasesTyped names cases
  PartsTyped names (form.Catch' p body_at body_ty body shape handlers) =
      Node names body_at body_ty body (PartsTyped names body) × HandlersTyped names handlers
  PartsTyped names (form.Exit' label_at label shape arguments) = RowTyped names arguments
  PartsTyped names (form.Try' p body_at body_ty body name_at name q handler_at handler_ty handler) =
      Node names body_at body_ty body (PartsTyped names body)
      × (let inner : List Scoped = record { name = name; type = Val; mutable = false } ∷ names in
      Node inner handler_at handler_ty handler (PartsTyped inner handler))

  pub RowTyped : {m : _} → List Scoped → form.Row_of-Expr m → Type 0
  RowTyped names form.end_of-Expr = Unit {0}
  RowTyped names (form.more_of-Expr at ty f rest) =
      Node names at ty f (PartsTyped names f) × RowTyped names rest

  pub BindingsTyped : {m : _} → List Scoped → form.Row_of-Binding m → Type 0
  BindingsTyped names form.end_of-Binding = Unit {0}
  BindingsTyped names (form.more_of-Binding at name declared value_at value_ty value rest) =
      Node names value_at value_ty value (PartsTyped names value)
      × BindingsTyped
      (with_bindings names (Bind at name (option_map declared_view declared)
      (form_view value_at value) NoBinding))
      rest

  pub CasesTyped : {m : _} → List Scoped → form.Row_of-Case m → Type 0
  CasesTyped names form.end_of-Case = Unit {0}
  CasesTyped names (form.more_of-Case indexes body_at body_ty body rest) =
      Node names body_at body_ty body (PartsTyped names body) × CasesTyped names rest

  pub HandlersTyped : {m : _} → List Scoped → form.Row_of-Handler m → Type 0
  HandlersTyped names form.end_of-Handler = Unit {0}
  HandlersTyped names (form.more_of-Handler at label params body_at body_ty body rest) =
      (let inner : List Scoped = with_parameters (params_view params.items) names in
      Node inner body_at body_ty body (PartsTyped inner body))
      × HandlersTyped names rest

-- a node and all below it hold their types, with these names in scope
abbrev pub IsAnnotated : List Scoped → Expr → Type 0
IsAnnotated names e = HasType e.ty (type_of names (expr_view e)) (PartsTyped names e.form)
