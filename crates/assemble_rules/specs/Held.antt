-- The external calls of an expression by the types that the code's tree holds, in the order of the text.
use Rattle.std.specs.Prelude.{List, [], ◌∷◌, ◌++◌}
use Rattle.bs_words.specs.External.{External}
use Rattle.bs_words.specs.declared.types.Comp.{Comp}
use Rattle.cmm_types.specs.Types.{comp_of_argument}
use Rattle.cmm_meaning.specs.Held.{comps_held}
use Rattle.cmm_tree.specs.declared.expr.Binding.{Binding}
use Rattle.cmm_tree.specs.declared.expr.Case.{Case}
use Rattle.cmm_tree.specs.declared.expr.Expr.{Expr}
use Rattle.cmm_tree.specs.declared.expr.Form.{Form}
use Rattle.cmm_tree.specs.declared.expr.Form as form
use Rattle.cmm_tree.specs.declared.expr.Handler.{Handler}
use Rattle.cmm_tree.specs.declared.file.Item.{Item}
use Rattle.cmm_tree.specs.declared.file.Item.TheVariants as item

-- the rows of all external calls
abbrev mutual
  pub calls_held : Form → List External
  calls_held (form.Integer word) = []
  calls_held (form.Pointer word) = []
  calls_held (form.Symbol name) = []
  calls_held (form.Name name) = []
  calls_held form.Nothing = []
  calls_held (form.Float' word_at shape operands) = row_held operands
  calls_held (form.Let' shape bindings p body_at body_ty body) =
      bindings_held bindings ++ calls_held body
  calls_held (form.Assign' name_at name p value_at value_ty value) = calls_held value
  calls_held (form.Operator' op p left_at left_ty left q right_at right_ty right) =
      calls_held left ++ calls_held right
  calls_held (form.Load' chunk p address_at address_ty address) = calls_held address
  calls_held (form.Store' chunk p address_at address_ty address q value_at value_ty value) =
      calls_held address ++ calls_held value
  calls_held (form.Alloc' header_at header shape operands) = row_held operands
  calls_held (form.App' p callee_at callee_ty callee shape arguments result result_at) =
      calls_held callee ++ row_held arguments
  calls_held (form.Extcall' frame name shape arguments result result_at) =
      record { name = name; params = comps_held arguments; result = result } ∷ row_held arguments
  calls_held (form.Checkbound' p bound_at bound_ty bound q index_at index_ty index) =
      calls_held bound ++ calls_held index
  calls_held (form.Raise' p value_at value_ty value) = calls_held value
  calls_held (form.Seq' shape elements) = row_held elements
  calls_held (form.If' p condition_at condition_ty condition q true_at true_ty on_true r false_at false_ty on_false) =
      calls_held condition ++ (calls_held on_true ++ calls_held on_false)
  calls_held (form.Switch' size_at size p selector_at selector_ty selector shape cases) =
      calls_held selector ++ cases_held cases
  calls_held (form.Catch' p body_at body_ty body shape handlers) =
      calls_held body ++ handlers_held handlers
  calls_held (form.Exit' label_at label shape arguments) = row_held arguments
  calls_held (form.Try' p body_at body_ty body name_at name q handler_at handler_ty handler) =
      calls_held body ++ calls_held handler

  pub row_held : {m : _} → form.Row_of-Expr m → List External
  row_held form.end_of-Expr = []
  row_held (form.more_of-Expr at ty f rest) = calls_held f ++ row_held rest

  pub bindings_held : {m : _} → form.Row_of-Binding m → List External
  bindings_held form.end_of-Binding = []
  bindings_held (form.more_of-Binding at name declared value_at value_ty value rest) =
      calls_held value ++ bindings_held rest

  pub cases_held : {m : _} → form.Row_of-Case m → List External
  cases_held form.end_of-Case = []
  cases_held (form.more_of-Case indexes body_at body_ty body rest) =
      calls_held body ++ cases_held rest

  pub handlers_held : {m : _} → form.Row_of-Handler m → List External
  handlers_held form.end_of-Handler = []
  handlers_held (form.more_of-Handler at label params body_at body_ty body rest) =
      calls_held body ++ handlers_held rest

-- ---- of lists of the code

abbrev pub comps_among : List Expr → List Comp
comps_among [] = []
comps_among (e ∷ rest) = comp_of_argument e.ty ∷ comps_among rest

abbrev pub calls_among : List Expr → List External
calls_among [] = []
calls_among (e ∷ rest) = calls_held e.form ++ calls_among rest

abbrev pub calls_among_bindings : List Binding → List External
calls_among_bindings [] = []
calls_among_bindings (b ∷ rest) = calls_held b.value.form ++ calls_among_bindings rest

abbrev pub calls_among_cases : List Case → List External
calls_among_cases [] = []
calls_among_cases (c ∷ rest) = calls_held c.body.form ++ calls_among_cases rest

abbrev pub calls_among_handlers : List Handler → List External
calls_among_handlers [] = []
calls_among_handlers (h ∷ rest) = calls_held h.body.form ++ calls_among_handlers rest

abbrev pub calls_among_items : List Item → List External
calls_among_items [] = []
calls_among_items (item.Function f ∷ rest) = calls_held f.body.form ++ calls_among_items rest
calls_among_items (item.Data d ∷ rest) = calls_among_items rest
