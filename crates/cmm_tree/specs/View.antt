-- The tree that a value of the code stands for.
use Rattle.std.specs.Prelude.{ℕ, List, option_map, map}
use Rattle.bs_words.specs.Contents.{contents}
use Rattle.cmm_tree.specs.Tree.{Parameter, Declaration, Index, LabelTree, Expression, Expressions, Bindings, Cases, Handlers, NoMore, More, NoBinding, Bind, NoCase, Choose, NoHandler, Handle, FunctionTree, DatumTree, DataItemTree, DataListTree, ItemTree, AFunction, AData, FileTree}
use Rattle.cmm_tree.specs.Tree as tree
use Rattle.cmm_tree.specs.declared.expr.Declared.{Declared}
use Rattle.cmm_tree.specs.declared.expr.CaseIndex.{CaseIndex}
use Rattle.cmm_tree.specs.declared.expr.Label.{Label}
use Rattle.cmm_tree.specs.declared.expr.Label.TheVariants as label
use Rattle.cmm_tree.specs.declared.expr.Expr.{Expr}
use Rattle.cmm_tree.specs.declared.expr.Form.{Form}
use Rattle.cmm_tree.specs.declared.expr.Form as form
use Rattle.cmm_tree.specs.declared.file.File.{File}
use Rattle.cmm_tree.specs.declared.file.Item.{Item}
use Rattle.cmm_tree.specs.declared.file.Item.TheVariants as item
use Rattle.cmm_tree.specs.declared.file.Function.{Function}
use Rattle.cmm_tree.specs.declared.file.Param.{Param}
use Rattle.cmm_tree.specs.declared.file.DataList.{DataList}
use Rattle.cmm_tree.specs.declared.file.DataItem.{DataItem}
use Rattle.cmm_tree.specs.declared.file.Datum.{Datum}
use Rattle.cmm_tree.specs.declared.file.Datum.TheVariants as datum

abbrev pub param_view : Param → Parameter
param_view p = record { at = p.at; name = p.name; comp = p.comp; comp_at = p.comp_at }

abbrev pub params_view : List Param → List Parameter
params_view params = map param_view params

abbrev pub declared_view : Declared → Declaration
declared_view d = record { at = d.at; comp = d.comp }

abbrev pub index_view : CaseIndex → Index
index_view i = record { at = i.at; index = i.index }

abbrev pub label_view : Label → LabelTree
label_view (label.Named name) = tree.Named name
label_view label.Bare = tree.Bare
label_view label.Done = tree.Done
label_view label.Again = tree.Again

abbrev mutual
  -- the expression of a form that begins at this place
  pub form_view : ℕ → Form → Expression
  form_view at (form.Integer word) = tree.Integer at word
  form_view at (form.Pointer word) = tree.Pointer at word
  form_view at (form.Symbol name) = tree.Symbol at name
  form_view at (form.Name name) = tree.Name at name
  form_view at form.Nothing = tree.Nothing at
  form_view at (form.Float' word_at shape operands) = tree.Float at word_at (row_view operands)
  form_view at (form.Let' shape bindings p body_at body_ty body) = tree.Let at (bindings_view bindings) (form_view body_at body)
  form_view at (form.Assign' name_at name p value_at value_ty value) = tree.Assign at name_at name (form_view value_at value)
  form_view at (form.Operator' op p left_at left_ty left q right_at right_ty right) = tree.Operator at op (form_view left_at left) (form_view right_at right)
  form_view at (form.Load' chunk p address_at address_ty address) = tree.Load at chunk (form_view address_at address)
  form_view at (form.Store' chunk p address_at address_ty address q value_at value_ty value) =
      tree.Store at chunk (form_view address_at address) (form_view value_at value)
  form_view at (form.Alloc' header_at header shape operands) = tree.Alloc at header_at header (row_view operands)
  form_view at (form.App' p callee_at callee_ty callee shape arguments result result_at) =
      tree.App at (form_view callee_at callee) (row_view arguments) result result_at
  form_view at (form.Extcall' frame name shape arguments result result_at) = tree.Extcall at frame name (row_view arguments) result result_at
  form_view at (form.Checkbound' p bound_at bound_ty bound q index_at index_ty index) = tree.Checkbound at (form_view bound_at bound) (form_view index_at index)
  form_view at (form.Raise' p value_at value_ty value) = tree.Raise at (form_view value_at value)
  form_view at (form.Seq' shape elements) = tree.Seq at (row_view elements)
  form_view at (form.If' p condition_at condition_ty condition q true_at true_ty on_true r false_at false_ty on_false) =
      tree.If at (form_view condition_at condition) (form_view true_at on_true) (form_view false_at on_false)
  form_view at (form.Switch' size_at size p selector_at selector_ty selector shape cases) =
      tree.Switch at size_at size (form_view selector_at selector) (cases_view cases)
  form_view at (form.Catch' p body_at body_ty body shape handlers) = tree.Catch at (form_view body_at body) (handlers_view handlers)
  form_view at (form.Exit' label_at label shape arguments) = tree.Exit at label_at (label_view label) (row_view arguments)
  form_view at (form.Try' p body_at body_ty body name_at name q handler_at handler_ty handler) =
      tree.Try at (form_view body_at body) name_at name (form_view handler_at handler)

  pub row_view : {m : _} → form.Row_of-Expr m → Expressions
  row_view form.end_of-Expr = NoMore
  row_view (form.more_of-Expr at ty f rest) = More (form_view at f) (row_view rest)

  pub bindings_view : {m : _} → form.Row_of-Binding m → Bindings
  bindings_view form.end_of-Binding = NoBinding
  bindings_view (form.more_of-Binding at name declared value_at value_ty value rest) =
      Bind at name (option_map declared_view declared) (form_view value_at value) (bindings_view rest)

  pub cases_view : {m : _} → form.Row_of-Case m → Cases
  cases_view form.end_of-Case = NoCase
  cases_view (form.more_of-Case indexes body_at body_ty body rest) = Choose (map index_view indexes.items) (form_view body_at body) (cases_view rest)

  pub handlers_view : {m : _} → form.Row_of-Handler m → Handlers
  handlers_view form.end_of-Handler = NoHandler
  handlers_view (form.more_of-Handler at label params body_at body_ty body rest) =
      Handle at (label_view label) (params_view params.items) (form_view body_at body) (handlers_view rest)

abbrev pub expr_view : Expr → Expression
expr_view e = form_view e.at e.form

abbrev pub function_view : Function → FunctionTree
function_view f =
    record { at = f.at; name_at = f.name_at; name = f.name; params = params_view (contents f.params); body = expr_view f.body; tokens = f.tokens }

abbrev pub datum_view : Datum → DatumTree
datum_view (datum.Define name) = tree.Define name
datum_view (datum.Byte word) = tree.Byte word
datum_view (datum.Half word) = tree.Half word
datum_view (datum.Int word) = tree.Int word
datum_view (datum.Val word) = tree.Val word
datum_view (datum.Address root name_at name) = tree.Address root name_at name
datum_view (datum.Skip count) = tree.Skip count
datum_view (datum.Align unit) = tree.Align unit
datum_view (datum.Text bytes) = tree.Text (contents bytes)
datum_view (datum.Global name_at name) = tree.Global name_at name
datum_view datum.Float = tree.AFloat

abbrev pub data_item_view : DataItem → DataItemTree
data_item_view i = record { at = i.at; datum = datum_view i.datum }

abbrev pub data_list_view : DataList → DataListTree
data_list_view d = record { at = d.at; items = map data_item_view (contents d.items) }

abbrev pub item_view : Item → ItemTree
item_view (item.Function f) = AFunction (function_view f)
item_view (item.Data d) = AData (data_list_view d)

abbrev pub file_view : File → FileTree
file_view file = record { items = map item_view (contents file.items) }
