-- The faults of a file, gathered node by node, and the least among them. Private contracts cite it: that it
-- has exactly the faults of `TypeFault` is proved.
use Rattle.std.specs.Prelude.{ℕ, false, cond, not, ◌==◌, List, [], ◌∷◌, ◌++◌, Option, Some, None, is_none, is_some}
use Rattle.bs_words.specs.declared.types.Comp.{Comp}
use Rattle.bs_words.specs.declared.types.Ret.{Ret}
use Rattle.bs_words.specs.declared.types.Ret.TheVariants as ret
use Rattle.bs_words.specs.declared.types.Ty.{Ty}
use Rattle.bs_words.specs.declared.types.Ty.TheVariants as ty
use Rattle.bs_fault.specs.Reported.{Faults, NoFault, One, Both, one_if}
use Rattle.bs_fault.specs.declared.fault.Fault.TheVariants as fault
use Rattle.cmm_tree.specs.Tree.{Expression, Integer, Pointer, Symbol, Name, Nothing, Float, Let, Assign, Operator, Load, Store, Alloc, App, Extcall, Checkbound, Raise, Seq, If, Switch, Catch, Exit, Try, Expressions, NoMore, More, Bindings, NoBinding, Bind, Declaration, Cases, NoCase, Choose, Handlers, NoHandler, Handle, Parameter, FunctionTree, LabelTree, DatumTree, DataItemTree, ItemTree, AFunction, AData, FileTree, same_label}
use Rattle.cmm_tree.specs.Tree as tree
use Rattle.cmm_tree.specs.Place.{place_of}
use Rattle.cmm_types.specs.Types.{Scoped, binding_of, is_float, with_parameters, with_bindings, type_of, body_type, is_address}
use Rattle.cmm_types.specs.Standing.{Visible, handler_of, labels_of, lasting_labels_of}
use Rattle.cmm_tree.specs.Symbols.{DefinedSymbol, built_in, definition_of, symbols_among}
use Rattle.cmm_types.specs.Faults.{row_length, is_header}
use Rattle.cmm_types.specs.declared.role.Role.{Role}
use Rattle.cmm_types.specs.declared.role.Role.TheVariants as role

-- ---- of the parts of a node

-- what is wrong with a part of this type at this place: a part whose value is taken has one, and an
-- argument of an external call is no address
abbrev pub role_faults : Role → ℕ → Ty → Faults
role_faults role.Taken at ty.NoValue = One (fault.NoValue at)
role_faults role.Outer at ty.NoValue = One (fault.NoValue at)
role_faults role.Outer at ty.Addr = One (fault.AddrArgument at)
role_faults _ at type = NoFault

abbrev pub target_faults : Option Scoped → ℕ → Faults
target_faults None name_at = One (fault.Unbound name_at)
target_faults (Some s) name_at = one_if (not s.mutable) (fault.NotMutable name_at)

abbrev pub arity_faults : Option ℕ → ℕ → ℕ → Faults
arity_faults None at arguments = NoFault
arity_faults (Some parameters) at arguments =
    one_if (not (parameters == arguments)) (fault.Arity at)

abbrev pub parameters_of : Option DefinedSymbol → Option ℕ
parameters_of None = None
parameters_of (Some s) = s.parameters

abbrev pub call_faults : (List ℕ → Option DefinedSymbol) → Expression → ℕ → ℕ → Faults
call_faults definition (Symbol symbol_at name) at arguments =
    arity_faults (parameters_of (definition name)) at arguments
call_faults definition callee at arguments = NoFault

abbrev pub exit_faults : Option Visible → ℕ → ℕ → ℕ → Faults
exit_faults None at label_at arguments = One (fault.UnknownLabel label_at)
exit_faults (Some v) at label_at arguments =
    one_if (not (v.parameters == arguments)) (fault.Arity at)

abbrev pub comp_faults : Comp → ℕ → Faults
comp_faults c at = one_if (is_float c) (fault.Float at)

abbrev pub result_faults : Ret → ℕ → Faults
result_faults ret.Unit at = NoFault
result_faults (ret.Comp c) at = comp_faults c at

abbrev pub declared_faults : Option Declaration → Faults
declared_faults None = NoFault
declared_faults (Some d) = comp_faults d.comp d.at

abbrev pub params_faults : List Parameter → Faults
params_faults [] = NoFault
params_faults (p ∷ params) = Both (comp_faults p.comp p.comp_at) (params_faults params)

-- the handlers of this label
abbrev pub labelled_faults : LabelTree → Handlers → Faults
labelled_faults label NoHandler = NoFault
labelled_faults label (Handle at other params body rest) =
    Both (one_if (same_label label other) (fault.DuplicateSymbol at)) (labelled_faults label rest)

-- the handlers whose label an earlier one has
abbrev pub repeated_faults : Handlers → Faults
repeated_faults NoHandler = NoFault
repeated_faults (Handle at label params body rest) =
    Both (labelled_faults label rest) (repeated_faults rest)

-- a part with its own faults
abbrev pub used_as : Role → List Scoped → Expression → Faults → Faults
used_as role names e own = Both own (role_faults role (place_of e) (type_of names e))

-- the faults of a node and of all below it
abbrev mutual
  pub faults_in : (List ℕ → Option DefinedSymbol) → List Scoped → List Visible → Expression → Faults
  faults_in d names labels (Integer at word) = NoFault
  faults_in d names labels (Pointer at word) = NoFault
  faults_in d names labels (Symbol at name) = one_if (is_none (d name)) (fault.UnknownSymbol at)
  faults_in d names labels (Name at name) =
      one_if (is_none (binding_of names name)) (fault.Unbound at)
  faults_in d names labels (Nothing at) = NoFault
  faults_in d names labels (Float at word_at operands) =
      Both (One (fault.Float word_at)) (row_faults role.Visited d names labels operands)
  faults_in d names labels (Let at bindings body) =
      Both (bindings_faults d names labels bindings)
      (faults_in d (with_bindings names bindings) labels body)
  faults_in d names labels (Assign at name_at name value) =
      Both
      (target_faults (binding_of names name) name_at)
      (used_as role.Taken names value (faults_in d names labels value))
  faults_in d names labels (Operator at op left right) =
      Both
      (used_as role.Taken names left (faults_in d names labels left))
      (used_as role.Taken names right (faults_in d names labels right))
  faults_in d names labels (Load at chunk address) =
      used_as role.Taken names address (faults_in d names labels address)
  faults_in d names labels (Store at chunk address value) =
      Both
      (used_as role.Taken names address (faults_in d names labels address))
      (used_as role.Taken names value (faults_in d names labels value))
  faults_in d names labels (Alloc at header_at header operands) =
      Both
      (one_if (not (is_header header (row_length operands))) (fault.AllocHeader header_at))
      (row_faults role.Taken d names labels operands)
  faults_in d names labels (App at callee arguments result result_at) =
      Both
      (Both (call_faults d callee at (row_length arguments)) (result_faults result result_at))
      (Both
      (used_as role.Taken names callee (faults_in d names labels callee))
      (row_faults role.Taken d names labels arguments))
  faults_in d names labels (Extcall at frame name arguments result result_at) =
      Both (result_faults result result_at) (row_faults role.Outer d names labels arguments)
  faults_in d names labels (Checkbound at bound index) =
      Both
      (used_as role.Taken names bound (faults_in d names labels bound))
      (used_as role.Taken names index (faults_in d names labels index))
  faults_in d names labels (Raise at value) =
      used_as role.Taken names value (faults_in d names labels value)
  faults_in d names labels (Seq at elements) = row_faults role.Visited d names labels elements
  faults_in d names labels (If at condition on_true on_false) =
      Both
      (used_as role.Taken names condition (faults_in d names labels condition))
      (Both (faults_in d names labels on_true) (faults_in d names labels on_false))
  faults_in d names labels (Switch at size_at size selector cases) =
      Both
      (used_as role.Taken names selector (faults_in d names labels selector))
      (cases_faults d names labels cases)
  faults_in d names labels (Catch at body handlers) =
      Both
      (repeated_faults handlers)
      (Both
      (faults_in d names (labels_of handlers ++ labels) body)
      (handlers_faults d names (lasting_labels_of handlers ++ labels) handlers))
  faults_in d names labels (Exit at label_at label arguments) =
      Both
      (exit_faults (handler_of labels label) at label_at (row_length arguments))
      (row_faults role.Taken d names labels arguments)
  faults_in d names labels (Try at body name_at name handler) =
      Both
      (faults_in d names labels body)
      (faults_in d (record { name = name; type = ty.Val; mutable = false } ∷ names) labels handler)

  pub row_faults : Role
      → (List ℕ → Option DefinedSymbol)
      → List Scoped
      → List Visible
      → Expressions
      → Faults
  row_faults role d names labels NoMore = NoFault
  row_faults role d names labels (More e rest) =
      Both (used_as role names e (faults_in d names labels e)) (row_faults role d names labels rest)

  pub bindings_faults : (List ℕ → Option DefinedSymbol)
      → List Scoped
      → List Visible
      → Bindings
      → Faults
  bindings_faults d names labels NoBinding = NoFault
  bindings_faults d names labels (Bind at name declared value rest) =
      Both
      (Both (declared_faults declared)
      (used_as role.Taken names value (faults_in d names labels value)))
      (bindings_faults d (with_bindings names (Bind at name declared value NoBinding)) labels rest)

  pub cases_faults : (List ℕ → Option DefinedSymbol) → List Scoped → List Visible → Cases → Faults
  cases_faults d names labels NoCase = NoFault
  cases_faults d names labels (Choose indexes body rest) =
      Both (faults_in d names labels body) (cases_faults d names labels rest)

  pub handlers_faults : (List ℕ → Option DefinedSymbol)
      → List Scoped
      → List Visible
      → Handlers
      → Faults
  handlers_faults d names labels NoHandler = NoFault
  handlers_faults d names labels (Handle at label params body rest) =
      Both
      (Both (params_faults params) (faults_in d (with_parameters params names) labels body))
      (handlers_faults d names labels rest)

-- ---- of a file

abbrev pub function_faults : (List ℕ → Option DefinedSymbol) → FunctionTree → Faults
function_faults d f =
    Both
    (params_faults f.params)
    (Both
    (faults_in d (with_parameters f.params []) [] f.body)
    (one_if (is_address (body_type f)) (fault.AddrArgument f.at)))

abbrev pub datum_faults : (List ℕ → Option DefinedSymbol) → ℕ → DatumTree → Faults
datum_faults d at (tree.Address root name_at name) =
    one_if (is_none (d name)) (fault.UnknownSymbol name_at)
datum_faults d at (tree.Global name_at name) =
    one_if (is_none (d name)) (fault.UnknownSymbol name_at)
datum_faults d at tree.AFloat = One (fault.Float at)
datum_faults d at _ = NoFault

abbrev pub data_faults : (List ℕ → Option DefinedSymbol) → List DataItemTree → Faults
data_faults d [] = NoFault
data_faults d (i ∷ items) = Both (datum_faults d i.at i.datum) (data_faults d items)

abbrev pub item_faults : (List ℕ → Option DefinedSymbol) → ItemTree → Faults
item_faults d (AFunction f) = function_faults d f
item_faults d (AData l) = data_faults d l.items

abbrev pub items_faults : (List ℕ → Option DefinedSymbol) → List ItemTree → Faults
items_faults d [] = NoFault
items_faults d (i ∷ items) = Both (item_faults d i) (items_faults d items)

-- these symbols with a further one, if it is not among them
abbrev pub with_symbol : List DefinedSymbol → DefinedSymbol → List DefinedSymbol
with_symbol known s = cond (is_some (definition_of known s.name)) known (known ++ s ∷ [])

-- the first definitions among these, after those that are known
abbrev pub with_symbols : List DefinedSymbol → List DefinedSymbol → List DefinedSymbol
with_symbols known [] = known
with_symbols known (s ∷ rest) = with_symbols (with_symbol known s) rest

-- those that are defined before
abbrev pub symbol_faults : List DefinedSymbol → List DefinedSymbol → Faults
symbol_faults known [] = NoFault
symbol_faults known (s ∷ rest) =
    Both
    (one_if (is_some (definition_of known s.name)) (fault.DuplicateSymbol s.at))
    (symbol_faults (with_symbol known s) rest)

-- the first definitions of a file
abbrev pub first_symbols : FileTree → List DefinedSymbol
first_symbols file = with_symbols (built_in ∷ []) (symbols_among file.items)

abbrev pub file_faults : FileTree → Faults
file_faults file =
    Both
    (symbol_faults (built_in ∷ []) (symbols_among file.items))
    (items_faults (definition_of (first_symbols file)) file.items)
