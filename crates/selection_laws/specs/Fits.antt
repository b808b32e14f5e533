-- What selection needs of a tree, node by node, in the scope of names. The checks of the front give
-- it: integers are words, calls keep the limits, headers fit their blocks, a switch has a case, and
-- no argument of an external call is an address.
use Rattle.std.specs.Prelude.{◌≡◌, ℕ, ◌<◌, ◌≤◌, true, false, ◌∷◌, List, [], length}
use Rattle.bs_words.specs.declared.types.Ty.TheVariants as ty
use Rattle.bs_fault.specs.Limits.{most_params}
use Rattle.cmm_tree.specs.Tree.{FunctionTree, Expression, Integer, Pointer, Symbol, Name, Nothing, Float, Let, Assign, Operator, Load, Store, Alloc, App, Extcall, Checkbound, Raise, Seq, If, Switch, Catch, Exit, Try, Expressions, NoMore, More, Bindings, NoBinding, Bind, Cases, NoCase, Choose, Handlers, NoHandler, Handle}
use Rattle.cmm_types.specs.Faults.{row_length, is_header}
use Rattle.cmm_types.specs.Types.{Scoped, type_of, with_bindings, with_parameters, is_address}

abbrev pub IsWord : ℕ → Type 0
IsWord w = w < 0x10000000000000000

-- no more arguments than the convention has places
abbrev pub HasFew : Expressions → Type 0
HasFew arguments = row_length arguments ≤ most_params

-- none of these is an address
abbrev pub NoAddress : List Scoped → Expressions → Type 0
NoAddress names NoMore = Unit {0}
NoAddress names (More e rest) = (is_address (type_of names e) ≡ false) × NoAddress names rest

abbrev pub HasCase : Cases → Type 0
HasCase NoCase = ⊥
HasCase (Choose indexes body rest) = Unit {0}

abbrev mutual
  pub Fits : List Scoped → Expression → Type 0
  Fits names (Integer at word) = IsWord word
  Fits names (Pointer at word) = IsWord word
  Fits names (Symbol at name) = Unit {0}
  Fits names (Name at name) = Unit {0}
  Fits names (Nothing at) = Unit {0}
  Fits names (Float at word_at operands) = RowFits names operands
  Fits names (Let at bindings body) =
      BindingsFit names bindings × Fits (with_bindings names bindings) body
  Fits names (Assign at name_at name value) = Fits names value
  Fits names (Operator at op left right) = Fits names left × Fits names right
  Fits names (Load at chunk address) = Fits names address
  Fits names (Store at chunk address value) = Fits names address × Fits names value
  Fits names (Alloc at header_at header operands) =
      IsWord header
      × ((is_header header (row_length operands) ≡ true) × RowFits names operands)
  Fits names (App at callee arguments result result_at) =
      HasFew arguments × (Fits names callee × RowFits names arguments)
  Fits names (Extcall at frame name arguments result result_at) =
      HasFew arguments × (NoAddress names arguments × RowFits names arguments)
  Fits names (Checkbound at bound index) = Fits names bound × Fits names index
  Fits names (Raise at value) = Fits names value
  Fits names (Seq at elements) = RowFits names elements
  Fits names (If at condition on_true on_false) =
      Fits names condition × (Fits names on_true × Fits names on_false)
  Fits names (Switch at size_at size selector cases) =
      HasCase cases × (Fits names selector × CasesFit names cases)
  Fits names (Catch at body handlers) = Fits names body × HandlersFit names handlers
  Fits names (Exit at label_at label arguments) = RowFits names arguments
  Fits names (Try at body name_at name handler) =
      Fits names body
      × Fits (record { name = name; type = ty.Val; mutable = false } ∷ names) handler

  pub RowFits : List Scoped → Expressions → Type 0
  RowFits names NoMore = Unit {0}
  RowFits names (More e rest) = Fits names e × RowFits names rest

  pub BindingsFit : List Scoped → Bindings → Type 0
  BindingsFit names NoBinding = Unit {0}
  BindingsFit names (Bind at name declared value rest) =
      Fits names value
      × BindingsFit (with_bindings names (Bind at name declared value NoBinding)) rest

  pub CasesFit : List Scoped → Cases → Type 0
  CasesFit names NoCase = Unit {0}
  CasesFit names (Choose indexes body rest) = Fits names body × CasesFit names rest

  pub HandlersFit : List Scoped → Handlers → Type 0
  HandlersFit names NoHandler = Unit {0}
  HandlersFit names (Handle at label params body rest) =
      Fits (with_parameters params names) body × HandlersFit names rest

pub record FunctionFits (f : FunctionTree) : Type 0 where
  pub params : length f.params ≤ most_params
  pub body : Fits (with_parameters f.params []) f.body
