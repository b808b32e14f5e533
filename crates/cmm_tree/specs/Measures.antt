-- Measures of an expression, by recursion.
use Rattle.std.specs.Prelude.{ℕ, suc, ◌+◌, ◌^◌, ◌<◌, List, [], ◌∷◌, length, Option, Some, None}
use Rattle.cmm_tree.specs.Tree.{Expression, Integer, Pointer, Symbol, Name, Nothing, Float, Let, Assign, Operator, Load, Store, Alloc, App, Extcall, Checkbound, Raise, Seq, If, Switch, Catch, Exit, Try, Expressions, NoMore, More, Bindings, NoBinding, Bind, Cases, NoCase, Choose, Handlers, NoHandler, Handle, Index, DatumTree, Byte, Half, Int, Val, Skip, Align, DataItemTree, DataListTree}

-- the sum over the nodes of an expression of what each counts for
abbrev mutual
  pub total : (Expression → ℕ) → Expression → ℕ
  total own (Integer at word) = own (Integer at word)
  total own (Pointer at word) = own (Pointer at word)
  total own (Symbol at name) = own (Symbol at name)
  total own (Name at name) = own (Name at name)
  total own (Nothing at) = own (Nothing at)
  total own (Float at word_at operands) = own (Float at word_at operands) + row_total own operands
  total own (Let at bindings body) = own (Let at bindings body) + (bindings_total own bindings + total own body)
  total own (Assign at name_at name value) = own (Assign at name_at name value) + total own value
  total own (Operator at op left right) = own (Operator at op left right) + (total own left + total own right)
  total own (Load at chunk address) = own (Load at chunk address) + total own address
  total own (Store at chunk address value) = own (Store at chunk address value) + (total own address + total own value)
  total own (Alloc at header_at header operands) = own (Alloc at header_at header operands) + row_total own operands
  total own (App at callee arguments result result_at) =
      own (App at callee arguments result result_at) + (total own callee + row_total own arguments)
  total own (Extcall at frame name arguments result result_at) =
      own (Extcall at frame name arguments result result_at) + row_total own arguments
  total own (Checkbound at bound index) = own (Checkbound at bound index) + (total own bound + total own index)
  total own (Raise at value) = own (Raise at value) + total own value
  total own (Seq at elements) = own (Seq at elements) + row_total own elements
  total own (If at condition on_true on_false) =
      own (If at condition on_true on_false) + (total own condition + (total own on_true + total own on_false))
  total own (Switch at size_at size selector cases) =
      own (Switch at size_at size selector cases) + (total own selector + cases_total own cases)
  total own (Catch at body handlers) = own (Catch at body handlers) + (total own body + handlers_total own handlers)
  total own (Exit at label_at label arguments) = own (Exit at label_at label arguments) + row_total own arguments
  total own (Try at body name_at name handler) =
      own (Try at body name_at name handler) + (total own body + total own handler)

  pub row_total : (Expression → ℕ) → Expressions → ℕ
  row_total own NoMore = 0
  row_total own (More e rest) = total own e + row_total own rest

  pub bindings_total : (Expression → ℕ) → Bindings → ℕ
  bindings_total own NoBinding = 0
  bindings_total own (Bind at name declared value rest) = total own value + bindings_total own rest

  pub cases_total : (Expression → ℕ) → Cases → ℕ
  cases_total own NoCase = 0
  cases_total own (Choose indexes body rest) = total own body + cases_total own rest

  pub handlers_total : (Expression → ℕ) → Handlers → ℕ
  handlers_total own NoHandler = 0
  handlers_total own (Handle at label params body rest) = total own body + handlers_total own rest

abbrev pub counts_one : Expression → ℕ
counts_one e = 1

abbrev pub is_try : Expression → ℕ
is_try (Try at body name_at name handler) = 1
is_try _ = 0

-- ---- values and names

-- the number of expressions in a row
abbrev pub count_of : Expressions → ℕ
count_of NoMore = 0
count_of (More e rest) = suc (count_of rest)

abbrev pub names_in : Bindings → ℕ
names_in NoBinding = 0
names_in (Bind at name declared value rest) = 1 + names_in rest

abbrev pub params_in : Handlers → ℕ
params_in NoHandler = 0
params_in (Handle at label params body rest) = length params + params_in rest

-- The values and names that a node has itself: its own value, and each name that it binds. The unit has none. An exit
-- counts for one, since it may be where a value is wanted. A new block counts for three: the block, its place before it
-- is filled, and its header.
abbrev pub own_values : Expression → ℕ
own_values (Let at bindings body) = 1 + names_in bindings
own_values (Alloc at header_at header operands) = 3
own_values (Catch at body handlers) = 1 + params_in handlers
own_values (Try at body name_at name handler) = 2
own_values (Nothing at) = 0
own_values _ = 1

-- the number of indexes of a switch
abbrev pub own_indexes : Expression → ℕ
own_indexes (Switch at size_at size selector cases) = size
own_indexes _ = 0

-- the nodes of an expression, the tries among them, and the values and names in it
abbrev pub nodes_in : Expression → ℕ
nodes_in e = total counts_one e

abbrev pub all_tries : Expression → ℕ
all_tries e = total is_try e

abbrev pub values_in : Expression → ℕ
values_in e = total own_values e

-- ---- integers

-- each number of a case is a word of 64 bits
abbrev pub IndexesFit : List Index → Type 0
IndexesFit [] = Unit {0}
IndexesFit (i ∷ indexes) = (i.index < 2 ^ 64) × IndexesFit indexes

-- each integer, pointer and header, and each size and index of a switch, is a word of 64 bits
abbrev mutual
  pub IntegersFit : Expression → Type 0
  IntegersFit (Integer at word) = word < 2 ^ 64
  IntegersFit (Pointer at word) = word < 2 ^ 64
  IntegersFit (Symbol at name) = Unit {0}
  IntegersFit (Name at name) = Unit {0}
  IntegersFit (Nothing at) = Unit {0}
  IntegersFit (Float at word_at operands) = RowFits operands
  IntegersFit (Let at bindings body) = BindingsFit bindings × IntegersFit body
  IntegersFit (Assign at name_at name value) = IntegersFit value
  IntegersFit (Operator at op left right) = IntegersFit left × IntegersFit right
  IntegersFit (Load at chunk address) = IntegersFit address
  IntegersFit (Store at chunk address value) = IntegersFit address × IntegersFit value
  IntegersFit (Alloc at header_at header operands) = (header < 2 ^ 64) × RowFits operands
  IntegersFit (App at callee arguments result result_at) = IntegersFit callee × RowFits arguments
  IntegersFit (Extcall at frame name arguments result result_at) = RowFits arguments
  IntegersFit (Checkbound at bound index) = IntegersFit bound × IntegersFit index
  IntegersFit (Raise at value) = IntegersFit value
  IntegersFit (Seq at elements) = RowFits elements
  IntegersFit (If at condition on_true on_false) =
      IntegersFit condition × (IntegersFit on_true × IntegersFit on_false)
  IntegersFit (Switch at size_at size selector cases) = (size < 2 ^ 64) × (IntegersFit selector × CasesFit cases)
  IntegersFit (Catch at body handlers) = IntegersFit body × HandlersFit handlers
  IntegersFit (Exit at label_at label arguments) = RowFits arguments
  IntegersFit (Try at body name_at name handler) = IntegersFit body × IntegersFit handler

  pub RowFits : Expressions → Type 0
  RowFits NoMore = Unit {0}
  RowFits (More e rest) = IntegersFit e × RowFits rest

  pub BindingsFit : Bindings → Type 0
  BindingsFit NoBinding = Unit {0}
  BindingsFit (Bind at name declared value rest) = IntegersFit value × BindingsFit rest

  pub CasesFit : Cases → Type 0
  CasesFit NoCase = Unit {0}
  CasesFit (Choose indexes body rest) = IndexesFit indexes × (IntegersFit body × CasesFit rest)

  pub HandlersFit : Handlers → Type 0
  HandlersFit NoHandler = Unit {0}
  HandlersFit (Handle at label params body rest) = IntegersFit body × HandlersFit rest

-- each word of an item of static data is one of 64 bits
abbrev pub WordFits : Option ℕ → Type 0
WordFits None = Unit {0}
WordFits (Some word) = word < 2 ^ 64

abbrev pub DatumFits : DatumTree → Type 0
DatumFits (Byte word) = WordFits word
DatumFits (Half word) = WordFits word
DatumFits (Int word) = WordFits word
DatumFits (Val word) = WordFits word
DatumFits (Skip count) = WordFits count
DatumFits (Align unit) = WordFits unit
DatumFits _ = Unit {0}

abbrev pub ItemsFit : List DataItemTree → Type 0
ItemsFit [] = Unit {0}
ItemsFit (i ∷ items) = DatumFits i.datum × ItemsFit items

abbrev pub DataFits : DataListTree → Type 0
DataFits d = ItemsFit d.items
