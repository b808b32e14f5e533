-- The faults of types and symbols, F11 to F19 and F21: one condition on a node or an item each.
--
-- Operands of a float form are in its scope, but their values count as not taken: the form's own fault is
-- further left than any of theirs.
--
-- A label that is met a third time, and a second bare handler of one catch, are duplicates too.
use Rattle.std.specs.Prelude.{◌≡◌, ℕ, ◌+◌, ◌/◌, ◌%◌, Bool, true, false, not, ◌&&◌, ◌==◌, nat_le, List, ◌∷◌, ◌++◌, Option, Some, None}
use Rattle.std.specs.List.{Contains}
use Rattle.bs_words.specs.declared.types.Comp.TheVariants as comp
use Rattle.bs_words.specs.declared.types.Ret.TheVariants as ret
use Rattle.bs_words.specs.declared.types.Ty.TheVariants as ty
use Rattle.bs_fault.specs.declared.fault.Fault as faults
use Rattle.bs_fault.specs.declared.fault.Fault.TheVariants as fault
use Rattle.cmm_tree.specs.Tree.{Expression, Symbol, Name, Float, Let, Assign, Alloc, App, Extcall, Catch, Exit, Expressions, NoMore, More, Bindings, Bind, Declaration, Handlers, Handle, Parameter, FunctionTree, LabelTree, DataItemTree, DataListTree, FileTree, functions, data_lists, same_label}
use Rattle.cmm_tree.specs.Tree as tree
use Rattle.cmm_tree.specs.Place.{place_of}
use Rattle.cmm_types.specs.Types.{Scoped, binding_of, type_of, body_type}
use Rattle.cmm_types.specs.Standing.{Visible, Stands, Takes, InBindings, InRow, InHandlers, handler_of}
use Rattle.cmm_tree.specs.Symbols.{DefinedSymbol, symbols, definition_of}

-- the number of expressions in a row
abbrev pub row_length : Expressions → ℕ
row_length NoMore = 0
row_length (More e rest) = row_length rest + 1

-- the header of a block of so many cells: the bits above the low ten are that number, there are 1 to 256
-- cells, and the tag, the low eight bits, is none of 245 to 250
abbrev pub is_header : ℕ → ℕ → Bool
is_header header cells =
    (header / 1024 == cells) &&
    (nat_le 1 cells && (nat_le cells 256 && not
    (nat_le 245 (header % 256) && nat_le (header % 256) 250)))

-- a handler of this label is here
pub data Labelled (label : LabelTree) : Handlers → ℕ → Type 0 where
  first : (at : ℕ) (other : LabelTree) (params : List Parameter) (body : Expression)
      (rest : Handlers)
      → same_label label other ≡ true
      → Labelled label (Handle at other params body rest) at
  later : (at : ℕ) (other : LabelTree) (params : List Parameter) (body : Expression)
      (rest : Handlers) (there : ℕ)
      → Labelled label rest there
      → Labelled label (Handle at other params body rest) there

-- the handler that is here has the label of an earlier one
pub data Repeated : Handlers → ℕ → Type 0 where
  first : (at : ℕ) (label : LabelTree) (params : List Parameter) (body : Expression)
      (rest : Handlers) (there : ℕ)
      → Labelled label rest there
      → Repeated (Handle at label params body rest) there
  later : (at : ℕ) (label : LabelTree) (params : List Parameter) (body : Expression)
      (rest : Handlers) (there : ℕ)
      → Repeated rest there
      → Repeated (Handle at label params body rest) there

-- a binding declares a float, whose word is here
pub data DeclaresFloat : Bindings → ℕ → Type 0 where
  first : (at : ℕ) (name : List ℕ) (there : ℕ) (value : Expression) (rest : Bindings)
      → DeclaresFloat (Bind at name
      (Some (record { at = there; comp = comp.Float })) value rest) there
  later : (at : ℕ) (name : List ℕ) (declared : Option Declaration) (value : Expression)
      (rest : Bindings) (there : ℕ)
      → DeclaresFloat rest there
      → DeclaresFloat (Bind at name declared value rest) there

-- `FaultOf defined names labels node fault`: the node, with these names and labels visible and these
-- symbols defined, has the fault
pub data FaultOf (defined : List DefinedSymbol) (names : List Scoped)
    (labels : List Visible) : Expression
    → faults.Fault
    → Type 0 where
  -- F11: a name that nothing binds
  unbound : (at : ℕ) (name : List ℕ)
      → binding_of names name ≡ None
      → FaultOf defined names labels (Name at name) (fault.Unbound at)
  unbound_target : (at name_at : ℕ) (name : List ℕ) (value : Expression)
      → binding_of names name ≡ None
      → FaultOf defined names labels (Assign at name_at name value) (fault.Unbound name_at)
  -- F12: a symbol that the file does not define
  unknown_symbol : (at : ℕ) (name : List ℕ)
      → definition_of defined name ≡ None
      → FaultOf defined names labels (Symbol at name) (fault.UnknownSymbol at)
  -- F13: a label that an earlier handler of this catch has
  repeated_label : (at : ℕ) (body : Expression) (handlers : Handlers) (there : ℕ)
      → Repeated handlers there
      → FaultOf defined names labels (Catch at body handlers) (fault.DuplicateSymbol there)
  -- F14: a call of a function by its symbol, or an exit to a visible handler, with another number of
  -- arguments than parameters
  call_arity : (at symbol_at : ℕ) (name : List ℕ) (arguments : Expressions) (result : _)
      (result_at : ℕ) (s : DefinedSymbol) (parameters : ℕ)
      → definition_of defined name ≡ Some s
      → s.parameters ≡ Some parameters
      → (parameters == row_length arguments) ≡ false
      → FaultOf defined names labels (App at (Symbol symbol_at name) arguments result result_at)
      (fault.Arity at)
  exit_arity : (at label_at : ℕ) (label : LabelTree) (arguments : Expressions) (v : Visible)
      → handler_of labels label ≡ Some v
      → (v.parameters == row_length arguments) ≡ false
      → FaultOf defined names labels (Exit at label_at label arguments) (fault.Arity at)
  -- F15: a part without a value, whose value the node takes or binds
  no_value : (node e : Expression)
      → Takes node e
      → type_of names e ≡ ty.NoValue
      → FaultOf defined names labels node (fault.NoValue (place_of e))
  no_bound_value : (at : ℕ) (bindings : Bindings) (body : Expression) (inner : List Scoped)
      (value : Expression)
      → InBindings value inner names bindings
      → type_of inner value ≡ ty.NoValue
      → FaultOf defined names labels (Let at bindings body) (fault.NoValue (place_of value))
  -- F16: an assignment to a name that no letmut bound
  not_mutable : (at name_at : ℕ) (name : List ℕ) (value : Expression) (s : Scoped)
      → binding_of names name ≡ Some s
      → s.mutable ≡ false
      → FaultOf defined names labels (Assign at name_at name value) (fault.NotMutable name_at)
  -- F17: a header that does not fit its block
  misfit_header : (at header_at header : ℕ) (operands : Expressions)
      → is_header header (row_length operands) ≡ false
      → FaultOf defined names labels (Alloc at header_at header operands)
      (fault.AllocHeader header_at)
  -- F18: a label of no visible handler
  unknown_label : (at label_at : ℕ) (label : LabelTree) (arguments : Expressions)
      → handler_of labels label ≡ None
      → FaultOf defined names labels (Exit at label_at label arguments)
      (fault.UnknownLabel label_at)
  -- F19: a float form, a declared float, a float as a handler's parameter or as a result
  float_form : (at word_at : ℕ) (operands : Expressions)
      → FaultOf defined names labels (Float at word_at operands) (fault.Float word_at)
  declared_float : (at : ℕ) (bindings : Bindings) (body : Expression) (there : ℕ)
      → DeclaresFloat bindings there
      → FaultOf defined names labels (Let at bindings body) (fault.Float there)
  float_parameter : (at : ℕ) (body : Expression) (handlers : Handlers) (params : List Parameter)
      (e : Expression) (p : Parameter)
      → InHandlers params e handlers
      → Contains params p
      → p.comp ≡ comp.Float
      → FaultOf defined names labels (Catch at body handlers) (fault.Float p.comp_at)
  float_result : (at : ℕ) (called : Expression) (arguments : Expressions) (result_at : ℕ)
      → FaultOf defined names labels (App at called arguments (ret.Comp comp.Float) result_at)
      (fault.Float result_at)
  outer_float_result : (at : ℕ) (frame : Bool) (name : List ℕ) (arguments : Expressions)
      (result_at : ℕ)
      → FaultOf defined names labels
      (Extcall at frame name arguments (ret.Comp comp.Float) result_at) (fault.Float result_at)
  -- F21: an address as an argument of an external call
  address_argument : (at : ℕ) (frame : Bool) (name : List ℕ) (arguments : Expressions) (result : _)
      (result_at : ℕ) (e : Expression)
      → InRow e arguments
      → type_of names e ≡ ty.Addr
      → FaultOf defined names labels (Extcall at frame name arguments result result_at)
      (fault.AddrArgument (place_of e))

-- `TypeFault file fault`: the file has the fault, one of F11 to F19 and F21
pub data TypeFault (file : FileTree) : faults.Fault → Type 0 where
  -- a fault of a node that is in a function
  of_node : (f : FunctionTree) (names : List Scoped) (labels : List Visible) (e : Expression)
      (told : faults.Fault)
      → Contains (functions file) f
      → Stands f names labels e
      → FaultOf (symbols file) names labels e told
      → TypeFault file told
  -- F19: a function's parameter that is a float
  float_parameter : (f : FunctionTree) (p : Parameter)
      → Contains (functions file) f
      → Contains f.params p
      → p.comp ≡ comp.Float
      → TypeFault file (fault.Float p.comp_at)
  -- F21: a function whose body is an address
  address_result : (f : FunctionTree)
      → Contains (functions file) f
      → body_type f ≡ ty.Addr
      → TypeFault file (fault.AddrArgument f.at)
  -- F13: a symbol that is defined before, the built-in one among them
  repeated_symbol : (before behind : List DefinedSymbol) (s earlier : DefinedSymbol)
      → symbols file ≡ before ++ s ∷ behind
      → definition_of before s.name ≡ Some earlier
      → TypeFault file (fault.DuplicateSymbol s.at)
  -- F12: a symbol of static data that the file does not define
  unknown_address : (d : DataListTree) (i : DataItemTree) (root : Bool) (name_at : ℕ)
      (name : List ℕ)
      → Contains (data_lists file) d
      → Contains d.items i
      → i.datum ≡ tree.Address root name_at name
      → definition_of (symbols file) name ≡ None
      → TypeFault file (fault.UnknownSymbol name_at)
  unknown_global : (d : DataListTree) (i : DataItemTree) (name_at : ℕ) (name : List ℕ)
      → Contains (data_lists file) d
      → Contains d.items i
      → i.datum ≡ tree.Global name_at name
      → definition_of (symbols file) name ≡ None
      → TypeFault file (fault.UnknownSymbol name_at)
  -- F19: a float as static data
  float_item : (d : DataListTree) (i : DataItemTree)
      → Contains (data_lists file) d
      → Contains d.items i
      → i.datum ≡ tree.AFloat
      → TypeFault file (fault.Float i.at)
