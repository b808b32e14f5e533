-- The type of an expression.
use Rattle.std.specs.Prelude.{ℕ, Bool, true, false, cond, ◌||◌, List, [], ◌∷◌, Option, Some, None, find, bytes_eq}
use Rattle.bs_words.specs.Fits.{type_of_comp}
use Rattle.bs_words.specs.Memory.{type_of_chunk}
use Rattle.bs_words.specs.Operators.{type_of_operator}
use Rattle.bs_words.specs.declared.types.Comp.{Comp}
use Rattle.bs_words.specs.declared.types.Comp.TheVariants as comp
use Rattle.bs_words.specs.declared.types.Ret.{Ret}
use Rattle.bs_words.specs.declared.types.Ret.TheVariants as ret
use Rattle.bs_words.specs.declared.types.Ty.{Ty}
use Rattle.bs_words.specs.declared.types.Ty.TheVariants.{Never, NoValue, Int, Val, Addr}
use Rattle.cmm_tree.specs.Tree.{Expression, Integer, Pointer, Symbol, Name, Nothing, Float, Let, Assign, Operator, Load, Store, Alloc, App, Extcall, Checkbound, Raise, Seq, If, Switch, Catch, Exit, Try, Expressions, NoMore, More, Bindings, NoBinding, Bind, Cases, NoCase, Choose, Handlers, NoHandler, Handle, Parameter, Declaration, FunctionTree}

-- A name that is in scope: its type, and whether `letmut` bound it.
pub record Scoped : Type 0 where
  pub name : List ℕ
  pub type : Ty
  pub mutable : Bool

-- the innermost binding of a name, which is first
abbrev pub binding_of : List Scoped → List ℕ → Option Scoped
binding_of scope name = find (λ (s : Scoped). bytes_eq s.name name) scope

-- the type that a binding gives; where there is none it is never
abbrev pub type_bound_by : Option Scoped → Ty
type_bound_by None = Never
type_bound_by (Some s) = s.type

-- the type of a name; one that is not bound has type never
abbrev pub type_named : List Scoped → List ℕ → Ty
type_named scope name = type_bound_by (binding_of scope name)

-- the parameters in scope, the last one innermost
abbrev pub with_parameters : List Parameter → List Scoped → List Scoped
with_parameters [] scope = scope
with_parameters (p ∷ params) scope =
    with_parameters params
    (record { name = p.name; type = type_of_comp p.comp; mutable = false } ∷ scope)

-- what two branches come to: of int, val and addr the greater in this order; a branch that does not come
-- back says nothing, and one without a value leaves none
abbrev pub join : Ty → Ty → Ty
join Never type = type
join type Never = type
join NoValue type = NoValue
join type NoValue = NoValue
join Addr type = Addr
join type Addr = Addr
join Val type = Val
join type Val = Val
join Int Int = Int

-- the type of what a call is written to give
abbrev pub type_of_result : Ret → Ty
type_of_result ret.Unit = NoValue
type_of_result (ret.Comp c) = type_of_comp c

-- ---- floats

abbrev pub is_float : Comp → Bool
is_float comp.Float = true
is_float _ = false

abbrev pub is_float_result : Ret → Bool
is_float_result (ret.Comp c) = is_float c
is_float_result ret.Unit = false

abbrev pub is_declared_float : Option Declaration → Bool
is_declared_float None = false
is_declared_float (Some d) = is_float d.comp

abbrev pub has_float_parameter : List Parameter → Bool
has_float_parameter [] = false
has_float_parameter (p ∷ params) = is_float p.comp || has_float_parameter params

-- whether a float form is in an expression: a literal, an operator, a chunk, a declared type or a result
abbrev mutual
  pub holds_float : Expression → Bool
  holds_float (Integer at word) = false
  holds_float (Pointer at word) = false
  holds_float (Symbol at name) = false
  holds_float (Name at name) = false
  holds_float (Nothing at) = false
  holds_float (Float at word_at operands) = true
  holds_float (Let at bindings body) = bindings_hold_float bindings || holds_float body
  holds_float (Assign at name_at name value) = holds_float value
  holds_float (Operator at op left right) = holds_float left || holds_float right
  holds_float (Load at chunk address) = holds_float address
  holds_float (Store at chunk address value) = holds_float address || holds_float value
  holds_float (Alloc at header_at header operands) = row_holds_float operands
  holds_float (App at callee arguments result result_at) =
      holds_float callee || row_holds_float arguments || is_float_result result
  holds_float (Extcall at frame name arguments result result_at) =
      row_holds_float arguments || is_float_result result
  holds_float (Checkbound at bound index) = holds_float bound || holds_float index
  holds_float (Raise at value) = holds_float value
  holds_float (Seq at elements) = row_holds_float elements
  holds_float (If at condition on_true on_false) =
      holds_float condition || holds_float on_true || holds_float on_false
  holds_float (Switch at size_at size selector cases) =
      holds_float selector || cases_hold_float cases
  holds_float (Catch at body handlers) = holds_float body || handlers_hold_float handlers
  holds_float (Exit at label_at label arguments) = row_holds_float arguments
  holds_float (Try at body name_at name handler) = holds_float body || holds_float handler

  pub row_holds_float : Expressions → Bool
  row_holds_float NoMore = false
  row_holds_float (More e rest) = holds_float e || row_holds_float rest

  pub bindings_hold_float : Bindings → Bool
  bindings_hold_float NoBinding = false
  bindings_hold_float (Bind at name declared value rest) =
      is_declared_float declared || holds_float value || bindings_hold_float rest

  pub cases_hold_float : Cases → Bool
  cases_hold_float NoCase = false
  cases_hold_float (Choose indexes body rest) = holds_float body || cases_hold_float rest

  pub handlers_hold_float : Handlers → Bool
  handlers_hold_float NoHandler = false
  handlers_hold_float (Handle at label params body rest) =
      has_float_parameter params || holds_float body || handlers_hold_float rest

-- ---- types

-- what holds a float does not come back
abbrev pub unless_float : Bool → Ty → Ty
unless_float float type = cond float Never type

-- the type of a name that is bound to an expression of this type: its own, or the declared one
abbrev pub type_bound : Option Declaration → Ty → Ty
type_bound None type = type
type_bound (Some d) type = type_of_comp d.comp

abbrev pub is_mutable : Option Declaration → Bool
is_mutable None = false
is_mutable (Some d) = true

-- the type of an expression with these names in scope, where it holds no float
abbrev mutual
  pub type_without_float : List Scoped → Expression → Ty
  type_without_float scope (Integer at word) = Int
  type_without_float scope (Pointer at word) = Val
  type_without_float scope (Symbol at name) = Val
  type_without_float scope (Name at name) = type_named scope name
  type_without_float scope (Nothing at) = NoValue
  type_without_float scope (Float at word_at operands) = Never
  type_without_float scope (Let at bindings body) =
      type_without_float (with_bindings scope bindings) body
  type_without_float scope (Assign at name_at name value) = NoValue
  type_without_float scope (Operator at op left right) = type_of_operator op
  type_without_float scope (Load at chunk address) = type_of_chunk chunk
  type_without_float scope (Store at chunk address value) = NoValue
  type_without_float scope (Alloc at header_at header operands) = Val
  type_without_float scope (App at callee arguments result result_at) = type_of_result result
  type_without_float scope (Extcall at frame name arguments result result_at) =
      type_of_result result
  type_without_float scope (Checkbound at bound index) = NoValue
  type_without_float scope (Raise at value) = Never
  type_without_float scope (Seq at elements) = type_of_last scope elements
  type_without_float scope (If at condition on_true on_false) =
      join (type_without_float scope on_true) (type_without_float scope on_false)
  type_without_float scope (Switch at size_at size selector cases) = type_of_cases scope cases
  type_without_float scope (Catch at body handlers) =
      join (type_without_float scope body) (type_of_handlers scope handlers)
  type_without_float scope (Exit at label_at label arguments) = Never
  type_without_float scope (Try at body name_at name handler) =
      join (type_without_float scope body)
      (type_without_float (record { name = name; type = Val; mutable = false } ∷ scope) handler)

  -- the type of the last of these
  pub type_of_last : List Scoped → Expressions → Ty
  type_of_last scope NoMore = NoValue
  type_of_last scope (More e NoMore) = type_without_float scope e
  type_of_last scope (More e rest) = type_of_last scope rest

  -- the names in scope after these bindings
  pub with_bindings : List Scoped → Bindings → List Scoped
  with_bindings scope NoBinding = scope
  with_bindings scope (Bind at name declared value rest) =
      with_bindings
      (record {
        name = name;
        type =
            type_bound declared (unless_float (holds_float value) (type_without_float scope value));
        mutable = is_mutable declared;
      } ∷ scope)
      rest

  pub type_of_cases : List Scoped → Cases → Ty
  type_of_cases scope NoCase = Never
  type_of_cases scope (Choose indexes body rest) =
      join (type_without_float scope body) (type_of_cases scope rest)

  pub type_of_handlers : List Scoped → Handlers → Ty
  type_of_handlers scope NoHandler = Never
  type_of_handlers scope (Handle at label params body rest) =
      join (type_without_float (with_parameters params scope) body) (type_of_handlers scope rest)

-- the type of an expression with these names in scope
abbrev pub type_of : List Scoped → Expression → Ty
type_of scope e = unless_float (holds_float e) (type_without_float scope e)

-- the type of a function's body
abbrev pub body_type : FunctionTree → Ty
body_type f = type_of (with_parameters f.params []) f.body

-- what a function of this type returns; one that never comes back is written as one with no value
abbrev pub result_of : Ty → Ret
result_of Int = ret.Comp comp.Int
result_of Val = ret.Comp comp.Val
result_of Addr = ret.Comp comp.Addr
result_of NoValue = ret.Unit
result_of Never = ret.Unit

-- the component in which an external call takes an argument of this type; an argument that never comes counts as an
-- int, and no accepted text has one of another type than int, val and never
abbrev pub comp_of_argument : Ty → Comp
comp_of_argument Val = comp.Val
comp_of_argument _ = comp.Int

-- the type of addresses inside blocks
abbrev pub is_address : Ty → Bool
is_address Addr = true
is_address _ = false
