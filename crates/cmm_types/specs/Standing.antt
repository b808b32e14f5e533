-- Which nodes are in a function, and which names and labels are visible there.
use Rattle.std.specs.Prelude.{ℕ, Bool, false, List, [], ◌∷◌, ◌++◌, Option, length, find}
use Rattle.bs_words.specs.declared.types.Ty.TheVariants.{Val}
use Rattle.cmm_tree.specs.Tree.{Expression, Float, Let, Assign, Operator, Load, Store, Alloc, App, Extcall, Checkbound, Raise, Seq, If, Switch, Catch, Exit, Try, Expressions, More, Bindings, NoBinding, Bind, Cases, Choose, Handlers, NoHandler, Handle, Parameter, FunctionTree, LabelTree, Bare, same_label}
use Rattle.cmm_types.specs.Types.{Scoped, with_parameters, with_bindings}

-- ---- labels

-- A label that is visible, and the number of parameters of its handler.
pub record Visible : Type 0 where
  pub label : LabelTree
  pub parameters : ℕ

-- the innermost handler of a label, which is first; of handlers of one catch with one label the first
abbrev pub handler_of : List Visible → LabelTree → Option Visible
handler_of labels label = find (λ (v : Visible). same_label v.label label) labels

-- the labels of these handlers: all are visible in the body of their catch
abbrev pub labels_of : Handlers → List Visible
labels_of NoHandler = []
labels_of (Handle at label params body rest) =
    record { label = label; parameters = length params } ∷ labels_of rest

-- a label in the handlers of its own catch: the bare one is not visible there
abbrev pub unless_bare : LabelTree → Visible → List Visible → List Visible
unless_bare Bare v others = others
unless_bare _ v others = v ∷ others

-- those that are visible in the handlers too
abbrev pub lasting_labels_of : Handlers → List Visible
lasting_labels_of NoHandler = []
lasting_labels_of (Handle at label params body rest) =
    unless_bare label (record { label = label; parameters = length params })
    (lasting_labels_of rest)

-- ---- parts of a node

-- an expression of a row
pub data InRow (e : Expression) : Expressions → Type 0 where
  first : {rest : Expressions} → InRow e (More e rest)
  later : {other : Expression} {rest : Expressions} → InRow e rest → InRow e (More other rest)

-- the body of a case
pub data InCases (e : Expression) : Cases → Type 0 where
  first : {indexes : _} {rest : Cases} → InCases e (Choose indexes e rest)
  later : {indexes : _} {other : Expression} {rest : Cases}
      → InCases e rest
      → InCases e (Choose indexes other rest)

-- a handler with these parameters and this body
pub data InHandlers (params : List Parameter) (e : Expression) : Handlers → Type 0 where
  first : {at : ℕ} {label : LabelTree} {rest : Handlers}
      → InHandlers params e (Handle at label params e rest)
  later : {at : ℕ} {label : LabelTree} {others : List Parameter} {other : Expression}
      {rest : Handlers}
      → InHandlers params e rest
      → InHandlers params e (Handle at label others other rest)

-- `InBindings value inner names bindings`: `value` is what one of the bindings binds, and it is evaluated with
-- the names `inner` in scope: those before the bindings, and those that the earlier bindings bind
pub data InBindings (value : Expression) (inner : List Scoped) : List Scoped
    → Bindings
    → Type 0 where
  first : {at : ℕ} {name : List ℕ} {declared : _} {rest : Bindings}
      → InBindings value inner inner (Bind at name declared value rest)
  later : {names : List Scoped} {at : ℕ} {name : List ℕ} {declared : _} {other : Expression}
      {rest : Bindings}
      → InBindings value inner (with_bindings names (Bind at name declared other NoBinding)) rest
      → InBindings value inner names (Bind at name declared other rest)

-- `Takes node e`: the node takes the value of its part e, in the scope of the node
pub data Takes : Expression → Expression → Type 0 where
  assigned : (at name_at : ℕ) (name : List ℕ) (value : Expression)
      → Takes (Assign at name_at name value) value
  left : (at : ℕ) (op : _) (a b : Expression) → Takes (Operator at op a b) a
  right : (at : ℕ) (op : _) (a b : Expression) → Takes (Operator at op a b) b
  loaded : (at : ℕ) (chunk : _) (address : Expression) → Takes (Load at chunk address) address
  address : (at : ℕ) (chunk : _) (to value : Expression) → Takes (Store at chunk to value) to
  stored : (at : ℕ) (chunk : _) (to value : Expression) → Takes (Store at chunk to value) value
  cell : (at header_at header : ℕ) (operands : Expressions) (e : Expression)
      → InRow e operands
      → Takes (Alloc at header_at header operands) e
  callee : (at : ℕ) (called : Expression) (arguments : Expressions) (result : _) (result_at : ℕ)
      → Takes (App at called arguments result result_at) called
  argument : (at : ℕ) (called : Expression) (arguments : Expressions) (result : _) (result_at : ℕ)
      (e : Expression)
      → InRow e arguments
      → Takes (App at called arguments result result_at) e
  outer_argument : (at : ℕ) (frame : Bool) (name : List ℕ) (arguments : Expressions) (result : _)
      (result_at : ℕ) (e : Expression)
      → InRow e arguments
      → Takes (Extcall at frame name arguments result result_at) e
  bound : (at : ℕ) (a b : Expression) → Takes (Checkbound at a b) a
  index : (at : ℕ) (a b : Expression) → Takes (Checkbound at a b) b
  raised : (at : ℕ) (value : Expression) → Takes (Raise at value) value
  condition : (at : ℕ) (test a b : Expression) → Takes (If at test a b) test
  selector : (at size_at size : ℕ) (chosen : Expression) (cases : Cases)
      → Takes (Switch at size_at size chosen cases) chosen
  exit_argument : (at label_at : ℕ) (label : LabelTree) (arguments : Expressions) (e : Expression)
      → InRow e arguments
      → Takes (Exit at label_at label arguments) e

-- `PartOf node e`: e is a part of the node, and is in the scope of the node
pub data PartOf : Expression → Expression → Type 0 where
  taken : (node e : Expression) → Takes node e → PartOf node e
  float_operand : (at word_at : ℕ) (operands : Expressions) (e : Expression)
      → InRow e operands
      → PartOf (Float at word_at operands) e
  element : (at : ℕ) (elements : Expressions) (e : Expression)
      → InRow e elements
      → PartOf (Seq at elements) e
  on_true : (at : ℕ) (test a b : Expression) → PartOf (If at test a b) a
  on_false : (at : ℕ) (test a b : Expression) → PartOf (If at test a b) b
  case : (at size_at size : ℕ) (chosen : Expression) (cases : Cases) (e : Expression)
      → InCases e cases
      → PartOf (Switch at size_at size chosen cases) e
  tried : (at : ℕ) (body : Expression) (name_at : ℕ) (name : List ℕ) (handler : Expression)
      → PartOf (Try at body name_at name handler) body

-- ---- nodes of a function

-- `Stands f names labels e`: the node e is in the function, with these names and labels visible, the
-- innermost first
pub data Stands (f : FunctionTree) : List Scoped → List Visible → Expression → Type 0 where
  -- the body, in the scope of the parameters
  the_body : Stands f (with_parameters f.params []) [] f.body
  -- what is in the scope of its node
  part : (names : List Scoped) (labels : List Visible) (node e : Expression)
      → Stands f names labels node
      → PartOf node e
      → Stands f names labels e
  -- what a binding binds
  binding : (names : List Scoped) (labels : List Visible) (at : ℕ) (bindings : Bindings)
      (body : Expression) (inner : List Scoped) (value : Expression)
      → Stands f names labels (Let at bindings body)
      → InBindings value inner names bindings
      → Stands f inner labels value
  -- the body of a let, after all bindings
  let_body : (names : List Scoped) (labels : List Visible) (at : ℕ) (bindings : Bindings)
      (body : Expression)
      → Stands f names labels (Let at bindings body)
      → Stands f (with_bindings names bindings) labels body
  -- the body of a catch, with all of its labels
  catch_body : (names : List Scoped) (labels : List Visible) (at : ℕ) (body : Expression)
      (handlers : Handlers)
      → Stands f names labels (Catch at body handlers)
      → Stands f names (labels_of handlers ++ labels) body
  -- a handler, in the scope of its parameters, with all labels of the catch but the bare one
  handler : (names : List Scoped) (labels : List Visible) (at : ℕ) (body : Expression)
      (handlers : Handlers) (params : List Parameter) (e : Expression)
      → Stands f names labels (Catch at body handlers)
      → InHandlers params e handlers
      → Stands f (with_parameters params names) (lasting_labels_of handlers ++ labels) e
  -- the handler of a try, whose name has type val
  try_handler : (names : List Scoped) (labels : List Visible) (at : ℕ) (body : Expression)
      (name_at : ℕ) (name : List ℕ) (e : Expression)
      → Stands f names labels (Try at body name_at name e)
      → Stands f (record { name = name; type = Val; mutable = false } ∷ names) labels e
