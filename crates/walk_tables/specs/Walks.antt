-- The walks of a function: its evaluation with all conditions ignored.
--
-- A walk binds, uses, and passes frame points. What it binds is a name or an operand; each takes a slot of its
-- own while it is in scope or pending, counted from 0 at the function's first parameter. An address is live at
-- a frame point where some walk binds it, passes that point, and then uses it, with no binding between.
--
-- A slot that is taken again is bound before it is used, so numbers can stand for names.
use Rattle.std.specs.Prelude.{◌≡◌, ℕ, zero, suc, ◌+◌, Bool, true, false, not, ◌&&◌, cond, List, [], ◌∷◌, ◌++◌, Option, Some, None, map, length, find, bytes_eq, Contains}
use Rattle.std.specs.Option.{option_map}
use Rattle.bs_words.specs.Fits.{type_of_comp}
use Rattle.bs_words.specs.declared.types.Ty.{Ty}
use Rattle.bs_words.specs.declared.types.Ty.TheVariants as ty
use Rattle.cmm_tree.specs.Measures.{count_of}
use Rattle.cmm_tree.specs.Place.{place_of}
use Rattle.cmm_tree.specs.Tree.{same_label, is_bare, LabelTree, Parameter, Expression, Integer, Pointer, Symbol, Name, Nothing, Float, Let, Assign, Operator, Load, Store, Alloc, App, Extcall, Checkbound, Raise, Seq, If, Switch, Catch, Exit, Try, Expressions, NoMore, More, Bindings, NoBinding, Bind, Cases, NoCase, Choose, Handlers, NoHandler, Handle, FunctionTree}
use Rattle.cmm_types.specs.Light.{is_light_address}
use Rattle.cmm_types.specs.Types.{Scoped, type_of, type_named, type_bound, is_mutable, is_address}

-- ---- events

-- What a walk does. Places are in bytes from the start of the text.
pub data Event : Type 0 where
  -- something is bound to this slot, at this place; it is an address or not
  Binds : (slot : ℕ) (address : Bool) (at : ℕ) → Event
  -- what is in this slot is used, at this place
  Uses : (slot at : ℕ) → Event
  -- a frame point
  Passes : (at : ℕ) → Event

-- ---- scopes

-- A name in scope, and its slot.
pub record Slotted : Type 0 where
  pub scoped : Scoped
  pub slot : ℕ

abbrev pub names : List Slotted → List Scoped
names scope = map (λ (s : Slotted). s.scoped) scope

-- the innermost binding of a name, which is first
abbrev pub slotted_as : List Slotted → List ℕ → Option Slotted
slotted_as scope name = find (λ (s : Slotted). bytes_eq s.scoped.name name) scope

-- the slot of a name: that of its innermost binding
abbrev pub slot_of : List Slotted → List ℕ → Option ℕ
slot_of scope name = option_map (λ (s : Slotted). s.slot) (slotted_as scope name)

abbrev pub slotted_parameter : ℕ → Parameter → Slotted
slotted_parameter slot p =
    record {
      scoped = record { name = p.name; type = type_of_comp p.comp; mutable = false };
      slot = slot;
    }

-- parameters in scope, in slots from this one on
abbrev pub with_slots : ℕ → List Parameter → List Slotted → List Slotted
with_slots slot [] scope = scope
with_slots slot (p ∷ params) scope = with_slots (suc slot) params (slotted_parameter slot p ∷ scope)

-- ---- what is left to do

-- A task of a walk.
pub data Task : Type 0 where
  Does : (event : Event) → Task
  -- an expression is evaluated, with these names in scope; the slots from this one on are free
  Evaluates : (scope : List Slotted) (slot : ℕ) (e : Expression) → Task
  -- bindings of a let, and then its body
  Enters : (scope : List Slotted) (slot : ℕ) (bindings : Bindings) (body : Expression) → Task
  -- one of these is evaluated, with these names in scope
  OneOf : (scope : List Slotted) (slot : ℕ) (es : List Expression) → Task
  -- an app, a frame call or a test of a bound, which may raise
  MayRaise : Task
  Raises : Task
  Exits : (label : LabelTree) → Task
  -- after the body of a catch, or one of its handlers: what an exit finds. A bare handler is not visible
  -- in the handlers.
  Catches : (scope : List Slotted) (slot : ℕ) (in_handler : Bool) (handlers : Handlers) → Task
  -- after the body of a try: what a raise finds
  Handles : (scope : List Slotted) (slot : ℕ) (name_at : ℕ) (name : List ℕ) (handler : Expression)
      → Task

-- an operand is evaluated, with the slots from `free` on, and its value is bound to its own slot
abbrev pub operand : List Slotted → ℕ → ℕ → Expression → List Task
operand scope free slot e =
    Evaluates scope free e ∷ Does (Binds slot (is_address (type_of (names scope) e)) (place_of e))
    ∷ []

-- the operation at this place takes so many operands, the first of them in this slot
abbrev pub operand_uses : ℕ → ℕ → ℕ → List Task
operand_uses at slot zero = []
operand_uses at slot (suc count) = Does (Uses slot at) ∷ operand_uses at (suc slot) count

-- ---- operands: the first is in `slot`, the next in the slot after, and `free` is after the last

-- those that are no light addresses are evaluated right to left
abbrev pub waiting : List Slotted → ℕ → ℕ → Expressions → List Task
waiting scope free slot NoMore = []
waiting scope free slot (More e rest) =
    waiting scope free (suc slot) rest ++ cond (is_light_address (names scope) e) []
    (operand scope free slot e)

-- and then the light addresses, right to left
abbrev pub filled_slots : List Slotted → ℕ → ℕ → Expressions → List Task
filled_slots scope free slot NoMore = []
filled_slots scope free slot (More e rest) =
    filled_slots scope free (suc slot) rest ++ cond (is_light_address (names scope) e)
    (operand scope free slot e) []

abbrev pub all_operands : List Slotted → ℕ → Expressions → List Task
all_operands scope slot es =
    waiting scope (slot + count_of es) slot es ++ filled_slots scope (slot + count_of es) slot es

abbrev pub two_expressions : Expression → Expression → Expressions
two_expressions a b = More a (More b NoMore)

-- an operation on one operand, and on two
abbrev pub on_one : List Slotted → ℕ → ℕ → Expression → List Task
on_one scope slot at e = all_operands scope slot (More e NoMore) ++ operand_uses at slot 1

abbrev pub on_two : List Slotted → ℕ → ℕ → Expression → Expression → List Task
on_two scope slot at a b = all_operands scope slot (two_expressions a b) ++ operand_uses at slot 2

-- ---- the tasks of each form

abbrev pub used_at : ℕ → Option ℕ → List Task
used_at at (Some slot) = Does (Uses slot at) ∷ []
used_at at None = []

-- an assignment binds its name at the place of its parenthesis
abbrev pub bound_at : ℕ → Ty → Option ℕ → List Task
bound_at at type (Some slot) = Does (Binds slot (is_address type) at) ∷ []
bound_at at type None = []

abbrev pub tasks_in_order : List Slotted → ℕ → Expressions → List Task
tasks_in_order scope slot NoMore = []
tasks_in_order scope slot (More e rest) = Evaluates scope slot e ∷ tasks_in_order scope slot rest

abbrev pub bodies : Cases → List Expression
bodies NoCase = []
bodies (Choose indexes body rest) = body ∷ bodies rest

-- after the operands of a call: an app and a frame call are a frame point, at their parenthesis, and may raise
-- there; another external call is none, and does not
abbrev pub call_tasks : Bool → ℕ → List Task
call_tasks passes at = cond passes (Does (Passes at) ∷ MayRaise ∷ []) []

-- an app and a frame call use their operands before their frame point, an alloc after it; a light address of an
-- alloc is evaluated after it, too
abbrev pub tasks_of : List Slotted → ℕ → Expression → List Task
tasks_of scope slot (Integer at word) = []
tasks_of scope slot (Pointer at word) = []
tasks_of scope slot (Symbol at name) = []
tasks_of scope slot (Name at name) = used_at at (slot_of scope name)
tasks_of scope slot (Nothing at) = []
tasks_of scope slot (Float at word_at operands) = []
tasks_of scope slot (Let at bindings body) = Enters scope slot bindings body ∷ []
tasks_of scope slot (Assign at name_at name value) =
    Evaluates scope slot value ∷ bound_at at (type_named (names scope) name) (slot_of scope name)
tasks_of scope slot (Operator at op left right) = on_two scope slot at left right
tasks_of scope slot (Load at chunk address) = on_one scope slot at address
tasks_of scope slot (Store at chunk address value) = on_two scope slot at address value
tasks_of scope slot (Alloc at header_at header operands) =
    waiting scope (slot + count_of operands) slot operands
    ++ (Does (Passes at) ∷
    (filled_slots scope (slot + count_of operands) slot operands ++ operand_uses at slot (count_of operands)))
tasks_of scope slot (App at callee arguments result result_at) =
    all_operands scope slot (More callee arguments)
    ++ (operand_uses at slot (suc (count_of arguments)) ++ call_tasks true at)
tasks_of scope slot (Extcall at frame name arguments result result_at) =
    all_operands scope slot arguments ++ (operand_uses at slot (count_of arguments) ++ call_tasks frame at)
tasks_of scope slot (Checkbound at bound index) =
    on_two scope slot at bound index ++ (MayRaise ∷ [])
tasks_of scope slot (Raise at value) = on_one scope slot at value ++ (Raises ∷ [])
tasks_of scope slot (Seq at elements) = tasks_in_order scope slot elements
tasks_of scope slot (If at condition on_true on_false) =
    on_one scope slot at condition ++ (OneOf scope slot (on_true ∷ on_false ∷ []) ∷ [])
tasks_of scope slot (Switch at size_at size selector cases) =
    on_one scope slot at selector ++ (OneOf scope slot (bodies cases) ∷ [])
tasks_of scope slot (Catch at body handlers) =
    Evaluates scope slot body ∷ Catches scope slot false handlers ∷ []
tasks_of scope slot (Exit at label_at label arguments) =
    all_operands scope slot arguments ++ (operand_uses at slot (count_of arguments) ++ (Exits label ∷ []))
tasks_of scope slot (Try at body name_at name handler) =
    Evaluates scope slot body ∷ Handles scope slot name_at name handler ∷ []

-- the first binding of a let, and the others in its scope; then the body
abbrev pub entering : List Slotted → ℕ → Bindings → Expression → List Task
entering scope slot NoBinding body = Evaluates scope slot body ∷ []
entering scope slot (Bind at name declared value rest) body =
    let type = type_bound declared (type_of (names scope) value) in
    let bound : Slotted =
    record {
      scoped = record { name = name; type = type; mutable = is_mutable declared };
      slot = slot;
    } in
    Evaluates scope slot value ∷ Does (Binds slot (is_address type) at) ∷ Enters (bound ∷ scope)
    (suc slot) rest body ∷ []

-- ---- handlers

-- parameters are bound at their names
abbrev pub parameters_bound : ℕ → List Parameter → List Task
parameters_bound slot [] = []
parameters_bound slot (p ∷ params) =
    Does (Binds slot (is_address (type_of_comp p.comp)) p.at) ∷ parameters_bound (suc slot) params

-- the handler of a label, and what is after it, if it is one of these
abbrev pub handler_for : LabelTree
    → List Slotted
    → ℕ
    → Bool
    → Handlers
    → List Task
    → Handlers
    → Option (List Task)
handler_for label scope slot in_handler all behind NoHandler = None
handler_for label scope slot in_handler all behind (Handle at own params body rest) =
    cond (same_label label own && not (is_bare label && in_handler))
    (Some (parameters_bound slot params
    ++ (Evaluates (with_slots slot params scope) (slot + length params) body
    ∷ Catches scope slot true all ∷ behind)))
    (handler_for label scope slot in_handler all behind rest)

-- where an exit leads, if a handler of its label is visible
abbrev pub or_else : Option (List Task) → Option (List Task) → Option (List Task)
or_else (Some tasks) others = Some tasks
or_else None others = others

abbrev pub behind_exit : LabelTree → List Task → Option (List Task)
behind_exit label [] = None
behind_exit label (Catches scope slot in_handler handlers ∷ rest) =
    or_else (handler_for label scope slot in_handler handlers rest handlers)
    (behind_exit label rest)
behind_exit label (_ ∷ rest) = behind_exit label rest

abbrev pub handling : List Slotted → ℕ → ℕ → List ℕ → Expression → List Task
handling scope slot name_at name handler =
    let raised : Slotted =
    record { scoped = record { name = name; type = ty.Val; mutable = false }; slot = slot } in
    Does (Binds slot false name_at) ∷ Evaluates (raised ∷ scope) (suc slot) handler ∷ []

-- where a raise leads, if a try of the function is active
abbrev pub behind_raise : List Task → Option (List Task)
behind_raise [] = None
behind_raise (Handles scope slot name_at name handler ∷ rest) =
    Some (handling scope slot name_at name handler ++ rest)
behind_raise (_ ∷ rest) = behind_raise rest

-- ---- walks

-- One step of a walk, with its event, if it has one.
-- It is apart from walks, so that what one step is, is said once.
pub data NextTasks : List Task → List Event → List Task → Type 0 where
  does : (event : Event) (tasks : List Task) → NextTasks (Does event ∷ tasks) (event ∷ []) tasks
  evaluates : (scope : List Slotted) (slot : ℕ) (e : Expression) (tasks : List Task)
      → NextTasks (Evaluates scope slot e ∷ tasks) [] (tasks_of scope slot e ++ tasks)
  enters : (scope : List Slotted) (slot : ℕ) (bindings : Bindings) (body : Expression)
      (tasks : List Task)
      → NextTasks (Enters scope slot bindings body ∷ tasks) []
      (entering scope slot bindings body ++ tasks)
  one_of : (scope : List Slotted) (slot : ℕ) (es : List Expression) (e : Expression)
      (tasks : List Task)
      → Contains es e → NextTasks (OneOf scope slot es ∷ tasks) [] (Evaluates scope slot e ∷ tasks)
  goes_on : (tasks : List Task) → NextTasks (MayRaise ∷ tasks) [] tasks
  may_raise : (tasks : List Task) → NextTasks (MayRaise ∷ tasks) [] (Raises ∷ tasks)
  raises : (tasks handler : List Task)
      → behind_raise tasks ≡ Some handler
      → NextTasks (Raises ∷ tasks) [] handler
  exits : (label : LabelTree) (tasks handler : List Task)
      → behind_exit label tasks ≡ Some handler
      → NextTasks (Exits label ∷ tasks) [] handler
  leaves_catch : (scope : List Slotted) (slot : ℕ) (in_handler : Bool) (handlers : Handlers)
      (tasks : List Task)
      → NextTasks (Catches scope slot in_handler handlers ∷ tasks) [] tasks
  leaves_try : (scope : List Slotted) (slot name_at : ℕ) (name : List ℕ) (handler : Expression)
      (tasks : List Task)
      → NextTasks (Handles scope slot name_at name handler ∷ tasks) [] tasks

-- What may happen where these tasks are left, up to any point.
pub data Walk : List Task → List Event → Type 0 where
  stops : (tasks : List Task) → Walk tasks []
  goes : (tasks left : List Task) (es events : List Event)
      → NextTasks tasks es left
      → Walk left events
      → Walk tasks (es ++ events)

-- a walk of a function binds its parameters, and evaluates its body
abbrev pub walk_tasks : FunctionTree → List Task
walk_tasks f =
    parameters_bound 0 f.params
    ++ (Evaluates (with_slots 0 f.params []) (length f.params) f.body ∷ [])

abbrev pub IsWalkOf : FunctionTree → List Event → Type 0
IsWalkOf f events = Walk (walk_tasks f) events
