-- The meaning of a function once more, as an interaction, in continuation style. It is beside the evaluation of
-- an expression form by form, and has its words; of the world it knows the memory alone, so that it says what a
-- function does whatever calls do, and however many units are left.
--
-- `both` and `unless_light` are those of the evaluation once more: each account has its own way to go on
-- with a value. That the two agree is a law (`agree_unless_light`).
--
-- Catches take a number of turns, any that is not below the units left. It is the meaning of the text
-- wherever calls give no units back, which is proved of whole runs and of runs alone.
use Rattle.std.specs.Prelude.{ℕ, zero, suc, ◌+◌, Bool, true, false, cond, nat_lt, List, [], ◌∷◌, Option, Some, None, Result, Ok, Err, length, map, slice_get}
use Rattle.bs_words.specs.Fits.{fits, misfit, type_of_comp}
use Rattle.bs_words.specs.External.{External}
use Rattle.bs_words.specs.Memory.{Memory, sizes, loaded, stored, allocated, next_block}
use Rattle.bs_words.specs.Operators.{apply, condition_of, word_in}
use Rattle.bs_words.specs.declared.types.Comp.{Comp}
use Rattle.bs_words.specs.declared.types.Ret.{Ret}
use Rattle.bs_words.specs.declared.types.Ret.TheVariants as ret
use Rattle.bs_words.specs.declared.types.Ty.{Ty}
use Rattle.bs_words.specs.declared.types.Ty.TheVariants as ty
use Rattle.bs_words.specs.declared.values.Kind.{Kind}
use Rattle.bs_words.specs.declared.values.Kind.TheVariants.{BadValue, BadCall, SwitchRange}
use Rattle.bs_words.specs.declared.values.Value.{Value}
use Rattle.bs_words.specs.declared.values.Value.TheVariants as value
use Rattle.cmm_tree.specs.Tree.{FunctionTree, LabelTree, Parameter, Expression, Integer, Pointer, Symbol, Name, Nothing, Float, Let, Assign, Operator, Load, Store, Alloc, App, Extcall, Checkbound, Raise, Seq, If, Switch, Catch, Exit, Try, Expressions, NoMore, More, Bindings, NoBinding, Bind, Cases, NoCase, Choose, Handlers, NoHandler, Handle}
use Rattle.cmm_types.specs.Light.{is_light_address}
use Rattle.cmm_types.specs.Types.{Scoped, type_of, type_named, type_bound, is_mutable}
use Rattle.cmm_meaning.specs.State.{Doing, Gave, Threw, Called, Here, taken, within_try, scope, value_of, assigned, bound, back_in}
use Rattle.cmm_meaning.specs.Evaluation.{is_left_first, first_of, rest_of, fit_parameters, call_from, row_of_call, scoped_parameter, with_bound, bound_error}
use Rattle.cmm_meaning.specs.Setting.{Setting}
use Rattle.cmm_meaning.specs.Choices.{Ready, ready_for, Chosen, case_for}
use Rattle.meaning_laws.specs.Does.{Leaves, Giving, Exiting, Raising, Does, Ends, Pays, Deepens, Jumps, Calls, CallsOut, Fails, Spent}

-- ---- parts

-- A part of a function: what the function does from where the part begins, once it is known what it does from
-- however the part is left.
abbrev pub Part : Type 0 → Type 0
Part A = (Leaves A → Does) → Does

abbrev pub gives : {A : Type 0} → A → Here → Memory → Part A
gives a h m k = k (Giving a h m)

abbrev pub exits : {A : Type 0} → LabelTree → List Value → Here → Memory → Part A
exits label values h m k = k (Exiting label values h m)

abbrev pub raises : {A : Type 0} → Value → Here → Memory → Part A
raises v h m k = k (Raising v h m)

abbrev pub fails : {A : Type 0} → Kind → Memory → Part A
fails kind m k = Fails m kind

abbrev pub spent : {A : Type 0} → Memory → Part A
spent m k = Spent m

abbrev pub jumps : {A : Type 0} → Part A → Part A
jumps part k = Jumps (part k)

abbrev pub deepens : {A : Type 0} → ℕ → Part A → Part A
deepens bytes part k = Deepens bytes (part k)

-- goes on from however a part is left
abbrev pub from : {A B : Type 0} → Part A → (Leaves A → Part B) → Part B
from part go k = part (λ l. go l k)

abbrev pub onward : {A B : Type 0} → (A → Here → Memory → Part B) → Leaves A → Part B
onward go (Giving a h m) = go a h m
onward go (Exiting label values h m) = exits label values h m
onward go (Raising v h m) = raises v h m

-- goes on with what a part gives
abbrev pub and_then : {A B : Type 0} → Part A → (A → Here → Memory → Part B) → Part B
and_then part go = from part (onward go)

abbrev pub only_value : {B : Type 0} → Option Value → (Value → Here → Memory → Part B) → Here → Memory → Part B
only_value (Some v) go h m = go v h m
only_value None go h m = fails BadValue m

-- goes on with the value that an operand has
abbrev pub with_value : {B : Type 0} → Part (Option Value) → (Value → Here → Memory → Part B) → Part B
with_value part go = and_then part (λ v h m. only_value v go h m)

-- goes on with what an operation gives, or is improper
abbrev pub proper : {A B : Type 0} → Result A Kind → Memory → (A → Part B) → Part B
proper (Ok a) m go = go a
proper (Err kind) m go = fails kind m

-- a value that must fit this type
abbrev pub tested : {B : Type 0} → ℕ → Ty → Value → Memory → Part B → Part B
tested end type v m part = cond (fits end type v) part (fails (misfit type) m)

-- what a node of this type gives; where the type is no value, a value is dropped
abbrev pub of_type : ℕ → Ty → Option Value → Here → Memory → Part (Option Value)
of_type end ty.NoValue v h m = gives None h m
of_type end type (Some v) h m = tested end type v m (gives (Some v) h m)
of_type end type None h m = fails BadValue m

abbrev pub typed : ℕ → Ty → Part (Option Value) → Part (Option Value)
typed end type part = and_then part (λ v h m. of_type end type v h m)

-- ---- operands

-- An expression, ready to be evaluated from an activation and a memory.
abbrev pub Operand : Type 0
Operand = Here → Memory → Part (Option Value)

-- two operands: the right one first, but where it alone is a light address
abbrev pub both : {B : Type 0} → Bool → Operand → Operand → Here → Memory → (Value → Value → Here → Memory → Part B) → Part B
both false left right h m go =
    with_value (right h m) (λ b h m. with_value (left h m) (λ a h m. go a b h m))
both true left right h m go =
    with_value (left h m) (λ a h m. with_value (right h m) (λ b h m. go a b h m))

-- an operand that is a light address waits, and has no value yet
abbrev pub unless_light : {B : Type 0} → Bool → Operand → Here → Memory → (Option Value → Here → Memory → Part B) → Part B
unless_light true operand h m go = go None h m
unless_light false operand h m go = with_value (operand h m) (λ v h m. go (Some v) h m)

-- an operand that has waited is evaluated now
abbrev pub now_or_before : {B : Type 0} → Option Value → Operand → Here → Memory → (Value → Here → Memory → Part B) → Part B
now_or_before (Some v) operand h m go = go v h m
now_or_before None operand h m go = with_value (operand h m) go

-- ---- calls

-- a value comes where the call is written with a type
abbrev pub as_written : Ret → Option Value → Here → Memory → Part (Option Value)
as_written ret.Unit v h m = gives None h m
as_written (ret.Comp c) (Some v) h m = gives (Some v) h m
as_written (ret.Comp c) None h m = fails BadCall m

-- the activation after a call, which has changed nothing of it
abbrev pub part_from_call : Ret → Here → Doing → Part (Option Value)
part_from_call result h (Gave v m) = as_written result v h m
part_from_call result h (Threw v m) = raises v h m

abbrev pub calls : Called → Ret → Here → Memory → Part (Option Value)
calls call result h m k = Calls call m (λ d. part_from_call result h d k)

abbrev pub calls_out : External → Bool → List Value → Here → Memory → Part (Option Value)
calls_out row frame arguments h m k =
    CallsOut row frame arguments m (λ d. part_from_call row.result h d k)

abbrev pub called_with : Setting → Option (List Comp) → ℕ → List Value → Ret → Bool → Here → Memory → Part (Option Value)
called_with c None f arguments result tail h m = fails BadCall m
called_with c (Some comps) f arguments result tail h m =
    cond (fit_parameters c.end comps arguments) (calls (call_from f arguments tail h) result h m) (fails BadCall m)

-- the callee is a function with as many parameters as arguments, which fit them
abbrev pub applied : Setting → Value → List Value → Ret → Bool → Here → Memory → Part (Option Value)
applied c (value.Function f) arguments result tail h m =
    called_with c (slice_get c.parameters f) f arguments result tail h m
applied c _ arguments result tail h m = fails BadCall m

-- ---- handlers

-- the arguments of an exit fit the handler's parameters, tested in their order
abbrev pub entered : ℕ → List Parameter → List Value → Memory → Part (Option Value) → Part (Option Value)
entered end [] [] m part = part
entered end (p ∷ params) (v ∷ values) m part =
    tested end (type_of_comp p.comp) v m (entered end params values m part)
entered end _ _ m part = fails BadCall m

-- the scope that a catch, or a let, was entered in, where what it gives is taken
abbrev pub scope_restored : ℕ → ℕ → Part (Option Value) → Part (Option Value)
scope_restored level tries part = and_then part (λ v h m. gives v (back_in level tries h) m)

abbrev pub handled : ℕ
    → Option (Ready Operand) → LabelTree → List Value → ℕ → ℕ
    → Here → Memory → (Leaves (Option Value) → Part (Option Value)) → Part (Option Value)
handled end None label values level tries h m again = exits label values h m
handled end (Some r) label values level tries h m again =
    let inside = back_in level tries h in
    let bound : Here = with_bound (map scoped_parameter r.params) values inside in
    from (entered end r.params values m (scope_restored level tries (r.body bound m))) again

-- where a catch has no turn left, an exit to one of its handlers is still improper where its arguments do not fit
abbrev pub out_of_turns : ℕ → Option (Ready Operand) → LabelTree → List Value → Here → Memory → Part (Option Value)
out_of_turns end None label values h m = exits label values h m
out_of_turns end (Some r) label values h m = entered end r.params values m (spent m)

-- a catch, from how its body, or one of its handlers, is left: an exit to one of its handlers takes a turn
abbrev pub catching : ℕ → ℕ → Bool → List (Ready Operand) → ℕ → ℕ → Leaves (Option Value) → Part (Option Value)
catching end turns within handlers level tries (Giving v h m) = gives v h m
catching end turns within handlers level tries (Raising v h m) = raises v h m
catching end zero within handlers level tries (Exiting label values h m) =
    out_of_turns end (ready_for within label handlers) label values h m
catching end (suc turns) within handlers level tries (Exiting label values h m) =
    handled end (ready_for within label handlers) label values level tries h m (catching end turns true handlers level tries)

-- a try, from how its body is left
abbrev pub trying : (Value → Here → Memory → Part (Option Value)) → ℕ → ℕ → Leaves (Option Value) → Part (Option Value)
trying handler level tries (Giving v h m) = gives v (back_in level tries h) m
trying handler level tries (Raising v h m) = handler v (back_in level tries h) m
trying handler level tries (Exiting label values h m) = exits label values h m

-- ---- switches

abbrev pub chosen : Option (Chosen Operand) → Operand
chosen None h m = fails SwitchRange m
chosen (Some c) h m = c.body h m

-- ---- expressions

abbrev pub looked_up : Option Value → Operand
looked_up (Some v) h m = gives (Some v) h m
looked_up None h m = fails BadValue m

-- a node begins and pays a unit, and what it gives is tested against its type
abbrev pub node_part : Setting → Expression → Here → Memory → Part (Option Value) → Part (Option Value)
node_part c e h m part k = Pays m (typed c.end (type_of (scope h) e) part k)

abbrev mutual
  -- what a function does where it evaluates an expression, if a catch may be left for so many times; `tail` says
  -- whether the expression is in tail position
  pub does : Setting → ℕ → Expression → Bool → Here → Memory → Part (Option Value)
  does c turns (Integer at n) tail h m = node_part c (Integer at n) h m (gives (Some (value.Word n)) h m)
  does c turns (Pointer at n) tail h m = node_part c (Pointer at n) h m (gives (Some (value.Word n)) h m)
  does c turns (Symbol at name) tail h m =
      node_part c (Symbol at name) h m (looked_up (c.symbol name) h m)
  does c turns (Name at x) tail h m = node_part c (Name at x) h m (looked_up (value_of h.names x) h m)
  does c turns (Nothing at) tail h m = node_part c (Nothing at) h m (gives None h m)
  -- no accepted text has a float
  does c turns (Float at word_at operands) tail h m = fails BadValue m
  does c turns (Let at bindings body) tail h m =
      node_part c (Let at bindings body) h m (
      and_then (entering c turns bindings h m) (λ _ inner m. scope_restored (length h.names) h.tries (does c turns body tail inner m)))
  does c turns (Assign at name_at name e) tail h m =
      node_part c (Assign at name_at name e) h m (
      with_value (does c turns e false h m) (λ v h m.
      tested c.end (type_named (scope h) name) v m (gives None (record h { names = assigned h.names name v }) m)))
  does c turns (Operator at op left right) tail h m =
      node_part c (Operator at op left right) h m (
      both (is_left_first (scope h) left right) (does c turns left false) (does c turns right false) h m (λ a b h m.
      proper (apply op (sizes m) a b) m (λ v. gives (Some v) h m)))
  does c turns (Load at chunk address) tail h m =
      node_part c (Load at chunk address) h m (
      with_value (does c turns address false h m) (λ a h m. proper (loaded chunk m a) m (λ v. gives (Some v) h m)))
  does c turns (Store at chunk address e) tail h m =
      node_part c (Store at chunk address e) h m (
      both (is_left_first (scope h) address e) (does c turns address false) (does c turns e false) h m (λ a v h m.
      proper (stored chunk m a v) m (λ after. gives None h after)))
  does c turns (Alloc at header_at header operands) tail h m =
      node_part c (Alloc at header_at header operands) h m (
      and_then (waiting c turns operands h m) (λ before h m.
      and_then (filled c turns operands before h m) (λ values h m.
      proper (allocated m header values) m (λ after. gives (Some (next_block m)) h after))))
  does c turns (App at callee arguments result result_at) tail h m =
      node_part c (App at callee arguments result result_at) h m (
      and_then (waiting c turns arguments h m) (λ before h m.
      unless_light (is_light_address (scope h) callee) (does c turns callee false) h m (λ f h m.
      and_then (filled c turns arguments before h m) (λ values h m.
      now_or_before f (does c turns callee false) h m (λ f h m. applied c f values result tail h m)))))
  does c turns (Extcall at frame name arguments result result_at) tail h m =
      node_part c (Extcall at frame name arguments result result_at) h m (
      and_then (waiting c turns arguments h m) (λ before h m.
      and_then (filled c turns arguments before h m) (λ values h m.
      calls_out (row_of_call (scope h) name arguments result) frame values h m)))
  does c turns (Checkbound at bound index) tail h m =
      node_part c (Checkbound at bound index) h m (
      both (is_left_first (scope h) bound index) (does c turns bound false) (does c turns index false) h m (λ a b h m.
      proper (word_in a) m (λ bound. proper (word_in b) m (λ index.
      cond (nat_lt index bound) (gives None h m) (jumps (raises bound_error h m))))))
  does c turns (Raise at e) tail h m =
      node_part c (Raise at e) h m (
      with_value (does c turns e false h m) (λ v h m. tested c.end ty.Val v m (jumps (raises v h m))))
  does c turns (Seq at elements) tail h m =
      node_part c (Seq at elements) h m (in_order c turns elements tail h m)
  does c turns (If at condition on_true on_false) tail h m =
      node_part c (If at condition on_true on_false) h m (
      with_value (does c turns condition false h m) (λ v h m.
      proper (condition_of (sizes m) v) m (λ holds.
      cond holds (does c turns on_true tail h m) (does c turns on_false tail h m))))
  does c turns (Switch at size_at size selector cases) tail h m =
      node_part c (Switch at size_at size selector cases) h m (
      with_value (does c turns selector false h m) (λ v h m.
      proper (word_in v) m (λ k.
      cond (nat_lt k size) (chosen (case_for (choices c turns cases tail) k) h m) (fails SwitchRange m))))
  does c turns (Catch at body handlers) tail h m =
      node_part c (Catch at body handlers) h m (
      from (does c turns body tail h m) (catching c.end turns false (readied c turns handlers tail) (length h.names) h.tries))
  does c turns (Exit at label_at label arguments) tail h m =
      node_part c (Exit at label_at label arguments) h m (
      and_then (waiting c turns arguments h m) (λ before h m.
      and_then (filled c turns arguments before h m) (λ values h m. jumps (exits label values h m))))
  does c turns (Try at body name_at name handler) tail h m =
      node_part c (Try at body name_at name handler) h m (
      from (deepens (taken (within_try h)) (does c turns body false (within_try h) m))
      (trying
      (λ v h m.
      let raised : Scoped = record { name = name; type = ty.Val; mutable = false } in
      scope_restored (length h.names) h.tries (does c turns handler tail (with_bound (raised ∷ []) (v ∷ []) h) m))
      (length h.names) h.tries))

  -- the operands that are no light addresses, right to left; the others wait
  pub waiting : Setting → ℕ → Expressions → Here → Memory → Part (List (Option Value))
  waiting c turns NoMore h m = gives [] h m
  waiting c turns (More e rest) h m =
      and_then (waiting c turns rest h m) (λ values h m.
      unless_light (is_light_address (scope h) e) (does c turns e false) h m (λ v h m. gives (v ∷ values) h m))

  -- and those that have waited, right to left
  pub filled : Setting → ℕ → Expressions → List (Option Value) → Here → Memory → Part (List Value)
  filled c turns NoMore before h m = gives [] h m
  filled c turns (More e rest) before h m =
      and_then (filled c turns rest (rest_of before) h m) (λ values h m.
      now_or_before (first_of before) (does c turns e false) h m (λ v h m. gives (v ∷ values) h m))

  -- bindings, one after the other
  pub entering : Setting → ℕ → Bindings → Here → Memory → Part (Option Value)
  entering c turns NoBinding h m = gives None h m
  entering c turns (Bind at name declared e rest) h m =
      with_value (does c turns e false h m) (λ v h m.
      let scoped : Scoped = record {
        name = name;
        type = type_bound declared (type_of (scope h) e);
        mutable = is_mutable declared;
      } in
      tested c.end scoped.type v m (entering c turns rest (with_bound (scoped ∷ []) (v ∷ []) h) m))

  -- the elements of a sequence, the last in tail position where the whole is
  pub in_order : Setting → ℕ → Expressions → Bool → Here → Memory → Part (Option Value)
  in_order c turns NoMore tail h m = gives None h m
  in_order c turns (More e NoMore) tail h m = does c turns e tail h m
  in_order c turns (More e rest) tail h m =
      and_then (does c turns e false h m) (λ _ h m. in_order c turns rest tail h m)

  pub choices : Setting → ℕ → Cases → Bool → List (Chosen Operand)
  choices c turns NoCase tail = []
  choices c turns (Choose indexes body rest) tail =
      record { indexes = indexes; body = λ h m. does c turns body tail h m } ∷ choices c turns rest tail

  pub readied : Setting → ℕ → Handlers → Bool → List (Ready Operand)
  readied c turns NoHandler tail = []
  readied c turns (Handle at label params body rest) tail =
      record { label = label; params = params; body = λ h m. does c turns body tail h m } ∷ readied c turns rest tail

-- what a function does on these arguments, in this memory, on so many stack bytes: its frame counts, and its
-- body is in tail position
abbrev pub function_does : Setting → ℕ → ℕ → FunctionTree → List Value → ℕ → Memory → Does
function_does c turns frame f arguments below m =
    let here : Here = record {
      names = bound (map scoped_parameter f.params) arguments [];
      below = below;
      frame = frame;
      tries = 0;
    } in
    Deepens (below + frame) (does c turns f.body true here m Ends)
