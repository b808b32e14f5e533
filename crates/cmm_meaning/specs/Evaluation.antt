-- The evaluation of an expression.
--
-- It is parametric in what calls do, so that one definition serves the run of a whole file and the
-- evaluation of one function alone. Each node of the tree costs one unit of fuel when its evaluation
-- begins, and a value is tested against the type of its node. Operands are evaluated right to left, but
-- light addresses after all others.
--
-- The evaluation is in direct style. So the value that comes back after a tail call meets, on its way out,
-- the tests of the nodes round it. A run that no accepted text has is given some improper end, so that
-- definitions are total.
use Rattle.std.specs.Prelude.{ℕ, zero, suc, Bool, true, false, not, cond, ◌&&◌, nat_lt, List, [], ◌∷◌, Option, Some, None, Result, Ok, Err, length, map, slice_get}
use Rattle.bs_words.specs.Fits.{fits, misfit, type_of_comp, data_start}
use Rattle.bs_words.specs.External.{External}
use Rattle.bs_words.specs.Memory.{sizes, loaded, stored, allocated, next_block}
use Rattle.bs_words.specs.Operators.{apply, condition_of, word_in}
use Rattle.bs_words.specs.declared.types.Comp.{Comp}
use Rattle.bs_words.specs.declared.types.Ret.{Ret}
use Rattle.bs_words.specs.declared.types.Ret.TheVariants as ret
use Rattle.bs_words.specs.declared.types.Ty.{Ty}
use Rattle.bs_words.specs.declared.types.Ty.TheVariants as ty
use Rattle.bs_words.specs.declared.values.Kind.{Kind}
use Rattle.bs_words.specs.declared.values.Kind.TheVariants.{BadValue, BadCall, SwitchRange}
use Rattle.bs_words.specs.declared.values.Value.{Value}
use Rattle.bs_words.specs.declared.values.Value.TheVariants as value
use Rattle.cmm_data.specs.Known.{LabelTree, Parameter, Expression, Integer, Pointer, Symbol, Name, Nothing, Float, Let, Assign, Operator, Load, Store, Alloc, App, Extcall, Checkbound, Raise, Seq, If, Switch, Catch, Exit, Try, Expressions, NoMore, More, Bindings, NoBinding, Bind, Cases, NoCase, Choose, Handlers, NoHandler, Handle}
use Rattle.cmm_types.specs.Light.{is_light_address}
use Rattle.cmm_types.specs.Types.{Scoped, type_of, type_named, type_bound, is_mutable, comp_of_argument}
use Rattle.bs_words.specs.Observed.{Made}
use Rattle.cmm_meaning.specs.Choices.{Ready, ready_for, Chosen, case_for}
use Rattle.cmm_meaning.specs.State.{Asked, Called, World, Here, taken, within_try, scope, value_of, assigned, bound, back_in, deepened}

-- Why a run stops before its end.
pub data Stop : Type 0 where
  OutOfFuel : Stop
  NotProper : (kind : Kind) → Stop
  -- an external call wanted an answer, and none was left
  NoAnswer : (call : Made) → Stop
  -- where one function is evaluated alone: nothing more is handed in for its calls
  Asking : (call : Asked) → Stop

-- How an evaluation ends: it gives something, leaves to a handler of a catch, raises, or stops.
pub data Evaluated (A : Type 0) : Type 0 where
  Gives : (given : A) (here : Here) (world : World) → Evaluated A
  Exits : (label : LabelTree) (values : List Value) (here : Here) (world : World) → Evaluated A
  Raises : (raised : Value) (here : Here) (world : World) → Evaluated A
  Stops : (why : Stop) (world : World) → Evaluated A

-- the evaluation of an expression gives a value, or none
abbrev pub Evaluation : Type 0
Evaluation = Evaluated (Option Value)

-- What is round an expression.
-- It is a parameter of the evaluation, so that one definition serves the run of a file and the evaluation
-- of one function alone.
pub record Surroundings : Type 0 where
  -- the first address past the data
  pub end : ℕ
  -- the value of a symbol
  pub symbol : List ℕ → Option Value
  -- the components of the parameters of each function of the file, in order
  pub parameters : List (List Comp)
  -- what a call of a function does, in a world
  pub call : Called → World → Evaluation
  -- what an external call does: its row, whether it is a frame call, its arguments, and the world
  pub external : External → Bool → List Value → World → Evaluation

-- ---- steps

-- goes on with what an evaluation gives
abbrev pub and_then : {A B : Type 0} → Evaluated A → (A → Here → World → Evaluated B) → Evaluated B
and_then (Gives a h w) go = go a h w
and_then (Exits label values h w) go = Exits label values h w
and_then (Raises v h w) go = Raises v h w
and_then (Stops why w) go = Stops why w

abbrev pub only_value : {B : Type 0} → Option Value → (Value → Here → World → Evaluated B) → Here → World → Evaluated B
only_value (Some v) go h w = go v h w
only_value None go h w = Stops (NotProper BadValue) w

-- goes on with the value that an operand has; no accepted text has an operand with none
abbrev pub with_value : {B : Type 0} → Evaluation → (Value → Here → World → Evaluated B) → Evaluated B
with_value e go = and_then e (λ v h w. only_value v go h w)

-- goes on with what an operation gives, or is improper
abbrev pub proper : {A B : Type 0} → Result A Kind → World → (A → Evaluated B) → Evaluated B
proper (Ok a) w go = go a
proper (Err kind) w go = Stops (NotProper kind) w

abbrev pub spend : {A : Type 0} → ℕ → World → (World → Evaluated A) → Evaluated A
spend zero w go = Stops OutOfFuel w
spend (suc left) w go = go (record w { left = left })

-- a node begins where a unit is left, and takes it
abbrev pub begins : {A : Type 0} → World → (World → Evaluated A) → Evaluated A
begins w go = spend w.left w go

-- a value that must fit this type
abbrev pub tested : {B : Type 0} → ℕ → Ty → Value → World → Evaluated B → Evaluated B
tested end type v w go = cond (fits end type v) go (Stops (NotProper (misfit type)) w)

-- what a node of this type gives; where the type is no value, a value is dropped
abbrev pub of_type : ℕ → Ty → Option Value → Here → World → Evaluation
of_type end ty.NoValue v h w = Gives None h w
of_type end type (Some v) h w = tested end type v w (Gives (Some v) h w)
of_type end type None h w = Stops (NotProper BadValue) w

abbrev pub typed : ℕ → Ty → Evaluation → Evaluation
typed end type e = and_then e (λ v h w. of_type end type v h w)

-- ---- operands

-- two operands: the right one first, but where it alone is a light address
abbrev pub both : {B : Type 0}
    → Bool → (Here → World → Evaluation) → (Here → World → Evaluation)
    → Here → World → (Value → Value → Here → World → Evaluated B) → Evaluated B
both false left right h w go =
    with_value (right h w) (λ b h w. with_value (left h w) (λ a h w. go a b h w))
both true left right h w go =
    with_value (left h w) (λ a h w. with_value (right h w) (λ b h w. go a b h w))

abbrev pub is_left_first : List Scoped → Expression → Expression → Bool
is_left_first names left right = is_light_address names right && not (is_light_address names left)

-- an operand that is a light address waits, and has no value yet
abbrev pub unless_light : {B : Type 0}
    → Bool → (Here → World → Evaluation)
    → Here → World → (Option Value → Here → World → Evaluated B) → Evaluated B
unless_light true operand h w go = go None h w
unless_light false operand h w go = with_value (operand h w) (λ v h w. go (Some v) h w)

-- an operand that has waited is evaluated now
abbrev pub now_or_before : {B : Type 0}
    → Option Value → (Here → World → Evaluation)
    → Here → World → (Value → Here → World → Evaluated B) → Evaluated B
now_or_before (Some v) operand h w go = go v h w
now_or_before None operand h w go = with_value (operand h w) go

abbrev pub first_of : List (Option Value) → Option Value
first_of [] = None
first_of (v ∷ values) = v

abbrev pub rest_of : List (Option Value) → List (Option Value)
rest_of [] = []
rest_of (v ∷ values) = values

-- ---- calls

abbrev pub fit_parameters : ℕ → List Comp → List Value → Bool
fit_parameters end [] [] = true
fit_parameters end (c ∷ comps) (v ∷ values) =
    fits end (type_of_comp c) v && fit_parameters end comps values
fit_parameters end _ _ = false

-- The activation after a call, which has changed nothing of it. No exit leaves a function of an accepted text:
-- it is a bad call, so that a callee gives, raises or stops, and nothing else.
abbrev pub back_from_call : Here → Evaluation → Evaluation
back_from_call h (Gives v _ w) = Gives v h w
back_from_call h (Exits label values _ w) = Stops (NotProper BadCall) w
back_from_call h (Raises v _ w) = Raises v h w
back_from_call h (Stops why w) = Stops why w

-- a value comes where the call is written with a type
abbrev pub as_written : Ret → Option Value → Here → World → Evaluation
as_written ret.Unit v h w = Gives None h w
as_written (ret.Comp c) (Some v) h w = Gives (Some v) h w
as_written (ret.Comp c) None h w = Stops (NotProper BadCall) w

-- in tail position the callee takes the place of its caller
abbrev pub stack_below : Bool → Here → ℕ
stack_below true h = h.below
stack_below false h = taken h

-- the call of a function from an activation
abbrev pub call_from : ℕ → List Value → Bool → Here → Called
call_from f arguments tail h =
    record { function = f; arguments = arguments; below = stack_below tail h; tail = tail; tries = h.tries }

abbrev pub called_with : Surroundings → Option (List Comp) → ℕ → List Value → Ret → Bool → Here → World → Evaluation
called_with s None f arguments result tail h w = Stops (NotProper BadCall) w
called_with s (Some comps) f arguments result tail h w =
    cond (fit_parameters s.end comps arguments)
    (and_then (back_from_call h (s.call (call_from f arguments tail h) w)) (λ v h w. as_written result v h w))
    (Stops (NotProper BadCall) w)

-- the callee is a function with as many parameters as arguments, which fit them
abbrev pub applied : Surroundings → Value → List Value → Ret → Bool → Here → World → Evaluation
applied s (value.Function f) arguments result tail h w =
    called_with s (slice_get s.parameters f) f arguments result tail h w
applied s _ arguments result tail h w = Stops (NotProper BadCall) w

-- ---- external calls

abbrev pub comps_of_arguments : List Scoped → Expressions → List Comp
comps_of_arguments names NoMore = []
comps_of_arguments names (More e rest) =
    comp_of_argument (type_of names e) ∷ comps_of_arguments names rest

-- the row of an external call, where these names are in scope
abbrev pub row_of_call : List Scoped → List ℕ → Expressions → Ret → External
row_of_call names name arguments result =
    record { name = name; params = comps_of_arguments names arguments; result = result }

-- ---- handlers

-- the arguments of an exit fit the handler's parameters, tested in their order; no accepted text has an exit
-- with another number of arguments than its handler has parameters
abbrev pub entered : ℕ → List Parameter → List Value → World → Evaluation → Evaluation
entered end [] [] w go = go
entered end (p ∷ params) (v ∷ values) w go =
    tested end (type_of_comp p.comp) v w (entered end params values w go)
entered end _ _ w go = Stops (NotProper BadCall) w

abbrev pub scoped_parameter : Parameter → Scoped
scoped_parameter p = record { name = p.name; type = type_of_comp p.comp; mutable = false }

abbrev pub with_bound : List Scoped → List Value → Here → Here
with_bound names values h = record h { names = bound names values h.names }

-- the scope that a catch, or a let, was entered in, where what it gives is taken
abbrev pub back : ℕ → ℕ → Evaluation → Evaluation
back level tries e = and_then e (λ v h w. Gives v (back_in level tries h) w)

-- the body of a handler or of a case, ready to be evaluated
abbrev pub Body : Type 0
Body = Here → World → Evaluation

abbrev pub handled : ℕ
    → Option (Ready Body) → LabelTree → List Value → ℕ → ℕ
    → Here → World → (Evaluation → Evaluation) → Evaluation
handled end None label values level tries h w again = Exits label values h w
handled end (Some r) label values level tries h w again =
    let inside = back_in level tries h in
    let bound : Here = with_bound (map scoped_parameter r.params) values inside in
    again (entered end r.params values w (back level tries (r.body bound w)))

-- What a catch with these handlers makes of an evaluation of its body, or of one of its handlers. An exit
-- costs a unit each time, so that so many turns are enough.
-- Where no turn is left an exit still tests its arguments, so that code made for it may test first.
abbrev pub caught : ℕ → ℕ → Bool → List (Ready Body) → ℕ → ℕ → Evaluation → Evaluation
caught end zero within handlers level tries e = e
caught end (suc turns) within handlers level tries (Exits label values h w) =
    handled end (ready_for within label handlers) label values level tries h w
    (caught end turns true handlers level tries)
caught end (suc turns) within handlers level tries e = e

-- what a try makes of an evaluation of its body
abbrev pub tried : (Value → Here → World → Evaluation) → ℕ → ℕ → Evaluation → Evaluation
tried handler level tries (Gives v h w) = Gives v (back_in level tries h) w
tried handler level tries (Raises v h w) = handler v (back_in level tries h) w
tried handler level tries e = e

-- ---- switches

abbrev pub chosen : Option (Chosen Body) → Here → World → Evaluation
chosen None h w = Stops (NotProper SwitchRange) w
chosen (Some c) h w = c.body h w

-- ---- what a checked bound raises

-- the address of the built-in symbol
abbrev pub bound_error : Value
bound_error = value.Word data_start

-- ---- expressions

abbrev pub looked_up : Option Value → Here → World → Evaluation
looked_up (Some v) h w = Gives (Some v) h w
looked_up None h w = Stops (NotProper BadValue) w

-- a node begins, and what it gives is tested against its type
abbrev pub node : Surroundings → Expression → Here → World → (World → Evaluation) → Evaluation
node s e h w go = begins w (λ w. typed s.end (type_of (scope h) e) (go w))

abbrev mutual
  -- the evaluation of an expression; `tail` says whether it is in tail position
  pub evaluated : Surroundings → Expression → Bool → Here → World → Evaluation
  evaluated s (Integer at n) tail h w =
      node s (Integer at n) h w (λ w. Gives (Some (value.Word n)) h w)
  evaluated s (Pointer at n) tail h w =
      node s (Pointer at n) h w (λ w. Gives (Some (value.Word n)) h w)
  evaluated s (Symbol at name) tail h w =
      node s (Symbol at name) h w (λ w. looked_up (s.symbol name) h w)
  evaluated s (Name at x) tail h w =
      node s (Name at x) h w (λ w. looked_up (value_of h.names x) h w)
  evaluated s (Nothing at) tail h w = node s (Nothing at) h w (λ w. Gives None h w)
  -- no accepted text has a float
  evaluated s (Float at word_at operands) tail h w = Stops (NotProper BadValue) w
  evaluated s (Let at bindings body) tail h w =
      node s (Let at bindings body) h w (λ w.
      and_then (entering s bindings h w) (λ _ inner w. back (length h.names) h.tries (evaluated s body tail inner w)))
  evaluated s (Assign at name_at name e) tail h w =
      node s (Assign at name_at name e) h w (λ w.
      with_value (evaluated s e false h w) (λ v h w.
      tested s.end (type_named (scope h) name) v w (Gives None (record h { names = assigned h.names name v }) w)))
  evaluated s (Operator at op left right) tail h w =
      node s (Operator at op left right) h w (λ w.
      both (is_left_first (scope h) left right) (evaluated s left false) (evaluated s right false) h w (λ a b h w.
      proper (apply op (sizes w.memory) a b) w (λ v. Gives (Some v) h w)))
  evaluated s (Load at chunk address) tail h w =
      node s (Load at chunk address) h w (λ w.
      with_value (evaluated s address false h w) (λ a h w. proper (loaded chunk w.memory a) w (λ v. Gives (Some v) h w)))
  evaluated s (Store at chunk address e) tail h w =
      node s (Store at chunk address e) h w (λ w.
      both (is_left_first (scope h) address e) (evaluated s address false) (evaluated s e false) h w (λ a v h w.
      proper (stored chunk w.memory a v) w (λ memory. Gives None h (record w { memory = memory }))))
  evaluated s (Alloc at header_at header operands) tail h w =
      node s (Alloc at header_at header operands) h w (λ w.
      and_then (waiting s operands h w) (λ before h w.
      and_then (filled s operands before h w) (λ values h w.
      proper (allocated w.memory header values) w (λ memory.
      Gives (Some (next_block w.memory)) h (record w { memory = memory })))))
  evaluated s (App at callee arguments result result_at) tail h w =
      node s (App at callee arguments result result_at) h w (λ w.
      and_then (waiting s arguments h w) (λ before h w.
      unless_light (is_light_address (scope h) callee) (evaluated s callee false) h w (λ f h w.
      and_then (filled s arguments before h w) (λ values h w.
      now_or_before f (evaluated s callee false) h w (λ f h w. applied s f values result tail h w)))))
  evaluated s (Extcall at frame name arguments result result_at) tail h w =
      node s (Extcall at frame name arguments result result_at) h w (λ w.
      and_then (waiting s arguments h w) (λ before h w.
      and_then (filled s arguments before h w) (λ values h w.
      and_then (back_from_call h (s.external (row_of_call (scope h) name arguments result) frame values w))
      (λ v h w. as_written result v h w))))
  evaluated s (Checkbound at bound index) tail h w =
      node s (Checkbound at bound index) h w (λ w.
      both (is_left_first (scope h) bound index) (evaluated s bound false) (evaluated s index false) h w (λ a b h w.
      proper (word_in a) w (λ bound. proper (word_in b) w (λ index.
      cond (nat_lt index bound) (Gives None h w) (Raises bound_error h w)))))
  evaluated s (Raise at e) tail h w =
      node s (Raise at e) h w (λ w.
      with_value (evaluated s e false h w) (λ v h w. tested s.end ty.Val v w (Raises v h w)))
  evaluated s (Seq at elements) tail h w =
      node s (Seq at elements) h w (λ w. in_order s elements tail h w)
  evaluated s (If at condition on_true on_false) tail h w =
      node s (If at condition on_true on_false) h w (λ w.
      with_value (evaluated s condition false h w) (λ c h w.
      proper (condition_of (sizes w.memory) c) w (λ holds.
      cond holds (evaluated s on_true tail h w) (evaluated s on_false tail h w))))
  evaluated s (Switch at size_at size selector cases) tail h w =
      node s (Switch at size_at size selector cases) h w (λ w.
      with_value (evaluated s selector false h w) (λ v h w.
      proper (word_in v) w (λ k.
      cond (nat_lt k size) (chosen (case_for (choices s cases tail) k) h w) (Stops (NotProper SwitchRange) w))))
  evaluated s (Catch at body handlers) tail h w =
      node s (Catch at body handlers) h w (λ w.
      caught s.end (suc w.left) false (readied s handlers tail) (length h.names) h.tries (evaluated s body tail h w))
  evaluated s (Exit at label_at label arguments) tail h w =
      node s (Exit at label_at label arguments) h w (λ w.
      and_then (waiting s arguments h w) (λ before h w.
      and_then (filled s arguments before h w) (λ values h w. Exits label values h w)))
  evaluated s (Try at body name_at name handler) tail h w =
      node s (Try at body name_at name handler) h w (λ w.
      tried
      (λ v h w.
      let raised : Scoped = record { name = name; type = ty.Val; mutable = false } in
      back (length h.names) h.tries (evaluated s handler tail (with_bound (raised ∷ []) (v ∷ []) h) w))
      (length h.names) h.tries
      (evaluated s body false (within_try h) (deepened (taken (within_try h)) w)))

  -- the operands that are no light addresses, right to left; the others wait
  pub waiting : Surroundings → Expressions → Here → World → Evaluated (List (Option Value))
  waiting s NoMore h w = Gives [] h w
  waiting s (More e rest) h w =
      and_then (waiting s rest h w) (λ values h w.
      unless_light (is_light_address (scope h) e) (evaluated s e false) h w (λ v h w. Gives (v ∷ values) h w))

  -- and those that have waited, right to left
  pub filled : Surroundings
      → Expressions
      → List (Option Value)
      → Here
      → World
      → Evaluated (List Value)
  filled s NoMore before h w = Gives [] h w
  filled s (More e rest) before h w =
      and_then (filled s rest (rest_of before) h w) (λ values h w.
      now_or_before (first_of before) (evaluated s e false) h w (λ v h w. Gives (v ∷ values) h w))

  -- bindings, one after the other
  pub entering : Surroundings → Bindings → Here → World → Evaluation
  entering s NoBinding h w = Gives None h w
  entering s (Bind at name declared e rest) h w =
      with_value (evaluated s e false h w) (λ v h w.
      let scoped : Scoped = record {
        name = name;
        type = type_bound declared (type_of (scope h) e);
        mutable = is_mutable declared;
      } in
      tested s.end scoped.type v w (entering s rest (with_bound (scoped ∷ []) (v ∷ []) h) w))

  -- the elements of a sequence, the last in tail position where the whole is
  pub in_order : Surroundings → Expressions → Bool → Here → World → Evaluation
  in_order s NoMore tail h w = Gives None h w
  in_order s (More e NoMore) tail h w = evaluated s e tail h w
  in_order s (More e rest) tail h w =
      and_then (evaluated s e false h w) (λ _ h w. in_order s rest tail h w)

  pub choices : Surroundings → Cases → Bool → List (Chosen Body)
  choices s NoCase tail = []
  choices s (Choose indexes body rest) tail =
      record { indexes = indexes; body = λ h w. evaluated s body tail h w } ∷ choices s rest tail

  pub readied : Surroundings → Handlers → Bool → List (Ready Body)
  readied s NoHandler tail = []
  readied s (Handle at label params body rest) tail =
      record { label = label; params = params; body = λ h w. evaluated s body tail h w } ∷ readied s rest tail
