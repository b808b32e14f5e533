-- What a frame makes of an evaluation, and so what a stack of frames does.
use Rattle.std.specs.Prelude.{ℕ, Bool, true, false, cond, List, [], ◌∷◌, Option, Some, None, length, map, option_map, nat_lt, reverse}
use Rattle.bs_words.specs.Memory.{sizes, loaded, stored, allocated, next_block}
use Rattle.bs_words.specs.Operators.{apply, condition_of, word_in}
use Rattle.bs_words.specs.declared.types.Ty.TheVariants as ty
use Rattle.bs_words.specs.declared.values.Kind.{Kind}
use Rattle.bs_words.specs.declared.values.Kind.TheVariants.{BadValue, SwitchRange}
use Rattle.bs_words.specs.declared.values.Value.{Value}
use Rattle.cmm_tree.specs.View.{form_view, expr_view, declared_view, index_view, label_view, params_view}
use Rattle.cmm_tree.specs.declared.expr.Binding.{Binding}
use Rattle.cmm_tree.specs.declared.expr.Case.{Case}
use Rattle.cmm_tree.specs.declared.expr.Handler.{Handler}
use Rattle.cmm_tree.specs.declared.expr.Expr.{Expr}
use Rattle.cmm_tree.specs.declared.expr.Form.{Form}
use Rattle.cmm_tree.specs.declared.expr.Form as form
use Rattle.cmm_types.specs.Light.{is_light_address}
use Rattle.cmm_types.specs.Types.{Scoped, type_named, type_bound, is_mutable}
use Rattle.cmm_meaning.specs.State.{World, Here, scope, assigned}
use Rattle.cmm_meaning.specs.Evaluation.{Body, NotProper, Evaluation, Gives, Exits, Raises, Stops, Surroundings, and_then, with_value, proper, tested, typed, unless_light, now_or_before, first_of, rest_of, back_from_call, as_written, applied, with_bound, back, caught, tried, chosen, bound_error}
use Rattle.cmm_meaning.specs.Choices.{Ready, Chosen, case_for}
use Rattle.eval_frames.specs.Held.{row_held, held, choices_held, readied_held}
use Rattle.eval_frames.specs.Meets.{meets}
use Rattle.eval_frames.specs.Views.{here_view, stop_view}
use Rattle.eval_frames.specs.declared.frame.Frame.{Frame}
use Rattle.eval_frames.specs.declared.frame.Now.{Now}
use Rattle.eval_frames.specs.declared.frame.Now.TheVariants as now
use Rattle.eval_frames.specs.declared.frame.Row.{Row}
use Rattle.eval_frames.specs.declared.frame.Step.{Step}
use Rattle.eval_frames.specs.declared.frame.Step.TheVariants as step

abbrev pub improper : World → Evaluation
improper w = Stops (NotProper BadValue) w

-- goes on, but where there is a reason why not
abbrev pub or_improper : Option Kind → World → Evaluation → Evaluation
or_improper None w go = go
or_improper (Some kind) w go = Stops (NotProper kind) w

abbrev pub evaluated_expression : Surroundings → Expr → Bool → Here → World → Evaluation
evaluated_expression s e tail h w = held s e.ty e.form tail h w

-- ---- operands

-- what a node with one operand does with its value
abbrev pub taken_by : Surroundings → Form → Bool → Value → Here → World → Evaluation
taken_by s (form.Assign' name_at name p at type e) tail v h w =
    tested s.end (type_named (scope h) name) v w (Gives None (record h { names = assigned h.names name v }) w)
taken_by s (form.Load' chunk p at type address) tail a h w =
    proper (loaded chunk w.memory a) w (λ v. Gives (Some v) h w)
taken_by s (form.Raise' p at type e) tail v h w = tested s.end ty.Val v w (Raises v h w)
taken_by s (form.If' p at type condition q true_at true_type on_true r false_at false_type on_false) tail c h w =
    proper (condition_of (sizes w.memory) c) w (λ holds.
    cond holds (held s true_type on_true tail h w) (held s false_type on_false tail h w))
taken_by s (form.Switch' size_at size p at type selector shape cases) tail v h w =
    proper (word_in v) w (λ k.
    cond (nat_lt k size) (chosen (case_for (choices_held s cases tail) k) h w) (Stops (NotProper SwitchRange) w))
taken_by s _ tail v h w = improper w

-- the operands of a node with two, and what it does with their values
abbrev pub left_operand : Surroundings → Form → Here → World → Evaluation
left_operand s (form.Operator' op p left_at left_type left q right_at right_type right) h w =
    held s left_type left false h w
left_operand s (form.Store' chunk p address_at address_type address q value_at value_type e) h w =
    held s address_type address false h w
left_operand s (form.Checkbound' p bound_at bound_type bound q index_at index_type index) h w =
    held s bound_type bound false h w
left_operand s _ h w = improper w

abbrev pub right_of : Surroundings → Form → Here → World → Evaluation
right_of s (form.Operator' op p left_at left_type left q right_at right_type right) h w =
    held s right_type right false h w
right_of s (form.Store' chunk p address_at address_type address q value_at value_type e) h w =
    held s value_type e false h w
right_of s (form.Checkbound' p bound_at bound_type bound q index_at index_type index) h w =
    held s index_type index false h w
right_of s _ h w = improper w

abbrev pub joined_by : Surroundings → Form → Value → Value → Here → World → Evaluation
joined_by s (form.Operator' op p left_at left_type left q right_at right_type right) a b h w =
    proper (apply op (sizes w.memory) a b) w (λ v. Gives (Some v) h w)
joined_by s (form.Store' chunk p address_at address_type address q value_at value_type e) a v h w =
    proper (stored chunk w.memory a v) w (λ memory. Gives None h (record w { memory = memory }))
joined_by s (form.Checkbound' p bound_at bound_type bound q index_at index_type index) a b h w =
    proper (word_in a) w (λ bound. proper (word_in b) w (λ index.
    cond (nat_lt index bound) (Gives None h w) (Raises bound_error h w)))
joined_by s _ a b h w = improper w

-- ---- rows of operands

abbrev pub operands_of : Form → List Expr
operands_of (form.Alloc' header_at header shape operands) = form.items-the_row-Expr _ operands
operands_of (form.App' p at type callee shape arguments result result_at) =
    form.items-the_row-Expr _ arguments
operands_of (form.Extcall' frame name shape arguments result result_at) =
    form.items-the_row-Expr _ arguments
operands_of (form.Exit' label_at label shape arguments) = form.items-the_row-Expr _ arguments
operands_of _ = []

-- what a node with a row of operands does with their values, first to last; the callee may have waited
abbrev pub operated_by : Surroundings → Form → Bool → Option Value → List Value → Here → World → Evaluation
operated_by s (form.Alloc' header_at header shape operands) tail callee values h w =
    proper (allocated w.memory header values) w (λ memory. Gives (Some (next_block w.memory)) h (record w { memory = memory }))
operated_by s (form.App' p at type late shape arguments result result_at) tail callee values h w =
    now_or_before callee (held s type late false) h w (λ f h w. applied s f values result tail h w)
operated_by s (form.Extcall' frame name shape arguments result result_at) tail callee values h w =
    and_then (back_from_call h (s.external (row_held name arguments result) frame values w))
    (λ v h w. as_written result v h w)
operated_by s (form.Exit' label_at label shape arguments) tail callee values h w =
    Exits (label_view label) values h w
operated_by s _ tail callee values h w = improper w

-- the operands that are left, last to first, and what they have come to before, last to first; and the values
-- of those after them, first to last
abbrev pub fills_in : Surroundings → Form → Bool
    → Option Value → List Expr → List (Option Value) → List Value
    → Here → World → Evaluation
fills_in s f tail callee [] before values h w = operated_by s f tail callee values h w
fills_in s f tail callee (e ∷ operands) before values h w =
    now_or_before (first_of before) (evaluated_expression s e false) h w (λ v h w.
    fills_in s f tail callee operands (rest_of before) (v ∷ values) h w)

abbrev pub row_fills : Surroundings → Form → Bool → Option Value → Row → Here → World → Evaluation
row_fills s f tail callee row h w =
    fills_in s f tail callee (reverse row.operands.now) (reverse row.waited.items) (reverse row.values.items) h w

-- the callee of a call is evaluated before the operands that have waited; or there is none, or it waits too
abbrev pub after_callee : Surroundings → Form → Bool → Option Expr → List (Option Value) → Here → World → Evaluation
after_callee s f tail (Some e) before h w =
    with_value (evaluated_expression s e false h w) (λ c h w. fills_in s f tail (Some c) (reverse (operands_of f)) (reverse before) [] h w)
after_callee s f tail None before h w =
    fills_in s f tail None (reverse (operands_of f)) (reverse before) [] h w

-- all operands that do not wait have come, first to last: so does the callee of a call, unless it waits
abbrev pub after_waiting : Surroundings → Form → Bool → List (Option Value) → Here → World → Evaluation
after_waiting s (form.App' p at type callee shape arguments result result_at) tail before h w =
    unless_light (is_light_address (scope h) (form_view at callee)) (held s type callee false) h w (λ c h w.
    fills_in s (form.App' p at type callee shape arguments result result_at) tail
    c (reverse (form.items-the_row-Expr _ arguments)) (reverse before) [] h w)
after_waiting s f tail before h w =
    fills_in s f tail None (reverse (operands_of f)) (reverse before) [] h w

-- the operands that are left, last to first, and what those after them have come to, first to last
abbrev pub waits_for : Surroundings → Form → Bool → List Expr → List (Option Value) → Here → World → Evaluation
waits_for s f tail [] before h w = after_waiting s f tail before h w
waits_for s f tail (e ∷ operands) before h w =
    unless_light (is_light_address (scope h) (expr_view e)) (evaluated_expression s e false) h w (λ v h w.
    waits_for s f tail operands (v ∷ before) h w)

-- ---- sequences and scopes

abbrev pub elements_from : Surroundings → List Expr → Bool → Here → World → Evaluation
elements_from s [] tail h w = Gives None h w
elements_from s (e ∷ []) tail h w = evaluated_expression s e tail h w
elements_from s (e ∷ rest) tail h w =
    and_then (evaluated_expression s e false h w) (λ _ h w. elements_from s rest tail h w)

abbrev pub scoped_binding : Binding → Scoped
scoped_binding b =
    record {
      name = b.name;
      type = type_bound (option_map declared_view b.declared) b.value.ty;
      mutable = is_mutable (option_map declared_view b.declared);
    }

abbrev pub bindings_from : Surroundings → List Binding → Here → World → Evaluation
bindings_from s [] h w = Gives None h w
bindings_from s (b ∷ rest) h w =
    with_value (evaluated_expression s b.value false h w) (λ v h w.
    tested s.end (scoped_binding b).type v w (bindings_from s rest (with_bound (scoped_binding b ∷ []) (v ∷ []) h) w))

-- the first of these bindings has its value
abbrev pub first_bound : Surroundings → List Binding → Value → Here → World → Evaluation
first_bound s [] v h w = improper w
first_bound s (b ∷ rest) v h w =
    tested s.end (scoped_binding b).type v w (bindings_from s rest (with_bound (scoped_binding b ∷ []) (v ∷ []) h) w)

abbrev pub body_of : Surroundings → Form → Bool → ℕ → ℕ → Here → World → Evaluation
body_of s (form.Let' shape bindings p at type body) tail level tries h w =
    back level tries (held s type body tail h w)
body_of s _ tail level tries h w = improper w

abbrev pub ready_handlers : Surroundings → Form → Bool → List (Ready Body)
ready_handlers s (form.Catch' p at type body shape handlers) tail = readied_held s handlers tail
ready_handlers s _ tail = []

abbrev pub evaluated_handler : Surroundings → Form → Bool → Value → Here → World → Evaluation
evaluated_handler s (form.Try' p at type body name_at name q handler_at handler_type handler) tail v h w =
    let raised : Scoped = record { name = name; type = ty.Val; mutable = false } in
    back (length h.names) h.tries (held s handler_type handler tail (with_bound (raised ∷ []) (v ∷ []) h) w)
evaluated_handler s _ tail v h w = improper w

-- ---- cases and handlers

abbrev pub case_ready : Surroundings → Bool → Case → Chosen Body
case_ready s tail c =
    record { indexes = map index_view c.indexes.items; body = evaluated_expression s c.body tail }

abbrev pub cases_ready : Surroundings → Bool → List Case → List (Chosen Body)
cases_ready s tail cases = map (case_ready s tail) cases

abbrev pub handler_ready : Surroundings → Bool → Handler → Ready Body
handler_ready s tail r = record {
  label = label_view r.label;
  params = params_view r.params.items;
  body = evaluated_expression s r.body tail;
}

abbrev pub handlers_ready : Surroundings → Bool → List Handler → List (Ready Body)
handlers_ready s tail handlers = map (handler_ready s tail) handlers

-- ---- frames

abbrev pub does : Surroundings → Step → Form → Bool → Evaluation → Evaluation
does s (step.Typed type) f tail e = typed s.end type e
does s (step.Scope level tries) f tail e = back level tries e
does s step.Operand f tail e = with_value e (λ v h w. taken_by s f tail v h w)
does s (step.First false) f tail e =
    with_value e (λ b h w. with_value (left_operand s f h w) (λ a h w. joined_by s f a b h w))
does s (step.First true) f tail e =
    with_value e (λ a h w. with_value (right_of s f h w) (λ b h w. joined_by s f a b h w))
does s (step.Second first false) f tail e = with_value e (λ a h w. joined_by s f a first h w)
does s (step.Second first true) f tail e = with_value e (λ b h w. joined_by s f first b h w)
does s (step.Elements rest) f tail e = and_then e (λ _ h w. elements_from s rest.now tail h w)
does s (step.Bindings bindings) f tail e = with_value e (λ v h w. first_bound s bindings.now v h w)
does s (step.Bound level tries) f tail e = and_then e (λ _ h w. body_of s f tail level tries h w)
does s (step.Waiting rest values) f tail e =
    with_value e (λ v h w. waits_for s f tail (reverse rest.now) (Some v ∷ reverse values.items) h w)
does s (step.Callee waited) f tail e =
    with_value e (λ c h w. fills_in s f tail (Some c) (reverse (operands_of f)) (reverse waited.items) [] h w)
does s (step.Filling callee row) f tail e =
    with_value e (λ v h w.
    fills_in s f tail callee (reverse row.operands.now) (reverse row.waited.items) (v ∷ reverse row.values.items) h w)
does s (step.LateCallee values) f tail e =
    with_value e (λ c h w. operated_by s f tail (Some c) (reverse values.items) h w)
does s (step.Catch within turns level tries) f tail e =
    caught s.end turns within (ready_handlers s f tail) level tries e
does s (step.Try level tries) f tail e = tried (evaluated_handler s f tail) level tries e
does s (step.Return here tests) f tail e =
    and_then (back_from_call (here_view here) e) (λ v h w. meets s.end tests v h w)

-- a step that goes on with a value, and with nothing else
abbrev pub WantsValue : Step → Type 0
WantsValue (step.Typed type) = ⊥
WantsValue (step.Scope level tries) = ⊥
WantsValue step.Operand = Unit {0}
WantsValue (step.First left_first) = Unit {0}
WantsValue (step.Second first left_first) = Unit {0}
WantsValue (step.Elements rest) = ⊥
WantsValue (step.Bindings bindings) = Unit {0}
WantsValue (step.Bound level tries) = ⊥
WantsValue (step.Waiting rest values) = Unit {0}
WantsValue (step.Callee waited) = Unit {0}
WantsValue (step.Filling callee row) = Unit {0}
WantsValue (step.LateCallee values) = Unit {0}
WantsValue (step.Catch within turns level tries) = ⊥
WantsValue (step.Try level tries) = ⊥
WantsValue (step.Return here tests) = ⊥

-- what a frame makes of the evaluation in it
abbrev pub fills_frame : Surroundings → Frame → Evaluation → Evaluation
fills_frame s frame e = does s frame.step frame.form.now frame.tail e

-- what frames make of it, the innermost of which is last
abbrev pub resume : Surroundings → List Frame → Evaluation → Evaluation
resume s [] e = e
resume s (f ∷ frames) e = fills_frame s f (resume s frames e)

-- nothing is left to evaluate
abbrev pub HasEnded : Now → Type 0
HasEnded (now.Begins e tail) = ⊥
HasEnded (now.Gives v) = Unit {0}
HasEnded (now.Exits label values) = Unit {0}
HasEnded (now.Raises v) = Unit {0}
HasEnded (now.Stops why) = Unit {0}

-- the evaluation that is now
abbrev pub standing : Surroundings → Now → Here → World → Evaluation
standing s (now.Begins e tail) h w = evaluated_expression s e.now tail h w
standing s (now.Gives v) h w = Gives v h w
standing s (now.Exits label values) h w = Exits (label_view label.now) values.items h w
standing s (now.Raises v) h w = Raises v h w
standing s (now.Stops why) h w = Stops (stop_view why) w
