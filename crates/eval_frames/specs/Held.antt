-- The evaluation of the code's tree by the types that its nodes hold. Where they are the types of the
-- scope, it is that of the definition.
use Rattle.std.specs.Prelude.{ℕ, suc, Bool, true, false, cond, List, [], ◌∷◌, Option, Some, None, length, map, option_map, nat_lt}
use Rattle.bs_words.specs.Memory.{sizes, loaded, stored, allocated, next_block}
use Rattle.bs_words.specs.Operators.{apply, condition_of, word_in}
use Rattle.bs_words.specs.External.{External}
use Rattle.bs_words.specs.declared.types.Ret.{Ret}
use Rattle.bs_words.specs.declared.types.Ty.{Ty}
use Rattle.bs_words.specs.declared.types.Ty.TheVariants as ty
use Rattle.bs_words.specs.declared.values.Kind.TheVariants.{BadValue, SwitchRange}
use Rattle.bs_words.specs.declared.values.Value.{Value}
use Rattle.bs_words.specs.declared.values.Value.TheVariants as value
use Rattle.cmm_tree.specs.View.{form_view, declared_view, index_view, label_view, params_view}
use Rattle.cmm_tree.specs.declared.expr.Form.{Form}
use Rattle.cmm_tree.specs.declared.expr.Form as form
use Rattle.cmm_types.specs.Light.{is_light_address}
use Rattle.cmm_types.specs.Types.{Scoped, type_named, type_bound, is_mutable}
use Rattle.cmm_meaning.specs.State.{World, Here, taken, within_try, scope, value_of, assigned, deepened}
use Rattle.cmm_meaning.specs.Evaluation.{Body, NotProper, Evaluated, Evaluation, Gives, Exits, Raises, Stops, Surroundings, and_then, with_value, proper, begins, tested, typed, both, is_left_first, unless_light, now_or_before, first_of, rest_of, back_from_call, as_written, applied, with_bound, back, caught, tried, chosen, bound_error, looked_up}
use Rattle.cmm_meaning.specs.Choices.{Ready, Chosen, case_for}
use Rattle.cmm_meaning.specs.Held.{comps_held}

-- no accepted text has a float, which begins no node
abbrev pub is_float_form : Form → Bool
is_float_form (form.Float' word_at shape operands) = true
is_float_form _ = false

-- a node that holds this type: what it gives is tested against it
abbrev pub node_held : Surroundings → Bool → Ty → World → (World → Evaluation) → Evaluation
node_held s true type w go = Stops (NotProper BadValue) w
node_held s false type w go = begins w (λ w. typed s.end type (go w))

-- the row of an external call, by the types that its arguments hold
abbrev pub row_held : {m : _} → List ℕ → form.Row_of-Expr m → Ret → External
row_held name arguments result =
    record { name = name; params = comps_held arguments; result = result }

abbrev mutual
  -- what a node of this form does once it has taken its unit
  pub inside : Surroundings → Form → Bool → Here → World → Evaluation
  inside s (form.Integer n) tail h w = Gives (Some (value.Word n)) h w
  inside s (form.Pointer n) tail h w = Gives (Some (value.Word n)) h w
  inside s (form.Symbol name) tail h w = looked_up (s.symbol name) h w
  inside s (form.Name x) tail h w = looked_up (value_of h.names x) h w
  inside s form.Nothing tail h w = Gives None h w
  inside s (form.Float' word_at shape operands) tail h w = Stops (NotProper BadValue) w
  inside s (form.Let' shape bindings p at type body) tail h w =
      and_then (bindings_held s bindings h w) (λ _ inner w.
      back (length h.names) h.tries (node_held s (is_float_form body) type w (λ w. inside s body tail inner w)))
  inside s (form.Assign' name_at name p at type e) tail h w =
      with_value (node_held s (is_float_form e) type w (λ w. inside s e false h w)) (λ v h w.
      tested s.end (type_named (scope h) name) v w (Gives None (record h { names = assigned h.names name v }) w))
  inside s (form.Operator' op p left_at left_type left q right_at right_type right) tail h w =
      both (is_left_first (scope h) (form_view left_at left) (form_view right_at right))
      (λ h w. node_held s (is_float_form left) left_type w (λ w. inside s left false h w))
      (λ h w. node_held s (is_float_form right) right_type w (λ w. inside s right false h w)) h w (λ a b h w.
      proper (apply op (sizes w.memory) a b) w (λ v. Gives (Some v) h w))
  inside s (form.Load' chunk p at type address) tail h w =
      with_value (node_held s (is_float_form address) type w (λ w. inside s address false h w)) (λ a h w.
      proper (loaded chunk w.memory a) w (λ v. Gives (Some v) h w))
  inside s (form.Store' chunk p address_at address_type address q value_at value_type e) tail h w =
      both (is_left_first (scope h) (form_view address_at address) (form_view value_at e))
      (λ h w. node_held s (is_float_form address) address_type w (λ w. inside s address false h w))
      (λ h w. node_held s (is_float_form e) value_type w (λ w. inside s e false h w)) h w (λ a v h w.
      proper (stored chunk w.memory a v) w (λ memory. Gives None h (record w { memory = memory })))
  inside s (form.Alloc' header_at header shape operands) tail h w =
      and_then (waiting_held s operands h w) (λ before h w.
      and_then (filled_held s operands before h w) (λ values h w.
      proper (allocated w.memory header values) w (λ memory. Gives (Some (next_block w.memory)) h (record w { memory = memory }))))
  inside s (form.App' p at type callee shape arguments result result_at) tail h w =
      and_then (waiting_held s arguments h w) (λ before h w.
      unless_light (is_light_address (scope h) (form_view at callee))
      (λ h w. node_held s (is_float_form callee) type w (λ w. inside s callee false h w)) h w (λ f h w.
      and_then (filled_held s arguments before h w) (λ values h w.
      now_or_before f (λ h w. node_held s (is_float_form callee) type w (λ w. inside s callee false h w)) h w (λ f h w.
      applied s f values result tail h w))))
  inside s (form.Extcall' frame name shape arguments result result_at) tail h w =
      and_then (waiting_held s arguments h w) (λ before h w.
      and_then (filled_held s arguments before h w) (λ values h w.
      and_then (back_from_call h (s.external (row_held name arguments result) frame values w))
      (λ v h w. as_written result v h w)))
  inside s (form.Checkbound' p bound_at bound_type bound q index_at index_type index) tail h w =
      both (is_left_first (scope h) (form_view bound_at bound) (form_view index_at index))
      (λ h w. node_held s (is_float_form bound) bound_type w (λ w. inside s bound false h w))
      (λ h w. node_held s (is_float_form index) index_type w (λ w. inside s index false h w)) h w (λ a b h w.
      proper (word_in a) w (λ bound. proper (word_in b) w (λ index.
      cond (nat_lt index bound) (Gives None h w) (Raises bound_error h w))))
  inside s (form.Raise' p at type e) tail h w =
      with_value (node_held s (is_float_form e) type w (λ w. inside s e false h w)) (λ v h w.
      tested s.end ty.Val v w (Raises v h w))
  inside s (form.Seq' shape elements) tail h w = in_order_held s elements tail h w
  inside s (form.If' p at type condition q true_at true_type on_true r false_at false_type on_false) tail h w =
      with_value (node_held s (is_float_form condition) type w (λ w. inside s condition false h w)) (λ c h w.
      proper (condition_of (sizes w.memory) c) w (λ holds.
      cond holds
      (node_held s (is_float_form on_true) true_type w (λ w. inside s on_true tail h w))
      (node_held s (is_float_form on_false) false_type w (λ w. inside s on_false tail h w))))
  inside s (form.Switch' size_at size p at type selector shape cases) tail h w =
      with_value (node_held s (is_float_form selector) type w (λ w. inside s selector false h w)) (λ v h w.
      proper (word_in v) w (λ k.
      cond (nat_lt k size) (chosen (case_for (choices_held s cases tail) k) h w) (Stops (NotProper SwitchRange) w)))
  inside s (form.Catch' p at type body shape handlers) tail h w =
      caught s.end (suc w.left) false (readied_held s handlers tail) (length h.names) h.tries
      (node_held s (is_float_form body) type w (λ w. inside s body tail h w))
  inside s (form.Exit' label_at label shape arguments) tail h w =
      and_then (waiting_held s arguments h w) (λ before h w.
      and_then (filled_held s arguments before h w) (λ values h w. Exits (label_view label) values h w))
  inside s (form.Try' p at type body name_at name q handler_at handler_type handler) tail h w =
      tried
      (λ v h w.
      let raised : Scoped = record { name = name; type = ty.Val; mutable = false } in
      let inner : Here = with_bound (raised ∷ []) (v ∷ []) h in
      back (length h.names) h.tries (node_held s (is_float_form handler) handler_type w (λ w. inside s handler tail inner w)))
      (length h.names) h.tries
      (node_held s (is_float_form body) type (deepened (taken (within_try h)) w) (λ w. inside s body false (within_try h) w))

  pub waiting_held : {m : _}
      → Surroundings
      → form.Row_of-Expr m
      → Here
      → World
      → Evaluated (List (Option Value))
  waiting_held s form.end_of-Expr h w = Gives [] h w
  waiting_held s (form.more_of-Expr at type e rest) h w =
      and_then (waiting_held s rest h w) (λ values h w.
      unless_light (is_light_address (scope h) (form_view at e))
      (λ h w. node_held s (is_float_form e) type w (λ w. inside s e false h w)) h w (λ v h w. Gives (v ∷ values) h w))

  pub filled_held : {m : _}
      → Surroundings
      → form.Row_of-Expr m
      → List (Option Value)
      → Here
      → World
      → Evaluated (List Value)
  filled_held s form.end_of-Expr before h w = Gives [] h w
  filled_held s (form.more_of-Expr at type e rest) before h w =
      and_then (filled_held s rest (rest_of before) h w) (λ values h w.
      now_or_before (first_of before)
      (λ h w. node_held s (is_float_form e) type w (λ w. inside s e false h w)) h w (λ v h w. Gives (v ∷ values) h w))

  pub bindings_held : {m : _} → Surroundings → form.Row_of-Binding m → Here → World → Evaluation
  bindings_held s form.end_of-Binding h w = Gives None h w
  bindings_held s (form.more_of-Binding at name declared value_at type e rest) h w =
      with_value (node_held s (is_float_form e) type w (λ w. inside s e false h w)) (λ v h w.
      let scoped : Scoped = record {
        name = name;
        type = type_bound (option_map declared_view declared) type;
        mutable = is_mutable (option_map declared_view declared);
      } in
      tested s.end scoped.type v w (bindings_held s rest (with_bound (scoped ∷ []) (v ∷ []) h) w))

  pub in_order_held : {m : _} → Surroundings → form.Row_of-Expr m → Bool → Here → World → Evaluation
  in_order_held s form.end_of-Expr tail h w = Gives None h w
  in_order_held s (form.more_of-Expr at type e form.end_of-Expr) tail h w =
      node_held s (is_float_form e) type w (λ w. inside s e tail h w)
  in_order_held s (form.more_of-Expr at type e rest) tail h w =
      and_then (node_held s (is_float_form e) type w (λ w. inside s e false h w)) (λ _ h w. in_order_held s rest tail h w)

  pub choices_held : {m : _} → Surroundings → form.Row_of-Case m → Bool → List (Chosen Body)
  choices_held s form.end_of-Case tail = []
  choices_held s (form.more_of-Case indexes at type body rest) tail =
      record {
        indexes = map index_view indexes.items;
        body = λ h w. node_held s (is_float_form body) type w (λ w. inside s body tail h w);
      }
      ∷ choices_held s rest tail

  pub readied_held : {m : _} → Surroundings → form.Row_of-Handler m → Bool → List (Ready Body)
  readied_held s form.end_of-Handler tail = []
  readied_held s (form.more_of-Handler at label params body_at type body rest) tail =
      record {
        label = label_view label;
        params = params_view params.items;
        body = λ h w. node_held s (is_float_form body) type w (λ w. inside s body tail h w);
      }
      ∷ readied_held s rest tail

-- a node
abbrev pub held : Surroundings → Ty → Form → Bool → Here → World → Evaluation
held s type f tail h w = node_held s (is_float_form f) type w (λ w. inside s f tail h w)
