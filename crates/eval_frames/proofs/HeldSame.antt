-- The evaluation by the types that nodes hold is that of the definition, where each node holds the type of its
-- scope.
use Rattle.std.proofs.Common.{◌≡◌, ◌∙◌, ℕ, suc, Bool, false, List, [], ◌∷◌, Option, Some, None, length, refl, ap, subst, sym}
use Rattle.std.specs.Prelude.{option_map, nat_lt}
use Rattle.bs_words.specs.Memory.{sizes, loaded, stored, allocated, next_block}
use Rattle.bs_words.specs.Operators.{apply, condition_of, word_in}
use Rattle.bs_words.specs.declared.values.Value.TheVariants as value
use Rattle.bs_words.specs.declared.types.Comp.{Comp}
use Rattle.bs_words.specs.declared.types.Ret.{Ret}
use Rattle.bs_words.specs.declared.types.Ty.{Ty}
use Rattle.bs_words.specs.declared.types.Ty.TheVariants as ty
use Rattle.bs_words.specs.declared.values.Value.{Value}
use Rattle.bs_words.specs.declared.values.Kind.TheVariants.{SwitchRange}
use Rattle.cmm_tree.specs.Tree.{NoBinding, Bind, Declaration}
use Rattle.cmm_tree.specs.View.{form_view, row_view, bindings_view, cases_view, handlers_view, declared_view, label_view, params_view}
use Rattle.cmm_tree.specs.declared.expr.Form.{Form}
use Rattle.cmm_tree.specs.declared.expr.Form as form
use Rattle.cmm_types.specs.Annotated.{PartsTyped, RowTyped, BindingsTyped, CasesTyped, HandlersTyped}
use Rattle.cmm_types.specs.Light.{is_light_address}
use Rattle.cmm_types.specs.Types.{Scoped, type_of, type_named, type_bound, with_bindings, with_parameters}
use Rattle.cmm_meaning.specs.State.{World, Here, taken, within_try, scope, value_of, assigned, deepened}
use Rattle.cmm_meaning.specs.Evaluation.{NotProper, Surroundings, tested, is_left_first, bound_error, rest_of, first_of, with_bound, comps_of_arguments, row_of_call, back_from_call, as_written, and_then, evaluated, waiting, filled, entering, in_order, choices, readied}
use Rattle.cmm_meaning.proofs.Held.{comps_same}
use Rattle.eval_frames.specs.Held.{row_held, held, waiting_held, filled_held, bindings_held, in_order_held, choices_held, readied_held}
use Rattle.eval_frames.proofs.Same.{Same, bound_as, same_node, same_then, same_widen, same_value, same_cond, same_both, same_unless, same_now, same_gives, same_raises, same_exits, same_stops, same_looked, same_tested, same_proper, same_back, same_written, same_applied, level_of, scope_assigned, within_bindings}
use Rattle.eval_frames.proofs.HeldChosen.{AllChosenSame, AllReadySame, same_case, same_caught, same_tried}

-- an external call
same_outside : {m : _} (s : Surroundings) (names : List Scoped) (name : List ℕ) (row : form.Row_of-Expr m) → RowTyped names row →
    (result : Ret) (frame : Bool) (values : List Value) (h : Here) (w : World) → scope h ≡ names →
    Same names names
    (and_then (back_from_call h (s.external (row_held name row result) frame values w)) (λ v h w. as_written result v h w))
    (and_then (back_from_call h (s.external (row_of_call (scope h) name (row_view row) result) frame values w)) (λ v h w. as_written result v h w))
same_outside s names name row t result frame values h w e =
    let P : List Comp → Type 0 =
    λ params. Same names names
    (and_then (back_from_call h (s.external (row_held name row result) frame values w)) (λ v h w. as_written result v h w))
    (and_then (back_from_call h (s.external (record { name = name; params = params; result = result }) frame values w)) (λ v h w. as_written result v h w)) in
    subst P (comps_same names row t ∙ ap (λ n. comps_of_arguments n (row_view row)) (sym e))
    (same_written result h (s.external (row_held name row result) frame values w) e)

mutual
  pub same_held : (s : Surroundings) (names : List Scoped) (f : Form) → PartsTyped names f → (at : ℕ) (type : Ty) →
      type ≡ type_of names (form_view at f) → (tail : Bool) (h : Here) (w : World) → scope h ≡ names →
      Same names names (held s type f tail h w) (evaluated s (form_view at f) tail h w)
  same_held s names (form.Integer n) t at type due tail h w e =
      same_node s names (form_view at (form.Integer n)) type h w due e (λ w.
      same_gives (Some (value.Word n)) h w e)
  same_held s names (form.Pointer n) t at type due tail h w e =
      same_node s names (form_view at (form.Pointer n)) type h w due e (λ w.
      same_gives (Some (value.Word n)) h w e)
  same_held s names (form.Symbol name) t at type due tail h w e =
      same_node s names (form_view at (form.Symbol name)) type h w due e (λ w.
      same_looked (s.symbol name) h w e)
  same_held s names (form.Name x) t at type due tail h w e =
      same_node s names (form_view at (form.Name x)) type h w due e (λ w.
      same_looked (value_of h.names x) h w e)
  same_held s names form.Nothing t at type due tail h w e =
      same_node s names (form_view at form.Nothing) type h w due e (λ w.
      same_gives None h w e)
  same_held s names (form.Float' word_at shape operands) t at type due tail h w e = same_stops _ w
  same_held s names (form.Let' shape bindings p body_at body_type body) t at type due tail h w e =
      same_node s names (form_view at (form.Let' shape bindings p body_at body_type body)) type h w due e (λ w.
      same_then (same_bindings s names bindings t.0 h w e) (λ _ inner w k.
      same_back (length h.names) h.tries (level_of names h e) (within_bindings names (bindings_view bindings))
      (same_held s (with_bindings names (bindings_view bindings)) body t.1.below body_at body_type t.1.type tail inner w k)))
  same_held s names (form.Assign' name_at name p value_at value_type value) t at type due tail h w e =
      same_node s names (form_view at (form.Assign' name_at name p value_at value_type value)) type h w due e (λ w.
      same_value (same_held s names value t.below value_at value_type t.type false h w e) (λ v h w e.
      same_tested s.end (type_named (scope h) name) v w
      (same_gives None (record h { names = assigned h.names name v }) w (scope_assigned h.names name v ∙ e))))
  same_held s names (form.Operator' op p left_at left_type left q right_at right_type right) t at type due tail h w e =
      same_node s names (form_view at (form.Operator' op p left_at left_type left q right_at right_type right)) type h w due e (λ w.
      same_both (is_left_first (scope h) (form_view left_at left) (form_view right_at right)) h w e
      (λ h w e. same_held s names left t.0.below left_at left_type t.0.type false h w e)
      (λ h w e. same_held s names right t.1.below right_at right_type t.1.type false h w e)
      (λ a b h w e. same_proper (apply op (sizes w.memory) a b) w (λ v. same_gives (Some v) h w e)))
  same_held s names (form.Load' chunk p address_at address_type address) t at type due tail h w e =
      same_node s names (form_view at (form.Load' chunk p address_at address_type address)) type h w due e (λ w.
      same_value (same_held s names address t.below address_at address_type t.type false h w e) (λ a h w e.
      same_proper (loaded chunk w.memory a) w (λ v. same_gives (Some v) h w e)))
  same_held s names (form.Store' chunk p address_at address_type address q value_at value_type value) t at type due tail h w e =
      same_node s names (form_view at (form.Store' chunk p address_at address_type address q value_at value_type value)) type h w due e (λ w.
      same_both (is_left_first (scope h) (form_view address_at address) (form_view value_at value)) h w e
      (λ h w e. same_held s names address t.0.below address_at address_type t.0.type false h w e)
      (λ h w e. same_held s names value t.1.below value_at value_type t.1.type false h w e)
      (λ a v h w e. same_proper (stored chunk w.memory a v) w (λ memory. same_gives None h (record w { memory = memory }) e)))
  same_held s names (form.Alloc' header_at header shape operands) t at type due tail h w e =
      same_node s names (form_view at (form.Alloc' header_at header shape operands)) type h w due e (λ w.
      same_then (same_waiting s names operands t h w e) (λ before h w e.
      same_then (same_filled s names operands t before h w e) (λ values h w e.
      same_proper (allocated w.memory header values) w (λ memory.
      same_gives (Some (next_block w.memory)) h (record w { memory = memory }) e))))
  same_held s names (form.App' p callee_at callee_type callee shape arguments result result_at) t at type due tail h w e =
      same_node s names (form_view at (form.App' p callee_at callee_type callee shape arguments result result_at)) type h w due e (λ w.
      same_then (same_waiting s names arguments t.1 h w e) (λ before h w e.
      same_unless (is_light_address (scope h) (form_view callee_at callee)) h w e
      (λ h w e. same_held s names callee t.0.below callee_at callee_type t.0.type false h w e) (λ f h w e.
      same_then (same_filled s names arguments t.1 before h w e) (λ values h w e.
      same_now f h w e (λ h w e. same_held s names callee t.0.below callee_at callee_type t.0.type false h w e) (λ f h w e.
      same_applied s f values result tail h w e)))))
  same_held s names (form.Extcall' frame name shape arguments result result_at) t at type due tail h w e =
      same_node s names (form_view at (form.Extcall' frame name shape arguments result result_at)) type h w due e (λ w.
      same_then (same_waiting s names arguments t h w e) (λ before h w e.
      same_then (same_filled s names arguments t before h w e) (λ values h w e.
      same_outside s names name arguments t result frame values h w e)))
  same_held s names (form.Checkbound' p bound_at bound_type bound q index_at index_type index) t at type due tail h w e =
      same_node s names (form_view at (form.Checkbound' p bound_at bound_type bound q index_at index_type index)) type h w due e (λ w.
      same_both (is_left_first (scope h) (form_view bound_at bound) (form_view index_at index)) h w e
      (λ h w e. same_held s names bound t.0.below bound_at bound_type t.0.type false h w e)
      (λ h w e. same_held s names index t.1.below index_at index_type t.1.type false h w e)
      (λ a b h w e.
      same_proper (word_in a) w (λ bound. same_proper (word_in b) w (λ index.
      same_cond (nat_lt index bound) (same_gives None h w e) (same_raises bound_error h w e)))))
  same_held s names (form.Raise' p value_at value_type value) t at type due tail h w e =
      same_node s names (form_view at (form.Raise' p value_at value_type value)) type h w due e (λ w.
      same_value (same_held s names value t.below value_at value_type t.type false h w e) (λ v h w e.
      same_tested s.end ty.Val v w (same_raises v h w e)))
  same_held s names (form.Seq' shape elements) t at type due tail h w e =
      same_node s names (form_view at (form.Seq' shape elements)) type h w due e (λ w.
      same_order s names elements t tail h w e)
  same_held s names (form.If' p condition_at condition_type condition q true_at true_type on_true r false_at false_type on_false) t at type due tail h w e =
      same_node s names (form_view at (form.If' p condition_at condition_type condition q true_at true_type on_true r false_at false_type on_false))
      type h w due e (λ w.
      same_value (same_held s names condition t.0.below condition_at condition_type t.0.type false h w e) (λ c h w e.
      same_proper (condition_of (sizes w.memory) c) w (λ holds.
      same_cond holds
      (same_held s names on_true t.1.below true_at true_type t.1.type tail h w e)
      (same_held s names on_false t.2.below false_at false_type t.2.type tail h w e))))
  same_held s names (form.Switch' size_at size p selector_at selector_type selector shape cases) t at type due tail h w e =
      same_node s names (form_view at (form.Switch' size_at size p selector_at selector_type selector shape cases)) type h w due e (λ w.
      same_value (same_held s names selector t.0.below selector_at selector_type t.0.type false h w e) (λ v h w e.
      same_proper (word_in v) w (λ k.
      same_cond (nat_lt k size)
      (same_case names (choices_held s cases tail) (choices s (cases_view cases) tail) k (same_choices s names cases t.1 tail) h w e)
      (same_stops (NotProper SwitchRange) w))))
  same_held s names (form.Catch' p body_at body_type body shape handlers) t at type due tail h w e =
      same_node s names (form_view at (form.Catch' p body_at body_type body shape handlers)) type h w due e (λ w.
      same_caught names s.end (suc w.left) false (readied_held s handlers tail) (readied s (handlers_view handlers) tail)
      (same_readied s names handlers t.1 tail) (length h.names) h.tries (level_of names h e) _ _
      (same_held s names body t.0.below body_at body_type t.0.type tail h w e))
  same_held s names (form.Exit' label_at label shape arguments) t at type due tail h w e =
      same_node s names (form_view at (form.Exit' label_at label shape arguments)) type h w due e (λ w.
      same_then (same_waiting s names arguments t h w e) (λ before h w e.
      same_then (same_filled s names arguments t before h w e) (λ values h w e.
      same_exits (label_view label) values h w e)))
  same_held s names (form.Try' p body_at body_type body name_at name q handler_at handler_type handler) t at type due tail h w e =
      same_node s names (form_view at (form.Try' p body_at body_type body name_at name q handler_at handler_type handler)) type h w due e (λ w.
      let raised : Scoped = record { name = name; type = ty.Val; mutable = false } in
      same_tried names _ _ (length h.names) h.tries (level_of names h e) _ _
      (same_held s names body t.0.below body_at body_type t.0.type false (within_try h) (deepened (taken (within_try h)) w) e)
      (λ v h w e. same_back (length h.names) h.tries (level_of names h e) (record { extra = raised ∷ []; is = refl })
      (same_held s (raised ∷ names) handler t.1.below handler_at handler_type t.1.type tail (with_bound (raised ∷ []) (v ∷ []) h) w
      (ap (λ l. raised ∷ l) e))))

  pub same_waiting : {m : _} (s : Surroundings) (names : List Scoped) (row : form.Row_of-Expr m) → RowTyped names row → (h : Here) (w : World) →
      scope h ≡ names → Same names names (waiting_held s row h w) (waiting s (row_view row) h w)
  same_waiting s names form.end_of-Expr t h w e = same_gives [] h w e
  same_waiting s names (form.more_of-Expr at type f rest) t h w e =
      same_then (same_waiting s names rest t.1 h w e) (λ values h w e.
      same_unless (is_light_address (scope h) (form_view at f)) h w e (λ h w e. same_held s names f t.0.below at type t.0.type false h w e) (λ v h w e. same_gives (v ∷ values) h w e))

  pub same_filled : {m : _} (s : Surroundings) (names : List Scoped) (row : form.Row_of-Expr m) → RowTyped names row →
      (before : List (Option Value)) (h : Here) (w : World) → scope h ≡ names →
      Same names names (filled_held s row before h w) (filled s (row_view row) before h w)
  same_filled s names form.end_of-Expr t before h w e = same_gives [] h w e
  same_filled s names (form.more_of-Expr at type f rest) t before h w e =
      same_then (same_filled s names rest t.1 (rest_of before) h w e) (λ values h w e.
      same_now (first_of before) h w e (λ h w e. same_held s names f t.0.below at type t.0.type false h w e) (λ v h w e. same_gives (v ∷ values) h w e))

  pub same_bindings : {m : _} (s : Surroundings) (names : List Scoped) (row : form.Row_of-Binding m) → BindingsTyped names row →
      (h : Here) (w : World) → scope h ≡ names →
      Same (with_bindings names (bindings_view row)) names (bindings_held s row h w) (entering s (bindings_view row) h w)
  same_bindings s names form.end_of-Binding t h w e = same_gives None h w e
  same_bindings s names (form.more_of-Binding at name declared value_at type f rest) t h w e =
      same_value (same_held s names f t.0.below value_at type t.0.type false h w e) (λ v h w e.
      let d : Option Declaration = option_map declared_view declared in
      let inner : List Scoped = with_bindings names (Bind at name d (form_view value_at f) NoBinding) in
      let P : Ty → Type 0 =
      λ x. Same (with_bindings inner (bindings_view rest)) names
      (tested s.end (type_bound d type) v w (bindings_held s rest (with_bound (bound_as name d type ∷ []) (v ∷ []) h) w))
      (tested s.end (type_bound d x) v w (entering s (bindings_view rest) (with_bound (bound_as name d x ∷ []) (v ∷ []) h) w)) in
      subst P (t.0.type ∙ ap (λ n. type_of n (form_view value_at f)) (sym e))
      (same_tested s.end (type_bound d type) v w
      (same_widen (record { extra = bound_as name d (type_of names (form_view value_at f)) ∷ []; is = refl })
      (same_bindings s inner rest t.1 (with_bound (bound_as name d type ∷ []) (v ∷ []) h) w
      (ap (λ x. bound_as name d x ∷ scope h) t.0.type ∙ ap (λ l. bound_as name d (type_of names (form_view value_at f)) ∷ l) e)))))

  pub same_order : {m : _} (s : Surroundings) (names : List Scoped) (row : form.Row_of-Expr m) → RowTyped names row → (tail : Bool)
      (h : Here) (w : World) → scope h ≡ names → Same names names (in_order_held s row tail h w) (in_order s (row_view row) tail h w)
  same_order s names form.end_of-Expr t tail h w e = same_gives None h w e
  same_order s names (form.more_of-Expr at type f form.end_of-Expr) t tail h w e =
      same_held s names f t.0.below at type t.0.type tail h w e
  same_order s names (form.more_of-Expr at type f (form.more_of-Expr next_at next_type next rest)) t tail h w e =
      same_then (same_held s names f t.0.below at type t.0.type false h w e) (λ _ h w e.
      same_order s names (form.more_of-Expr next_at next_type next rest) t.1 tail h w e)

  pub same_choices : {m : _} (s : Surroundings) (names : List Scoped) (row : form.Row_of-Case m) → CasesTyped names row → (tail : Bool) →
      AllChosenSame names (choices_held s row tail) (choices s (cases_view row) tail)
  same_choices s names form.end_of-Case t tail = tt
  same_choices s names (form.more_of-Case indexes at type f rest) t tail =
      (record { indexes = refl; body = λ h w e. same_held s names f t.0.below at type t.0.type tail h w e }, same_choices s names rest t.1 tail)

  pub same_readied : {m : _} (s : Surroundings) (names : List Scoped) (row : form.Row_of-Handler m) → HandlersTyped names row → (tail : Bool) →
      AllReadySame names (readied_held s row tail) (readied s (handlers_view row) tail)
  same_readied s names form.end_of-Handler t tail = tt
  same_readied s names (form.more_of-Handler label_at label params at type f rest) t tail = (
    record {
      label = refl;
      params = refl;
      body = λ h w e. same_held s (with_parameters (params_view params.items) names) f t.0.below at type t.0.type tail h w e;
    },
    same_readied s names rest t.1 tail,
  )
