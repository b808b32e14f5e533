-- An evaluation with one layout beside the same with another: each form.
use Rattle.std.proofs.Common.{ℕ, suc, Bool, false, not, ◌&&◌, List, [], ◌∷◌, Option, Some, None, length}
use Rattle.std.specs.Prelude.{nat_lt, max}
use Rattle.bs_words.specs.External.{External}
use Rattle.bs_words.specs.Memory.{sizes, loaded, stored, allocated}
use Rattle.bs_words.specs.Operators.{apply, condition_of, word_in}
use Rattle.bs_words.specs.declared.types.Ty.TheVariants as ty
use Rattle.bs_words.specs.declared.values.Value.{Value}
use Rattle.bs_words.specs.declared.values.Value.TheVariants as value
use Rattle.cmm_tree.specs.Tree.{LabelTree, same_label, is_bare, Expression, Integer, Pointer, Symbol, Name, Nothing, Float, Let, Assign, Operator, Load, Store, Alloc, App, Extcall, Checkbound, Raise, Seq, If, Switch, Catch, Exit, Try, Expressions, NoMore, More, Bindings, NoBinding, Bind, Cases, NoCase, Choose, Handlers, NoHandler, Handle}
use Rattle.cmm_meaning.specs.Known.{is_light_address, Scoped, type_of, type_named, type_bound, is_mutable}
use Rattle.cmm_meaning.specs.Layout.{Layout}
use Rattle.cmm_meaning.specs.Choices.{Chosen, ready_for, is_named, last_naming, first_case}
use Rattle.cmm_meaning.specs.State.{Called, World, Here, taken, within_try, scope, value_of, deepened}
use Rattle.cmm_meaning.specs.Evaluation.{Body, Evaluation, Gives, Surroundings, back, looked_up, is_left_first, first_of, rest_of, row_of_call, with_bound, evaluated, waiting, filled, entering, in_order, choices, readied}
use Rattle.layout_laws.proofs.Alike.{Place, placed, Apart, apart, Alike, gives, exits, raises, with_calls, DoAlike, alike_improper, alike_then, alike_value, alike_cond, alike_tested, alike_proper, alike_node, alike_both, alike_unless, alike_now, alike_applied, alike_external}
use Rattle.layout_laws.proofs.Choosing.{OneReady, neither_ready, both_ready, OneChosen, neither_chosen, both_chosen, first_found, last_chosen, alike_looked, alike_chosen, alike_back_in, alike_caught, alike_tried}

module _ {one two : Layout} (s : Surroundings) (c : Called → World → Evaluation)
    (x : External → Bool → List Value → World → Evaluation) (d : DoAlike one two s c x) where
  -- the other surroundings
  abbrev t : Surroundings
  t = with_calls s c x

  mutual
    pub alike_evaluated : (e : Expression) (tail : Bool) (h : Here) (w : World) (p : Place) (v : Apart one two w.made) →
        Alike one two (evaluated s e tail h w) (evaluated t e tail (placed p h) (apart w v))
    alike_evaluated (Integer at k) tail h w p v =
        alike_node s c x (Integer at k) h w p v (λ w. Gives (Some (value.Word k)) (placed p h) w) (λ w v. gives {a = Some (value.Word k)} {h = h} {w = w} p v)
    alike_evaluated (Pointer at k) tail h w p v =
        alike_node s c x (Pointer at k) h w p v (λ w. Gives (Some (value.Word k)) (placed p h) w) (λ w v. gives {a = Some (value.Word k)} {h = h} {w = w} p v)
    alike_evaluated (Symbol at name) tail h w p v =
        alike_node s c x (Symbol at name) h w p v (λ w. looked_up (s.symbol name) (placed p h) w) (λ w v. alike_looked (s.symbol name) h w p v)
    alike_evaluated (Name at name) tail h w p v =
        alike_node s c x (Name at name) h w p v _ (λ w v. alike_looked (value_of h.names name) h w p v)
    alike_evaluated (Nothing at) tail h w p v =
        alike_node s c x (Nothing at) h w p v (λ w. Gives None (placed p h) w) (λ w v. gives {a = None} {h = h} {w = w} p v)
    alike_evaluated (Float at word_at operands) tail h w p v = alike_improper v
    alike_evaluated (Let at bindings body) tail h w p v =
        alike_node s c x (Let at bindings body) h w p v _ (λ w v.
        alike_then _ (alike_entering bindings h w p v) (λ _ inner w p v. alike_back_in (length h.names) h.tries (alike_evaluated body tail inner w p v)))
    alike_evaluated (Assign at name_at name e) tail h w p v =
        alike_node s c x (Assign at name_at name e) h w p v _ (λ w v.
        alike_value _ (alike_evaluated e false h w p v) (λ a h w p v.
        alike_tested s.end (type_named (scope h) name) a w v (gives p v)))
    alike_evaluated (Operator at op left right) tail h w p v =
        alike_node s c x (Operator at op left right) h w p v _ (λ w v.
        alike_both (is_left_first (scope h) left right) _ _ h w p v _ (alike_evaluated left false) (alike_evaluated right false) (λ a b h w p v.
        alike_proper (apply op (sizes w.memory) a b) w v (λ r. gives p v)))
    alike_evaluated (Load at chunk address) tail h w p v =
        alike_node s c x (Load at chunk address) h w p v _ (λ w v.
        alike_value _ (alike_evaluated address false h w p v) (λ a h w p v.
        alike_proper (loaded chunk w.memory a) w v (λ r. gives p v)))
    alike_evaluated (Store at chunk address e) tail h w p v =
        alike_node s c x (Store at chunk address e) h w p v _ (λ w v.
        alike_both (is_left_first (scope h) address e) _ _ h w p v _ (alike_evaluated address false) (alike_evaluated e false) (λ a b h w p v.
        alike_proper (stored chunk w.memory a b) w v (λ memory. gives p v)))
    alike_evaluated (Alloc at header_at header operands) tail h w p v =
        alike_node s c x (Alloc at header_at header operands) h w p v _ (λ w v.
        alike_then _ (alike_waiting operands h w p v) (λ before h w p v.
        alike_then _ (alike_filled operands before h w p v) (λ values h w p v.
        alike_proper (allocated w.memory header values) w v (λ memory. gives p v))))
    alike_evaluated (App at callee arguments result result_at) tail h w p v =
        alike_node s c x (App at callee arguments result result_at) h w p v _ (λ w v.
        alike_then _ (alike_waiting arguments h w p v) (λ before h w p v.
        alike_unless (is_light_address (scope h) callee) _ h w p v _ (alike_evaluated callee false) (λ f h w p v.
        alike_then _ (alike_filled arguments before h w p v) (λ values h w p v.
        alike_now f _ h w p v _ (alike_evaluated callee false) (λ f h w p v. alike_applied s c x d f values result tail h w p v)))))
    alike_evaluated (Extcall at frame name arguments result result_at) tail h w p v =
        alike_node s c x (Extcall at frame name arguments result result_at) h w p v _ (λ w v.
        alike_then _ (alike_waiting arguments h w p v) (λ before h w p v.
        alike_then _ (alike_filled arguments before h w p v) (λ values h w p v.
        alike_external s c x d (row_of_call (scope h) name arguments result) frame values result h w p v)))
    alike_evaluated (Checkbound at bound index) tail h w p v =
        alike_node s c x (Checkbound at bound index) h w p v _ (λ w v.
        alike_both (is_left_first (scope h) bound index) _ _ h w p v _ (alike_evaluated bound false) (alike_evaluated index false) (λ a b h w p v.
        alike_proper (word_in a) w v (λ bound. alike_proper (word_in b) w v (λ index.
        alike_cond (nat_lt index bound) (gives p v) (raises p v)))))
    alike_evaluated (Raise at e) tail h w p v =
        alike_node s c x (Raise at e) h w p v _ (λ w v.
        alike_value _ (alike_evaluated e false h w p v) (λ a h w p v. alike_tested s.end ty.Val a w v (raises p v)))
    alike_evaluated (Seq at elements) tail h w p v =
        alike_node s c x (Seq at elements) h w p v _ (λ w v. alike_order elements tail h w p v)
    alike_evaluated (If at condition on_true on_false) tail h w p v =
        alike_node s c x (If at condition on_true on_false) h w p v _ (λ w v.
        alike_value _ (alike_evaluated condition false h w p v) (λ a h w p v.
        alike_proper (condition_of (sizes w.memory) a) w v (λ holds.
        alike_cond holds (alike_evaluated on_true tail h w p v) (alike_evaluated on_false tail h w p v))))
    alike_evaluated (Switch at size_at size selector cases) tail h w p v =
        alike_node s c x (Switch at size_at size selector cases) h w p v _ (λ w v.
        alike_value _ (alike_evaluated selector false h w p v) (λ a h w p v.
        alike_proper (word_in a) w v (λ k.
        alike_cond (nat_lt k size) (alike_chosen (one_last cases tail k (one_first cases tail)) h w p v) (alike_improper v))))
    alike_evaluated (Catch at body handlers) tail h w p v =
        alike_node s c x (Catch at body handlers) h w p v _ (λ w v.
        alike_caught s.end (length h.names) h.tries (readied s handlers tail) (readied t handlers tail) (one_handler handlers tail) (suc w.left) false
        (alike_evaluated body tail h w p v))
    alike_evaluated (Exit at label_at label arguments) tail h w p v =
        alike_node s c x (Exit at label_at label arguments) h w p v _ (λ w v.
        alike_then _ (alike_waiting arguments h w p v) (λ before h w p v.
        alike_then _ (alike_filled arguments before h w p v) (λ values h w p v. exits p v)))
    alike_evaluated (Try at body name_at name handler) tail h w p v =
        alike_node s c x (Try at body name_at name handler) h w p v _ (λ w v.
        let raised : Scoped = record { name = name; type = ty.Val; mutable = false } in
        let other : Here = within_try (placed p h) in
        let deeper : Apart one two w.made = record v { stack_need = max v.stack_need (taken other) } in
        alike_tried (λ a h w. back (length h.names) h.tries (evaluated t handler tail (with_bound (raised ∷ []) (a ∷ []) h) w)) (length h.names) h.tries
        (alike_evaluated body false (within_try h) (deepened (taken (within_try h)) w) p deeper)
        (λ a h w p v. alike_back_in (length h.names) h.tries (alike_evaluated handler tail (with_bound (raised ∷ []) (a ∷ []) h) w p v)))

    alike_waiting : (row : Expressions) (h : Here) (w : World) (p : Place) (v : Apart one two w.made) →
        Alike one two (waiting s row h w) (waiting t row (placed p h) (apart w v))
    alike_waiting NoMore h w p v = gives p v
    alike_waiting (More e rest) h w p v =
        alike_then _ (alike_waiting rest h w p v) (λ values h w p v.
        alike_unless (is_light_address (scope h) e) _ h w p v _ (alike_evaluated e false) (λ a h w p v. gives p v))

    alike_filled : (row : Expressions) (before : List (Option Value)) (h : Here) (w : World) (p : Place) (v : Apart one two w.made) →
        Alike one two (filled s row before h w) (filled t row before (placed p h) (apart w v))
    alike_filled NoMore before h w p v = gives p v
    alike_filled (More e rest) before h w p v =
        alike_then _ (alike_filled rest (rest_of before) h w p v) (λ values h w p v.
        alike_now (first_of before) _ h w p v _ (alike_evaluated e false) (λ a h w p v. gives p v))

    alike_entering : (bindings : Bindings) (h : Here) (w : World) (p : Place) (v : Apart one two w.made) →
        Alike one two (entering s bindings h w) (entering t bindings (placed p h) (apart w v))
    alike_entering NoBinding h w p v = gives p v
    alike_entering (Bind at name declared e rest) h w p v =
        alike_value _ (alike_evaluated e false h w p v) (λ a h w p v.
        let scoped : Scoped = record { name = name; type = type_bound declared (type_of (scope h) e); mutable = is_mutable declared } in
        alike_tested s.end scoped.type a w v (alike_entering rest (with_bound (scoped ∷ []) (a ∷ []) h) w p v))

    alike_order : (row : Expressions) (tail : Bool) (h : Here) (w : World) (p : Place) (v : Apart one two w.made) →
        Alike one two (in_order s row tail h w) (in_order t row tail (placed p h) (apart w v))
    alike_order NoMore tail h w p v = gives p v
    alike_order (More e NoMore) tail h w p v = alike_evaluated e tail h w p v
    alike_order (More e (More next rest)) tail h w p v =
        alike_then _ (alike_evaluated e false h w p v) (λ _ h w p v. alike_order (More next rest) tail h w p v)

    one_last : (cases : Cases) (tail : Bool) (k : ℕ) {o u : Option (Chosen Body)} → OneChosen one two o u →
        OneChosen one two (last_naming (choices s cases tail) k o) (last_naming (choices t cases tail) k u)
    one_last NoCase tail k so_far = so_far
    one_last (Choose indexes body rest) tail k so_far =
        one_last rest tail k (last_chosen (is_named indexes k) (both_chosen indexes (alike_evaluated body tail)) so_far)

    one_first : (cases : Cases) (tail : Bool) → OneChosen one two (first_case (choices s cases tail)) (first_case (choices t cases tail))
    one_first NoCase tail = neither_chosen
    one_first (Choose indexes body rest) tail = both_chosen indexes (alike_evaluated body tail)

    one_handler : (handlers : Handlers) (tail within : Bool) (label : LabelTree) →
        OneReady one two (ready_for within label (readied s handlers tail)) (ready_for within label (readied t handlers tail))
    one_handler NoHandler tail within label = neither_ready
    one_handler (Handle at name params body rest) tail within label =
        first_found (same_label label name && not (is_bare label && within)) (both_ready name params (alike_evaluated body tail))
        (one_handler rest tail within label)
