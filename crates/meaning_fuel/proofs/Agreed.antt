-- Where calls agree on the worlds of fewer units, evaluations agree; and each node takes a unit.
use Rattle.std.proofs.Common.{ℕ, suc, ◌<◌, ◌≤◌, Bool, false, List, [], ◌∷◌, Option, Some, None, length, refl, arith}
use Rattle.std.specs.Prelude.{nat_lt}
use Rattle.bs_words.specs.Memory.{sizes, loaded, stored, allocated}
use Rattle.bs_words.specs.Operators.{apply, condition_of, word_in}
use Rattle.bs_words.specs.declared.types.Ty.TheVariants as ty
use Rattle.bs_words.specs.declared.values.Kind.TheVariants.{BadValue}
use Rattle.bs_words.specs.declared.values.Value.{Value}
use Rattle.bs_words.specs.declared.values.Value.TheVariants as value
use Rattle.cmm_tree.specs.Tree.{Expression, Integer, Pointer, Symbol, Name, Nothing, Float, Let, Assign, Operator, Load, Store, Alloc, App, Extcall, Checkbound, Raise, Seq, If, Switch, Catch, Exit, Try, Expressions, NoMore, More, Bindings, NoBinding, Bind, Cases, NoCase, Choose, Handlers, NoHandler, Handle}
use Rattle.cmm_meaning.specs.Known.{is_light_address, Scoped, type_of, type_named, type_bound, is_mutable}
use Rattle.cmm_meaning.specs.State.{Called, World, Here, taken, within_try, scope, value_of, deepened}
use Rattle.cmm_meaning.specs.Evaluation.{Evaluation, Surroundings, is_left_first, first_of, rest_of, row_of_call, with_bound, evaluated, waiting, filled, entering, in_order, choices, readied}
use Rattle.meaning_fuel.proofs.Alike.{stopped_improper, Alike, Same, Agree, with_calls, alike_then, alike_value, alike_cond, alike_gives, alike_stop, alike_tested, alike_proper, alike_same, alike_node, alike_both, alike_unless, alike_now, alike_applied, alike_external}
use Rattle.meaning_fuel.proofs.Choosing.{ChosenAlike, no_case, a_case, ReadyAlike, no_ready, a_ready, alike_looked, alike_back_in, alike_chosen, case_alike, alike_caught, alike_tried}

module _ {dry : Bool} (n : ℕ) (s : Surroundings) (c : Called → World → Evaluation) (a : Agree dry n s c) where
  -- what is inside a node
  within : (l : ℕ) → l < n → (w : World) → w.left ≤ l → {x y : Evaluation} → (w.left ≤ n → Same dry w.left x y) → Alike dry l x y
  within l less w le q = alike_same le (q (omega arith))

  mutual
    pub same_evaluated : (e : Expression) (tail : Bool) (h : Here) (w : World) → w.left ≤ n →
        Same dry w.left (evaluated s e tail h w) (evaluated (with_calls s c) e tail h w)
    same_evaluated (Integer at k) tail h w le = alike_node s c (Integer at k) h w (λ l small w at_most. alike_gives {v = Some (value.Word k)} {h = h} {w = w} at_most)
    same_evaluated (Pointer at k) tail h w le = alike_node s c (Pointer at k) h w (λ l small w at_most. alike_gives {v = Some (value.Word k)} {h = h} {w = w} at_most)
    same_evaluated (Symbol at name) tail h w le =
        alike_node s c (Symbol at name) h w (λ l small w at_most. alike_looked (s.symbol name) h w at_most)
    same_evaluated (Name at x) tail h w le =
        alike_node s c (Name at x) h w (λ l small w at_most. alike_looked (value_of h.names x) h w at_most)
    same_evaluated (Nothing at) tail h w le = alike_node s c (Nothing at) h w (λ l small w at_most. alike_gives {A = Option Value} {v = None} {h = h} {w = w} at_most)
    same_evaluated (Float at word_at operands) tail h w le = record { is = refl; pays = stopped_improper dry BadValue w }
    same_evaluated (Let at bindings body) tail h w le =
        alike_node s c (Let at bindings body) h w (λ l small w at_most.
        alike_then (alike_entering bindings l (omega arith) h w at_most) (λ _ inner w at_most.
        alike_back_in (length h.names) h.tries (within l (omega arith) w at_most (same_evaluated body tail inner w))))
    same_evaluated (Assign at name_at name e) tail h w le =
        alike_node s c (Assign at name_at name e) h w (λ l small w at_most.
        alike_value (within l (omega arith) w at_most (same_evaluated e false h w)) (λ v h w at_most.
        alike_tested s.end (type_named (scope h) name) v w (alike_gives at_most)))
    same_evaluated (Operator at op left right) tail h w le =
        alike_node s c (Operator at op left right) h w (λ l small w at_most.
        alike_both (is_left_first (scope h) left right) h w at_most (λ h w at_most. within l (omega arith) w at_most (same_evaluated left false h w)) (λ h w at_most. within l (omega arith) w at_most (same_evaluated right false h w))
        (λ a b h w at_most. alike_proper (apply op (sizes w.memory) a b) w (λ v. alike_gives at_most)))
    same_evaluated (Load at chunk address) tail h w le =
        alike_node s c (Load at chunk address) h w (λ l small w at_most.
        alike_value (within l (omega arith) w at_most (same_evaluated address false h w)) (λ a h w at_most.
        alike_proper (loaded chunk w.memory a) w (λ v. alike_gives at_most)))
    same_evaluated (Store at chunk address e) tail h w le =
        alike_node s c (Store at chunk address e) h w (λ l small w at_most.
        alike_both (is_left_first (scope h) address e) h w at_most (λ h w at_most. within l (omega arith) w at_most (same_evaluated address false h w)) (λ h w at_most. within l (omega arith) w at_most (same_evaluated e false h w))
        (λ a v h w at_most. alike_proper (stored chunk w.memory a v) w (λ memory. alike_gives at_most)))
    same_evaluated (Alloc at header_at header operands) tail h w le =
        alike_node s c (Alloc at header_at header operands) h w (λ l small w at_most.
        alike_then (alike_waiting operands l (omega arith) h w at_most) (λ before h w at_most.
        alike_then (alike_filled operands l (omega arith) before h w at_most) (λ values h w at_most.
        alike_proper (allocated w.memory header values) w (λ memory. alike_gives at_most))))
    same_evaluated (App at callee arguments result result_at) tail h w le =
        alike_node s c (App at callee arguments result result_at) h w (λ l small w at_most.
        alike_then (alike_waiting arguments l (omega arith) h w at_most) (λ before h w at_most.
        alike_unless (is_light_address (scope h) callee) h w at_most (λ h w at_most. within l (omega arith) w at_most (same_evaluated callee false h w)) (λ f h w at_most.
        alike_then (alike_filled arguments l (omega arith) before h w at_most) (λ values h w at_most.
        alike_now f h w at_most (λ h w at_most. within l (omega arith) w at_most (same_evaluated callee false h w)) (λ f h w at_most.
        alike_applied a (omega arith) f values result tail h w at_most)))))
    same_evaluated (Extcall at frame name arguments result result_at) tail h w le =
        alike_node s c (Extcall at frame name arguments result result_at) h w (λ l small w at_most.
        alike_then (alike_waiting arguments l (omega arith) h w at_most) (λ before h w at_most.
        alike_then (alike_filled arguments l (omega arith) before h w at_most) (λ values h w at_most.
        alike_external a (omega arith) (row_of_call (scope h) name arguments result) frame values result h w at_most)))
    same_evaluated (Checkbound at bound index) tail h w le =
        alike_node s c (Checkbound at bound index) h w (λ l small w at_most.
        alike_both (is_left_first (scope h) bound index) h w at_most (λ h w at_most. within l (omega arith) w at_most (same_evaluated bound false h w)) (λ h w at_most. within l (omega arith) w at_most (same_evaluated index false h w))
        (λ a b h w at_most. alike_proper (word_in a) w (λ bound. alike_proper (word_in b) w (λ index.
        alike_cond (nat_lt index bound) (alike_gives at_most) (record { is = refl; spends = at_most })))))
    same_evaluated (Raise at e) tail h w le =
        alike_node s c (Raise at e) h w (λ l small w at_most.
        alike_value (within l (omega arith) w at_most (same_evaluated e false h w)) (λ v h w at_most.
        alike_tested s.end ty.Val v w (record { is = refl; spends = at_most })))
    same_evaluated (Seq at elements) tail h w le =
        alike_node s c (Seq at elements) h w (λ l small w at_most. alike_order elements l (omega arith) tail h w at_most)
    same_evaluated (If at condition on_true on_false) tail h w le =
        alike_node s c (If at condition on_true on_false) h w (λ l small w at_most.
        alike_value (within l (omega arith) w at_most (same_evaluated condition false h w)) (λ v h w at_most.
        alike_proper (condition_of (sizes w.memory) v) w (λ holds.
        alike_cond holds (within l (omega arith) w at_most (same_evaluated on_true tail h w)) (within l (omega arith) w at_most (same_evaluated on_false tail h w)))))
    same_evaluated (Switch at size_at size selector cases) tail h w le =
        alike_node s c (Switch at size_at size selector cases) h w (λ l small w at_most.
        alike_value (within l (omega arith) w at_most (same_evaluated selector false h w)) (λ v h w at_most.
        alike_proper (word_in v) w (λ k.
        alike_cond (nat_lt k size) (alike_chosen (case_alike k (choices_alike cases l (omega arith) tail)) h w at_most) alike_stop)))
    same_evaluated (Catch at body handlers) tail h w le =
        alike_node s c (Catch at body handlers) h w (λ l small w at_most.
        alike_caught s.end (suc w.left) false (readied_alike handlers l (omega arith) tail) (length h.names) h.tries
        (within l (omega arith) w at_most (same_evaluated body tail h w)))
    same_evaluated (Exit at label_at label arguments) tail h w le =
        alike_node s c (Exit at label_at label arguments) h w (λ l small w at_most.
        alike_then (alike_waiting arguments l (omega arith) h w at_most) (λ before h w at_most.
        alike_then (alike_filled arguments l (omega arith) before h w at_most) (λ values h w at_most.
        record { is = refl; spends = at_most })))
    same_evaluated (Try at body name_at name handler) tail h w le =
        alike_node s c (Try at body name_at name handler) h w (λ l small w at_most.
        alike_tried (length h.names) h.tries
        (within l (omega arith) (deepened (taken (within_try h)) w) at_most (same_evaluated body false (within_try h) (deepened (taken (within_try h)) w)))
        (λ v h w at_most. let raised : Scoped = record { name = name; type = ty.Val; mutable = false } in
        alike_back_in (length h.names) h.tries (within l (omega arith) w at_most (same_evaluated handler tail (with_bound (raised ∷ []) (v ∷ []) h) w))))

    alike_waiting : (row : Expressions) (l : ℕ) → l < n → (h : Here) (w : World) → w.left ≤ l →
        Alike dry l (waiting s row h w) (waiting (with_calls s c) row h w)
    alike_waiting NoMore l less h w le = alike_gives le
    alike_waiting (More e rest) l less h w le =
        alike_then (alike_waiting rest l less h w le) (λ values h w le.
        alike_unless (is_light_address (scope h) e) h w le (λ h w le. within l less w le (same_evaluated e false h w)) (λ v h w le. alike_gives le))

    alike_filled : (row : Expressions) (l : ℕ) → l < n → (before : List (Option Value)) (h : Here) (w : World) → w.left ≤ l →
        Alike dry l (filled s row before h w) (filled (with_calls s c) row before h w)
    alike_filled NoMore l less before h w le = alike_gives le
    alike_filled (More e rest) l less before h w le =
        alike_then (alike_filled rest l less (rest_of before) h w le) (λ values h w le.
        alike_now (first_of before) h w le (λ h w le. within l less w le (same_evaluated e false h w)) (λ v h w le. alike_gives le))

    alike_entering : (row : Bindings) (l : ℕ) → l < n → (h : Here) (w : World) → w.left ≤ l →
        Alike dry l (entering s row h w) (entering (with_calls s c) row h w)
    alike_entering NoBinding l less h w le = alike_gives le
    alike_entering (Bind at name declared e rest) l less h w le =
        alike_value (within l less w le (same_evaluated e false h w)) (λ v h w le.
        let scoped : Scoped = record { name = name; type = type_bound declared (type_of (scope h) e); mutable = is_mutable declared } in
        alike_tested s.end scoped.type v w (alike_entering rest l less (with_bound (scoped ∷ []) (v ∷ []) h) w le))

    alike_order : (row : Expressions) (l : ℕ) → l < n → (tail : Bool) (h : Here) (w : World) → w.left ≤ l →
        Alike dry l (in_order s row tail h w) (in_order (with_calls s c) row tail h w)
    alike_order NoMore l less tail h w le = alike_gives le
    alike_order (More e NoMore) l less tail h w le = within l less w le (same_evaluated e tail h w)
    alike_order (More e (More e2 rest)) l less tail h w le =
        alike_then (within l less w le (same_evaluated e false h w)) (λ _ h w le. alike_order (More e2 rest) l less tail h w le)

    choices_alike : (row : Cases) (l : ℕ) → l < n → (tail : Bool) → ChosenAlike dry l (choices s row tail) (choices (with_calls s c) row tail)
    choices_alike NoCase l less tail = no_case
    choices_alike (Choose indexes body rest) l less tail =
        a_case (record { indexes = refl; body = λ h w le. within l less w le (same_evaluated body tail h w) }) (choices_alike rest l less tail)

    readied_alike : (row : Handlers) (l : ℕ) → l < n → (tail : Bool) → ReadyAlike dry l (readied s row tail) (readied (with_calls s c) row tail)
    readied_alike NoHandler l less tail = no_ready
    readied_alike (Handle at label params body rest) l less tail =
        a_ready (record { label = refl; params = refl; body = λ h w le. within l less w le (same_evaluated body tail h w) }) (readied_alike rest l less tail)
