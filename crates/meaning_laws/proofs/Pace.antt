-- Between two of its calls, raises and exits a function pays at most as many units as its body has nodes.
use Rattle.std.proofs.Common.{◌≡◌, ℕ, suc, ◌+◌, Bool, true, false, List, [], ◌∷◌, Option, Some, None, length, map, subst, arith}
use Rattle.std.specs.Prelude.{nat_lt}
use Rattle.bs_words.specs.Memory.{Memory, sizes, loaded, stored, allocated, next_block}
use Rattle.bs_words.specs.Operators.{apply, condition_of, word_in}
use Rattle.bs_words.specs.declared.types.Ty.TheVariants as ty
use Rattle.bs_words.specs.declared.values.Kind.TheVariants.{BadValue, SwitchRange}
use Rattle.bs_words.specs.declared.values.Value.{Value}
use Rattle.bs_words.specs.declared.values.Value.TheVariants as value
use Rattle.cmm_tree.specs.Tree.{FunctionTree, Expression, Integer, Pointer, Symbol, Name, Nothing, Float, Let, Assign, Operator, Load, Store, Alloc, App, Extcall, Checkbound, Raise, Seq, If, Switch, Catch, Exit, Try, Expressions, NoMore, More, Bindings, NoBinding, Bind, Cases, NoCase, Choose, Handlers, NoHandler, Handle}
use Rattle.cmm_types.specs.Light.{is_light_address}
use Rattle.cmm_types.specs.Types.{Scoped, type_of, type_named, type_bound, is_mutable}
use Rattle.cmm_meaning.specs.State.{Here, taken, within_try, scope, value_of, assigned, bound, back_in}
use Rattle.cmm_meaning.specs.Evaluation.{is_left_first, first_of, rest_of, row_of_call, scoped_parameter, with_bound, bound_error}
use Rattle.cmm_tree.specs.Measures.{nodes_in, counts_one, row_total, bindings_total, cases_total, handlers_total}
use Rattle.meaning_laws.specs.Does.{Ends}
use Rattle.cmm_meaning.specs.Setting.{Setting}
use Rattle.meaning_laws.specs.Interaction.{Part, node_part, scope_restored, catching, trying, does, waiting, filled, entering, in_order, choices, readied, function_does}
use Rattle.meaning_laws.specs.Pace.{Paced, ends, deepens}
use Rattle.meaning_laws.proofs.Choices.{EachCase, no_case, a_case, more_cases, EachHandler, no_handler, a_handler, more_handlers}
use Rattle.meaning_laws.proofs.Takes.{paced_more, Takes, takes_gives, takes_fails, after_takes, after_exits, after_raises, takes_jumps, takes_deepens, takes_frame, takes_first, takes_more, takes_from, takes_then, takes_value, takes_cond, takes_proper, takes_tested, takes_node, takes_looked, takes_both, waits, takes_unless, takes_now, takes_applied, takes_called_out, takes_case, Taking, more_taken, takes_back, after_catching}

-- the units of the operands that have waited
abbrev waiting_nodes : Expressions → List (Option Value) → ℕ
waiting_nodes NoMore before = 0
waiting_nodes (More e rest) before = waits (nodes_in e) (first_of before) + waiting_nodes rest (rest_of before)

-- a node counts for one
takes_counted : {most n : ℕ} (c : Setting) (e : Expression) (h : Here) (m : Memory) {part : Part (Option Value)} → Takes most n (λ _. 0) part →
    Takes most (counts_one e + n) (λ _. 0) (node_part c e h m part)
takes_counted {most} {n} c e h m {part} p =
    let one : suc n ≡ counts_one e + n = omega arith in
    subst (λ (k : ℕ). Takes most k (λ _. 0) (node_part c e h m part)) one (takes_node {n = n} c e h m p)

module _ (most : ℕ) (c : Setting) (turns : ℕ) where
  mutual
    pub takes_nodes : (e : Expression) (tail : Bool) (h : Here) (m : Memory) → Takes most (nodes_in e) (λ _. 0) (does c turns e tail h m)
    takes_nodes (Integer at k) tail h m = takes_node c (Integer at k) h m (takes_gives (Some (value.Word k)) h m (omega arith))
    takes_nodes (Pointer at k) tail h m = takes_node c (Pointer at k) h m (takes_gives (Some (value.Word k)) h m (omega arith))
    takes_nodes (Symbol at name) tail h m = takes_node c (Symbol at name) h m (takes_looked (c.symbol name) h m)
    takes_nodes (Name at x) tail h m = takes_node c (Name at x) h m (takes_looked (value_of h.names x) h m)
    takes_nodes (Nothing at) tail h m = takes_node c (Nothing at) h m (takes_gives None h m (omega arith))
    takes_nodes (Float at word_at operands) tail h m = takes_fails BadValue m
    takes_nodes (Let at bindings body) tail h m =
        takes_counted c (Let at bindings body) h m (
        takes_then (takes_first (nodes_in body) (takes_entering bindings h m) (omega arith)) (λ _ inner m.
        takes_back (length h.names) h.tries (takes_nodes body tail inner m)))
    takes_nodes (Assign at name_at name e) tail h m =
        takes_counted c (Assign at name_at name e) h m (
        takes_value {mid = 0} (takes_nodes e false h m) (omega arith) (λ v h m.
        takes_tested c.end (type_named (scope h) name) v m (takes_gives None (record h { names = assigned h.names name v }) m (omega arith))))
    takes_nodes (Operator at op left right) tail h m =
        takes_counted c (Operator at op left right) h m (
        takes_both {mid = 0} (is_left_first (scope h) left right) h m (λ h m. takes_nodes left false h m) (λ h m. takes_nodes right false h m) (omega arith)
        (λ a b h m. takes_proper (apply op (sizes m) a b) m (λ v. takes_gives (Some v) h m (omega arith))))
    takes_nodes (Load at chunk address) tail h m =
        takes_counted c (Load at chunk address) h m (
        takes_value {mid = 0} (takes_nodes address false h m) (omega arith) (λ a h m.
        takes_proper (loaded chunk m a) m (λ v. takes_gives (Some v) h m (omega arith))))
    takes_nodes (Store at chunk address e) tail h m =
        takes_counted c (Store at chunk address e) h m (
        takes_both {mid = 0} (is_left_first (scope h) address e) h m (λ h m. takes_nodes address false h m) (λ h m. takes_nodes e false h m) (omega arith)
        (λ a v h m. takes_proper (stored chunk m a v) m (λ after. takes_gives None h after (omega arith))))
    takes_nodes (Alloc at header_at header operands) tail h m =
        takes_counted c (Alloc at header_at header operands) h m (
        takes_then (takes_waiting operands h m) (λ before h m.
        takes_then (takes_filled operands before h m) (λ values h m.
        takes_proper (allocated m header values) m (λ after. takes_gives (Some (next_block m)) h after (omega arith)))))
    takes_nodes (App at callee arguments result result_at) tail h m =
        takes_counted c (App at callee arguments result result_at) h m (
        takes_then {mid = λ before. waiting_nodes arguments before + nodes_in callee}
        (takes_frame (nodes_in callee) (takes_waiting arguments h m) (omega arith) (λ before. omega arith)) (λ before h m.
        takes_unless (waiting_nodes arguments before) (is_light_address (scope h) callee) h m (λ h m. takes_nodes callee false h m) (omega arith) (λ f h m.
        takes_then (takes_first (waits (nodes_in callee) f) (takes_filled arguments before h m) (omega arith)) (λ values h m.
        takes_now {mid = 0} f h m (λ h m. takes_nodes callee false h m) (omega arith) (λ f h m. takes_applied c f values result tail h m)))))
    takes_nodes (Extcall at frame name arguments result result_at) tail h m =
        takes_counted c (Extcall at frame name arguments result result_at) h m (
        takes_then (takes_waiting arguments h m) (λ before h m.
        takes_then (takes_filled arguments before h m) (λ values h m. takes_called_out (row_of_call (scope h) name arguments result) frame values h m)))
    takes_nodes (Checkbound at bound index) tail h m =
        takes_counted c (Checkbound at bound index) h m (
        takes_both {mid = 0} (is_left_first (scope h) bound index) h m (λ h m. takes_nodes bound false h m) (λ h m. takes_nodes index false h m) (omega arith)
        (λ a b h m. takes_proper (word_in a) m (λ bound. takes_proper (word_in b) m (λ index.
        takes_cond (nat_lt index bound) (takes_gives None h m (omega arith)) (takes_jumps (after_raises bound_error h m))))))
    takes_nodes (Raise at e) tail h m =
        takes_counted c (Raise at e) h m (
        takes_value {mid = 0} (takes_nodes e false h m) (omega arith) (λ v h m.
        takes_tested c.end ty.Val v m (takes_jumps (after_raises v h m))))
    takes_nodes (Seq at elements) tail h m = takes_counted c (Seq at elements) h m (takes_in_order elements tail h m)
    takes_nodes (If at condition on_true on_false) tail h m =
        takes_counted c (If at condition on_true on_false) h m (
        takes_value {mid = nodes_in on_true + nodes_in on_false} (takes_nodes condition false h m) (omega arith) (λ v h m.
        takes_proper (condition_of (sizes m) v) m (λ holds.
        takes_cond holds (takes_more (takes_nodes on_true tail h m) (omega arith)) (takes_more (takes_nodes on_false tail h m) (omega arith)))))
    takes_nodes (Switch at size_at size selector cases) tail h m =
        takes_counted c (Switch at size_at size selector cases) h m (
        takes_value {mid = cases_total counts_one cases} (takes_nodes selector false h m) (omega arith) (λ v h m.
        takes_proper (word_in v) m (λ k.
        takes_cond (nat_lt k size) (takes_case k (takes_choices cases tail) h m) (takes_fails SwitchRange m))))
    takes_nodes (Catch at body handlers) tail h m =
        takes_counted c (Catch at body handlers) h m (
        takes_from {i = handlers_total counts_one handlers} {j = 0} {mid = λ _. handlers_total counts_one handlers}
        {go = catching c.end turns false (readied c turns handlers tail) (length h.names) h.tries}
        (takes_first (handlers_total counts_one handlers) (takes_nodes body tail h m) (omega arith)) (omega arith) (omega arith)
        (λ v h m. takes_gives v h m (omega arith))
        (after_catching c.end turns false (takes_readied handlers tail) (length h.names) h.tries)
        (λ v h m. after_raises v h m))
    takes_nodes (Exit at label_at label arguments) tail h m =
        takes_counted c (Exit at label_at label arguments) h m (
        takes_then (takes_waiting arguments h m) (λ before h m.
        takes_then (takes_filled arguments before h m) (λ values h m. takes_jumps (after_exits label values h m))))
    takes_nodes (Try at body name_at name handler) tail h m =
        let raised : Scoped = record { name = name; type = ty.Val; mutable = false } in
        takes_counted c (Try at body name_at name handler) h m (
        takes_from {i = 0} {j = nodes_in handler} {mid = λ _. nodes_in handler}
        {go = trying (λ v h m. scope_restored (length h.names) h.tries (does c turns handler tail (with_bound (raised ∷ []) (v ∷ []) h) m)) (length h.names) h.tries}
        (takes_first (nodes_in handler) (takes_deepens (taken (within_try h)) (takes_nodes body false (within_try h) m)) (omega arith))
        (omega arith) (omega arith)
        (λ v inner m. takes_gives v (back_in (length h.names) h.tries inner) m (omega arith))
        (λ label values h m. after_exits label values h m)
        (λ v inner m. let h : Here = back_in (length h.names) h.tries inner in
        after_takes (takes_back (length h.names) h.tries (takes_nodes handler tail (with_bound (raised ∷ []) (v ∷ []) h) m))))

    takes_waiting : (row : Expressions) (h : Here) (m : Memory) → Takes most (row_total counts_one row) (waiting_nodes row) (waiting c turns row h m)
    takes_waiting NoMore h m = takes_gives [] h m (omega arith)
    takes_waiting (More e rest) h m =
        takes_then {mid = λ before. waiting_nodes rest before + nodes_in e}
        (takes_frame (nodes_in e) (takes_waiting rest h m) (omega arith) (λ before. omega arith)) (λ values h m.
        takes_unless (waiting_nodes rest values) (is_light_address (scope h) e) h m (λ h m. takes_nodes e false h m) (omega arith) (λ v h m.
        takes_gives (v ∷ values) h m (omega arith)))

    takes_filled : (row : Expressions) (before : List (Option Value)) (h : Here) (m : Memory) →
        Takes most (waiting_nodes row before) (λ _. 0) (filled c turns row before h m)
    takes_filled NoMore before h m = takes_gives [] h m (omega arith)
    takes_filled (More e rest) before h m =
        takes_then (takes_first (waits (nodes_in e) (first_of before)) (takes_filled rest (rest_of before) h m) (omega arith)) (λ values h m.
        takes_now {mid = 0} (first_of before) h m (λ h m. takes_nodes e false h m) (omega arith) (λ v h m.
        takes_gives (v ∷ values) h m (omega arith)))

    takes_entering : (row : Bindings) (h : Here) (m : Memory) → Takes most (bindings_total counts_one row) (λ _. 0) (entering c turns row h m)
    takes_entering NoBinding h m = takes_gives None h m (omega arith)
    takes_entering (Bind at name declared e rest) h m =
        takes_value {mid = bindings_total counts_one rest} (takes_nodes e false h m) (omega arith) (λ v h m.
        let scoped : Scoped = record { name = name; type = type_bound declared (type_of (scope h) e); mutable = is_mutable declared } in
        takes_tested c.end scoped.type v m (takes_entering rest (with_bound (scoped ∷ []) (v ∷ []) h) m))

    takes_in_order : (row : Expressions) (tail : Bool) (h : Here) (m : Memory) → Takes most (row_total counts_one row) (λ _. 0) (in_order c turns row tail h m)
    takes_in_order NoMore tail h m = takes_gives None h m (omega arith)
    takes_in_order (More e NoMore) tail h m = takes_more (takes_nodes e tail h m) (omega arith)
    takes_in_order (More e (More next rest)) tail h m =
        takes_then (takes_first (row_total counts_one (More next rest)) (takes_nodes e false h m) (omega arith)) (λ _ h m.
        takes_in_order (More next rest) tail h m)

    takes_choices : (row : Cases) (tail : Bool) → EachCase (Taking most (cases_total counts_one row)) (choices c turns row tail)
    takes_choices NoCase tail = no_case
    takes_choices (Choose indexes body rest) tail =
        a_case (λ h m. takes_more (takes_nodes body tail h m) (omega arith)) (more_cases (more_taken (omega arith)) (takes_choices rest tail))

    takes_readied : (row : Handlers) (tail : Bool) → EachHandler (Taking most (handlers_total counts_one row)) (readied c turns row tail)
    takes_readied NoHandler tail = no_handler
    takes_readied (Handle at label params body rest) tail =
        a_handler (λ h m. takes_more (takes_nodes body tail h m) (omega arith)) (more_handlers (more_taken (omega arith)) (takes_readied rest tail))

pub function_paced : (c : Setting) (turns frame : ℕ) (f : FunctionTree) (arguments : List Value) (below : ℕ) (m : Memory) →
    Paced (nodes_in f.body) (nodes_in f.body) (function_does c turns frame f arguments below m)
function_paced c turns frame f arguments below m =
    let here : Here = record { names = bound (map scoped_parameter f.params) arguments []; below = below; frame = frame; tries = 0 } in
    let most : ℕ = nodes_in f.body in
    let body : Takes most most (λ _. 0) (does c turns f.body true here m) = takes_nodes most c turns f.body true here m in
    deepens (paced_more most (omega arith)
    (body.paced 0 Ends (omega arith)
    (record { giving = λ v h m le. ends; exiting = λ label values h m. ends; raising = λ v h m. ends })))
