-- What holds of all that functions do: form by form.
use Rattle.std.proofs.Common.{◌≡◌, ℕ, suc, ◌&&◌, Bool, true, false, List, [], ◌∷◌, Option, Some, None, length, map, refl, sym, ap, subst}
use Rattle.std.specs.Prelude.{nat_lt}
use Rattle.bs_words.specs.Fits.{fits, type_of_comp}
use Rattle.bs_words.specs.Memory.{Memory, sizes, loaded, stored, allocated, next_block}
use Rattle.bs_words.specs.Operators.{apply, condition_of, word_in}
use Rattle.bs_words.specs.declared.types.Ty.TheVariants as ty
use Rattle.bs_words.specs.declared.values.Kind.TheVariants.{SwitchRange}
use Rattle.bs_words.specs.declared.values.Value.{Value}
use Rattle.bs_words.specs.declared.values.Value.TheVariants as value
use Rattle.cmm_tree.specs.Tree.{FunctionTree, comps_of, Parameter, Expression, Integer, Pointer, Symbol, Name, Nothing, Float, Let, Assign, Operator, Load, Store, Alloc, App, Extcall, Checkbound, Raise, Seq, If, Switch, Catch, Exit, Try, Expressions, NoMore, More, Bindings, NoBinding, Bind, Cases, NoCase, Choose, Handlers, NoHandler, Handle}
use Rattle.cmm_types.specs.Light.{is_light_address}
use Rattle.cmm_types.specs.Types.{Scoped, type_of, type_named, type_bound, is_mutable, with_parameters, body_type, result_of}
use Rattle.cmm_meaning.specs.State.{Here, Binding, taken, within_try, scope, value_of, assigned, bound, back_in}
use Rattle.cmm_meaning.specs.Evaluation.{is_left_first, first_of, rest_of, row_of_call, fit_parameters, scoped_parameter, with_bound, bound_error}
use Rattle.meaning_laws.specs.Does.{Leaves, Does, Ends}
use Rattle.cmm_meaning.specs.Setting.{Setting}
use Rattle.meaning_laws.specs.Interaction.{scope_restored, trying, does, waiting, filled, entering, in_order, choices, readied, function_does}
use Rattle.meaning_laws.specs.Fitting.{Activation, Lawful, deepens, fails}
use Rattle.meaning_laws.proofs.LinksFirst.{PaysFirst}
use Rattle.meaning_laws.proofs.LinksFirst as first
use Rattle.meaning_laws.proofs.Extends.{extends_same, stored_extended, allocated_extended}
use Rattle.meaning_laws.proofs.Choices.{EachCase, no_case, a_case, EachHandler, no_handler, a_handler}
use Rattle.meaning_laws.proofs.LawfulParts.{Stands, stands_so, stands_back, Keeps, Free, keeps_gives, keeps_fails, keeps_exits, keeps_raises, keeps_jumps, keeps_deepens, keeps_from, keeps_then, keeps_value, keeps_cond, keeps_proper, keeps_tested, keeps_tested_so, keeps_memory, Tail, Tests, keeps_operand, KeepsNode, keeps_node, keeps_expression, tested_then, follows_end, tests_end, keeps_looked, keeps_both, keeps_unless, keeps_now, keeps_applied, keeps_called_out, Keeping, keeps_case, keeps_back, keeps_catch}

module _ (a : Activation) (turns : ℕ) (still : fits a.setting.end ty.Val bound_error ≡ true) where
  abbrev c : Setting
  c = a.setting

  -- where nothing is in tail position
  never_tail : (tries : ℕ) → false ≡ true → tries ≡ 0
  never_tail tries e = absurd (cc)

  mutual
    -- an expression, by what follows its inside
    keeps_does : (e : Expression) (tail : Bool) (tries : ℕ) (h : Here) (m : Memory) → Stands a tries h → (tail ≡ true → tries ≡ 0) →
        KeepsNode a tail tries m (type_of (scope h) e) (does c turns e tail h m)
    keeps_does (Integer at k) tail tries h m st none = keeps_node a (Integer at k) h m (keeps_gives (Some (value.Word k)) h m st)
    keeps_does (Pointer at k) tail tries h m st none = keeps_node a (Pointer at k) h m (keeps_gives (Some (value.Word k)) h m st)
    keeps_does (Symbol at name) tail tries h m st none = keeps_node a (Symbol at name) h m (keeps_looked (c.symbol name) h m st)
    keeps_does (Name at x) tail tries h m st none = keeps_node a (Name at x) h m (keeps_looked (value_of h.names x) h m st)
    keeps_does (Nothing at) tail tries h m st none = keeps_node a (Nothing at) h m (keeps_gives None h m st)
    keeps_does (Float at word_at operands) tail tries h m st none = record { holds = λ k q t. fails (extends_same m) }
    keeps_does (Let at bindings body) tail tries h m st none =
        keeps_node a (Let at bindings body) h m (
        keeps_then (keeps_entering bindings tries h m st) (λ _ inner m now.
        keeps_back (length h.names) h.tries (st.2) (keeps_expression (keeps_does body tail tries inner m now none))))
    keeps_does (Assign at name_at name e) tail tries h m st none =
        keeps_node a (Assign at name_at name e) h m (
        keeps_value (keeps_operand (keeps_does e false tries h m st (never_tail tries))) (λ v h m st.
        keeps_tested c.end (type_named (scope h) name) v m (keeps_gives None (record h { names = assigned h.names name v }) m st)))
    keeps_does (Operator at op left right) tail tries h m st none =
        keeps_node a (Operator at op left right) h m (
        keeps_both (is_left_first (scope h) left right) h m st (λ h m st. keeps_operand (keeps_does left false tries h m st (never_tail tries))) (λ h m st. keeps_operand (keeps_does right false tries h m st (never_tail tries)))
        (λ x y h m st. keeps_proper (apply op (sizes m) x y) m (λ v. keeps_gives (Some v) h m st)))
    keeps_does (Load at chunk address) tail tries h m st none =
        keeps_node a (Load at chunk address) h m (
        keeps_value (keeps_operand (keeps_does address false tries h m st (never_tail tries))) (λ x h m st. keeps_proper (loaded chunk m x) m (λ v. keeps_gives (Some v) h m st)))
    keeps_does (Store at chunk address e) tail tries h m st none =
        keeps_node a (Store at chunk address e) h m (
        keeps_both (is_left_first (scope h) address e) h m st (λ h m st. keeps_operand (keeps_does address false tries h m st (never_tail tries))) (λ h m st. keeps_operand (keeps_does e false tries h m st (never_tail tries)))
        (λ x v h m st. keeps_memory (stored chunk m x v) m (stored_extended chunk m x v) None h st))
    keeps_does (Alloc at header_at header operands) tail tries h m st none =
        keeps_node a (Alloc at header_at header operands) h m (
        keeps_then (keeps_waiting operands tries h m st) (λ before h m st.
        keeps_then (keeps_filled operands before tries h m st) (λ values h m st.
        keeps_memory (allocated m header values) m (allocated_extended m header values) (Some (next_block m)) h st)))
    keeps_does (App at callee arguments result result_at) tail tries h m st none =
        keeps_node a (App at callee arguments result result_at) h m (
        keeps_then (keeps_waiting arguments tries h m st) (λ before h m st.
        keeps_unless (is_light_address (scope h) callee) h m st (λ h m st. keeps_operand (keeps_does callee false tries h m st (never_tail tries))) (λ f h m st.
        keeps_then (keeps_filled arguments before tries h m st) (λ values h m st.
        keeps_now f h m st (λ h m st. keeps_operand (keeps_does callee false tries h m st (never_tail tries))) (λ f h m st. keeps_applied a f values result tail h m st none)))))
    keeps_does (Extcall at frame name arguments result result_at) tail tries h m st none =
        keeps_node a (Extcall at frame name arguments result result_at) h m (
        keeps_then (keeps_waiting arguments tries h m st) (λ before h m st.
        keeps_then (keeps_filled arguments before tries h m st) (λ values h m st.
        keeps_called_out a (row_of_call (scope h) name arguments result) frame values h m st)))
    keeps_does (Checkbound at bound index) tail tries h m st none =
        keeps_node a (Checkbound at bound index) h m (
        keeps_both (is_left_first (scope h) bound index) h m st (λ h m st. keeps_operand (keeps_does bound false tries h m st (never_tail tries))) (λ h m st. keeps_operand (keeps_does index false tries h m st (never_tail tries)))
        (λ x y h m st. keeps_proper (word_in x) m (λ limit. keeps_proper (word_in y) m (λ index.
        keeps_cond (nat_lt index limit) (keeps_gives None h m st) (keeps_jumps (keeps_raises bound_error h m (stands_so a tries h st) still))))))
    keeps_does (Raise at e) tail tries h m st none =
        keeps_node a (Raise at e) h m (
        keeps_value (keeps_operand (keeps_does e false tries h m st (never_tail tries))) (λ v h m st.
        keeps_tested_so c.end ty.Val v m (λ fit. keeps_jumps (keeps_raises v h m (stands_so a tries h st) fit))))
    keeps_does (Seq at elements) tail tries h m st none = keeps_node a (Seq at elements) h m (keeps_in_order elements tail tries h m st none)
    keeps_does (If at condition on_true on_false) tail tries h m st none =
        keeps_node a (If at condition on_true on_false) h m (
        keeps_value (keeps_operand (keeps_does condition false tries h m st (never_tail tries))) (λ v h m st.
        keeps_proper (condition_of (sizes m) v) m (λ holds.
        keeps_cond holds (keeps_expression (keeps_does on_true tail tries h m st none)) (keeps_expression (keeps_does on_false tail tries h m st none)))))
    keeps_does (Switch at size_at size selector cases) tail tries h m st none =
        keeps_node a (Switch at size_at size selector cases) h m (
        keeps_value (keeps_operand (keeps_does selector false tries h m st (never_tail tries))) (λ v h m st.
        keeps_proper (word_in v) m (λ k.
        keeps_cond (nat_lt k size) (keeps_case k (keeps_choices cases tail) tries h m st none) (keeps_fails SwitchRange m))))
    keeps_does (Catch at body handlers) tail tries h m st none =
        keeps_node a (Catch at body handlers) h m (
        keeps_catch {a = a} {tail = tail} c.end (length h.names) h.tries tries st.2 none turns (keeps_readied handlers tail) (keeps_expression (keeps_does body tail tries h m st none)))
    keeps_does (Exit at label_at label arguments) tail tries h m st none =
        keeps_node a (Exit at label_at label arguments) h m (
        keeps_then (keeps_waiting arguments tries h m st) (λ before h m st.
        keeps_then (keeps_filled arguments before tries h m st) (λ values h m st. keeps_jumps (keeps_exits label values h m (stands_so a tries h st)))))
    keeps_does (Try at body name_at name handler) tail tries h m st none =
        let raised : Scoped = record { name = name; type = ty.Val; mutable = false } in
        keeps_node a (Try at body name_at name handler) h m (
        keeps_from {go = trying (λ v h m. scope_restored (length h.names) h.tries (does c turns handler tail (with_bound (raised ∷ []) (v ∷ []) h) m)) (length h.names) h.tries}
        (keeps_deepens (taken (within_try h)) (keeps_operand (keeps_does body false (suc tries) (within_try h) m (st.0, st.1, ap suc st.2) (never_tail (suc tries)))))
        (λ k t. tt)
        (λ v inner m now. keeps_gives v (back_in (length h.names) h.tries inner) m (stands_back a (suc tries) tries (length h.names) h.tries inner now st.2))
        (λ label values h m now. keeps_exits label values h m now)
        (λ v inner m now fit. let h : Here = back_in (length h.names) h.tries inner in
        keeps_back (length h.names) h.tries (st.2) (keeps_expression (keeps_does handler tail tries (with_bound (raised ∷ []) (v ∷ []) h) m (now.0, now.1, st.2) none))))

    keeps_waiting : (row : Expressions) (tries : ℕ) (h : Here) (m : Memory) → Stands a tries h → Keeps a Free tries m (waiting c turns row h m)
    keeps_waiting NoMore tries h m st = keeps_gives [] h m st
    keeps_waiting (More e rest) tries h m st =
        keeps_then (keeps_waiting rest tries h m st) (λ values h m st.
        keeps_unless (is_light_address (scope h) e) h m st (λ h m st. keeps_operand (keeps_does e false tries h m st (never_tail tries))) (λ v h m st. keeps_gives (v ∷ values) h m st))

    keeps_filled : (row : Expressions) (before : List (Option Value)) (tries : ℕ) (h : Here) (m : Memory) → Stands a tries h →
        Keeps a Free tries m (filled c turns row before h m)
    keeps_filled NoMore before tries h m st = keeps_gives [] h m st
    keeps_filled (More e rest) before tries h m st =
        keeps_then (keeps_filled rest (rest_of before) tries h m st) (λ values h m st.
        keeps_now (first_of before) h m st (λ h m st. keeps_operand (keeps_does e false tries h m st (never_tail tries))) (λ v h m st. keeps_gives (v ∷ values) h m st))

    keeps_entering : (row : Bindings) (tries : ℕ) (h : Here) (m : Memory) → Stands a tries h → Keeps a Free tries m (entering c turns row h m)
    keeps_entering NoBinding tries h m st = keeps_gives None h m st
    keeps_entering (Bind at name declared e rest) tries h m st =
        keeps_value (keeps_operand (keeps_does e false tries h m st (never_tail tries))) (λ v h m st.
        let scoped : Scoped = record { name = name; type = type_bound declared (type_of (scope h) e); mutable = is_mutable declared } in
        keeps_tested c.end scoped.type v m (keeps_entering rest tries (with_bound (scoped ∷ []) (v ∷ []) h) m st))

    keeps_in_order : (row : Expressions) (tail : Bool) (tries : ℕ) (h : Here) (m : Memory) → Stands a tries h → (tail ≡ true → tries ≡ 0) →
        Keeps a (Tail a tail) tries m (in_order c turns row tail h m)
    keeps_in_order NoMore tail tries h m st none = keeps_gives None h m st
    keeps_in_order (More e NoMore) tail tries h m st none = keeps_expression (keeps_does e tail tries h m st none)
    keeps_in_order (More e (More next rest)) tail tries h m st none =
        keeps_then (keeps_operand (keeps_does e false tries h m st (never_tail tries))) (λ _ h m st. keeps_in_order (More next rest) tail tries h m st none)

    keeps_choices : (row : Cases) (tail : Bool) → EachCase (Keeping a tail) (choices c turns row tail)
    keeps_choices NoCase tail = no_case
    keeps_choices (Choose indexes body rest) tail = a_case (λ tries h m st none. keeps_expression (keeps_does body tail tries h m st none)) (keeps_choices rest tail)

    keeps_readied : (row : Handlers) (tail : Bool) → EachHandler (Keeping a tail) (readied c turns row tail)
    keeps_readied NoHandler tail = no_handler
    keeps_readied (Handle at label params body rest) tail =
        a_handler (λ tries h m st none. keeps_expression (keeps_does body tail tries h m st none)) (keeps_readied rest tail)

  -- the body of a function, whose result is that of the body
  body_lawful : (e : Expression) (h : Here) (m : Memory) → Stands a 0 h → a.result ≡ result_of (type_of (scope h) e) → Lawful a m (does c turns e true h m Ends)
  body_lawful e h m st is =
      let body : KeepsNode a true 0 m (type_of (scope h) e) (does c turns e true h m) = keeps_does e true 0 h m st (λ _. refl) in
      body.holds Ends (follows_end a 0 m (type_of (scope h) e) is)
      (λ _. subst (λ r. Tests r (tested_then a.setting.end (type_of (scope h) e) Ends)) (sym is) (tests_end a.setting.end (type_of (scope h) e)))

-- ---- a function

-- what is known of a function that runs on these arguments
abbrev pub running : Setting → ℕ → FunctionTree → List Value → ℕ → Activation
running c frame f arguments below =
    let names : List Binding = bound (map scoped_parameter f.params) arguments [] in
    record { setting = c; result = result_of (type_of (map (λ (b : Binding). b.scoped) names) f.body); below = below; frame = frame }

-- All that a function does is lawful, whatever its arguments.
pub running_lawful : (c : Setting) (turns : ℕ) → fits c.end ty.Val bound_error ≡ true → (frame : ℕ) (f : FunctionTree) (arguments : List Value) (below : ℕ) (m : Memory) →
    Lawful (running c frame f arguments below) m (function_does c turns frame f arguments below m)
running_lawful c turns still frame f arguments below m =
    let here : Here = record { names = bound (map scoped_parameter f.params) arguments []; below = below; frame = frame; tries = 0 } in
    deepens (body_lawful (running c frame f arguments below) turns still f.body here m (refl, refl, refl) refl)

left_true : (b d : Bool) → b && d ≡ true → d ≡ true
left_true true d e = e
left_true false d e = absurd (cc)

-- where the arguments fit, the parameters are in scope
pub parameters_scope : (end : ℕ) (params : List Parameter) (values : List Value) (names : List Binding) →
    fit_parameters end (map (λ (q : Parameter). q.comp) params) values ≡ true →
    map (λ (b : Binding). b.scoped) (bound (map scoped_parameter params) values names) ≡ with_parameters params (map (λ (b : Binding). b.scoped) names)
parameters_scope end [] [] names fit = refl
parameters_scope end [] (v ∷ values) names fit = absurd (cc)
parameters_scope end (q ∷ params) [] names fit = absurd (cc)
parameters_scope end (q ∷ params) (v ∷ values) names fit =
    parameters_scope end params values (record { scoped = scoped_parameter q; value = v } ∷ names) (left_true (fits end (type_of_comp q.comp) v) _ fit)

-- All that a function does on arguments that fit is lawful, and its result is that of its body.
pub function_lawful : (c : Setting) (turns : ℕ) → fits c.end ty.Val bound_error ≡ true → (frame : ℕ) (f : FunctionTree) (arguments : List Value) (below : ℕ) (m : Memory) →
    fit_parameters c.end (comps_of f) arguments ≡ true →
    Lawful (record { setting = c; result = result_of (body_type f); below = below; frame = frame }) m (function_does c turns frame f arguments below m)
function_lawful c turns still frame f arguments below m fit =
    subst (λ (names : List Scoped). Lawful (record { setting = c; result = result_of (type_of names f.body); below = below; frame = frame }) m
    (function_does c turns frame f arguments below m)) (parameters_scope c.end f.params arguments [] fit)
    (running_lawful c turns still frame f arguments below m)

-- A function pays a unit first.
pub function_pays : (c : Setting) (turns frame : ℕ) (f : FunctionTree) (arguments : List Value) (below : ℕ) (m : Memory) →
    PaysFirst (function_does c turns frame f arguments below m)
function_pays c turns frame f arguments below m = first.deepens (by f.body _ Ends)
  where
    by : (e : Expression) (h : Here) (k : Leaves (Option Value) → Does) → PaysFirst (does c turns e true h m k)
    by (Integer at n) h k = first.pays
    by (Pointer at n) h k = first.pays
    by (Symbol at name) h k = first.pays
    by (Name at x) h k = first.pays
    by (Nothing at) h k = first.pays
    by (Float at word_at operands) h k = first.fails
    by (Let at bindings body) h k = first.pays
    by (Assign at name_at name e) h k = first.pays
    by (Operator at op left right) h k = first.pays
    by (Load at chunk address) h k = first.pays
    by (Store at chunk address e) h k = first.pays
    by (Alloc at header_at header operands) h k = first.pays
    by (App at callee arguments result result_at) h k = first.pays
    by (Extcall at frame name arguments result result_at) h k = first.pays
    by (Checkbound at bound index) h k = first.pays
    by (Raise at e) h k = first.pays
    by (Seq at elements) h k = first.pays
    by (If at condition on_true on_false) h k = first.pays
    by (Switch at size_at size selector cases) h k = first.pays
    by (Catch at body handlers) h k = first.pays
    by (Exit at label_at label arguments) h k = first.pays
    by (Try at body name_at name handler) h k = first.pays
