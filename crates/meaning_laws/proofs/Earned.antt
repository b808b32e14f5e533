-- For each of its calls, exits and raises a function has paid a unit: form by form.
use Rattle.std.proofs.Common.{ℕ, Bool, true, false, List, [], ◌∷◌, Option, Some, None, length, map, arith}
use Rattle.std.specs.Prelude.{nat_lt}
use Rattle.bs_words.specs.Memory.{Memory, sizes, loaded, stored, allocated, next_block}
use Rattle.bs_words.specs.Operators.{apply, condition_of, word_in}
use Rattle.bs_words.specs.declared.types.Ty.TheVariants as ty
use Rattle.bs_words.specs.declared.values.Kind.TheVariants.{BadValue, SwitchRange}
use Rattle.bs_words.specs.declared.values.Value.{Value}
use Rattle.bs_words.specs.declared.values.Value.TheVariants as value
use Rattle.cmm_tree.specs.Tree.{FunctionTree, Expression, Integer, Pointer, Symbol, Name, Nothing, Float, Let, Assign, Operator, Load, Store, Alloc, App, Extcall, Checkbound, Raise, Seq, If, Switch, Catch, Exit, Try, Expressions, NoMore, More, Bindings, NoBinding, Bind, Cases, NoCase, Choose, Handlers, NoHandler, Handle}
use Rattle.cmm_types.specs.Light.{is_light_address}
use Rattle.cmm_types.specs.Types.{Scoped, type_of, type_named, type_bound, is_mutable}
use Rattle.cmm_meaning.specs.State.{Here, taken, within_try, scope, value_of, assigned, bound, back_in}
use Rattle.cmm_meaning.specs.Evaluation.{is_left_first, first_of, rest_of, row_of_call, scoped_parameter, with_bound, bound_error}
use Rattle.meaning_laws.specs.Does.{Ends}
use Rattle.cmm_meaning.specs.Setting.{Setting}
use Rattle.meaning_laws.specs.Interaction.{scope_restored, catching, trying, does, waiting, filled, entering, in_order, choices, readied, function_does}
use Rattle.meaning_laws.proofs.Choices.{EachCase, no_case, a_case, EachHandler, no_handler, a_handler}
use Rattle.meaning_laws.proofs.Covers.{Earned, ends, deepens, earned_more, Covers, Covering, covers_any, covers_applied, covers_back, covers_both, covers_called_out, covers_case, covers_catching, covers_cond, covers_deepens, covers_exits, covers_fails, covers_from, covers_gives, covers_jumps, covers_looked, covers_node, covers_now, covers_proper, covers_raises, covers_tested, covers_then, covers_unless, covers_value}

module _ (c : Setting) (turns : ℕ) where
  mutual
    pub covers_does : (e : Expression) (tail : Bool) (h : Here) (m : Memory) → Covers 0 (does c turns e tail h m)
    covers_does (Integer at k) tail h m = covers_node c (Integer at k) h m (covers_gives (Some (value.Word k)) h m)
    covers_does (Pointer at k) tail h m = covers_node c (Pointer at k) h m (covers_gives (Some (value.Word k)) h m)
    covers_does (Symbol at name) tail h m = covers_node c (Symbol at name) h m (covers_looked (c.symbol name) h m)
    covers_does (Name at x) tail h m = covers_node c (Name at x) h m (covers_looked (value_of h.names x) h m)
    covers_does (Nothing at) tail h m = covers_node c (Nothing at) h m (covers_gives None h m)
    covers_does (Float at word_at operands) tail h m = covers_fails BadValue m
    covers_does (Let at bindings body) tail h m =
        covers_node c (Let at bindings body) h m (
        covers_then (covers_entering bindings h m) (λ _ inner m. covers_back (length h.names) h.tries (covers_does body tail inner m)))
    covers_does (Assign at name_at name e) tail h m =
        covers_node c (Assign at name_at name e) h m (
        covers_value (covers_does e false h m) (λ v h m.
        covers_tested c.end (type_named (scope h) name) v m (covers_gives None (record h { names = assigned h.names name v }) m)))
    covers_does (Operator at op left right) tail h m =
        covers_node c (Operator at op left right) h m (
        covers_both (is_left_first (scope h) left right) h m (λ h m. covers_does left false h m) (λ h m. covers_does right false h m)
        (λ a b h m. covers_proper (apply op (sizes m) a b) m (λ v. covers_gives (Some v) h m)))
    covers_does (Load at chunk address) tail h m =
        covers_node c (Load at chunk address) h m (
        covers_value (covers_does address false h m) (λ a h m. covers_proper (loaded chunk m a) m (λ v. covers_gives (Some v) h m)))
    covers_does (Store at chunk address e) tail h m =
        covers_node c (Store at chunk address e) h m (
        covers_both (is_left_first (scope h) address e) h m (λ h m. covers_does address false h m) (λ h m. covers_does e false h m)
        (λ a v h m. covers_proper (stored chunk m a v) m (λ after. covers_gives None h after)))
    covers_does (Alloc at header_at header operands) tail h m =
        covers_node c (Alloc at header_at header operands) h m (
        covers_then (covers_waiting operands h m) (λ before h m.
        covers_then (covers_filled operands before h m) (λ values h m.
        covers_proper (allocated m header values) m (λ after. covers_gives (Some (next_block m)) h after))))
    covers_does (App at callee arguments result result_at) tail h m =
        covers_node c (App at callee arguments result result_at) h m (
        covers_then (covers_waiting arguments h m) (λ before h m.
        covers_unless (is_light_address (scope h) callee) h m (λ h m. covers_does callee false h m) (λ f h m.
        covers_then (covers_filled arguments before h m) (λ values h m.
        covers_now f h m (λ h m. covers_does callee false h m) (λ f h m. covers_applied c f values result tail h m)))))
    covers_does (Extcall at frame name arguments result result_at) tail h m =
        covers_node c (Extcall at frame name arguments result result_at) h m (
        covers_then (covers_waiting arguments h m) (λ before h m.
        covers_then (covers_filled arguments before h m) (λ values h m. covers_called_out (row_of_call (scope h) name arguments result) frame values h m)))
    covers_does (Checkbound at bound index) tail h m =
        covers_node c (Checkbound at bound index) h m (
        covers_both (is_left_first (scope h) bound index) h m (λ h m. covers_does bound false h m) (λ h m. covers_does index false h m)
        (λ a b h m. covers_proper (word_in a) m (λ bound. covers_proper (word_in b) m (λ index.
        covers_cond (nat_lt index bound) (covers_gives None h m) (covers_jumps (covers_raises bound_error h m))))))
    covers_does (Raise at e) tail h m =
        covers_node c (Raise at e) h m (
        covers_value (covers_does e false h m) (λ v h m.
        covers_tested c.end ty.Val v m (covers_jumps (covers_raises v h m))))
    covers_does (Seq at elements) tail h m = covers_node c (Seq at elements) h m (covers_any (covers_in_order elements tail h m))
    covers_does (If at condition on_true on_false) tail h m =
        covers_node c (If at condition on_true on_false) h m (
        covers_value (covers_does condition false h m) (λ v h m.
        covers_proper (condition_of (sizes m) v) m (λ holds.
        covers_cond holds (covers_any (covers_does on_true tail h m)) (covers_any (covers_does on_false tail h m)))))
    covers_does (Switch at size_at size selector cases) tail h m =
        covers_node c (Switch at size_at size selector cases) h m (
        covers_value (covers_does selector false h m) (λ v h m.
        covers_proper (word_in v) m (λ k.
        covers_cond (nat_lt k size) (covers_case k (covers_choices cases tail) h m) (covers_fails SwitchRange m))))
    covers_does (Catch at body handlers) tail h m =
        covers_node c (Catch at body handlers) h m (
        covers_from {go = catching c.end turns false (readied c turns handlers tail) (length h.names) h.tries}
        (covers_does body tail h m)
        (λ v h m. covers_gives v h m)
        (covers_catching c.end turns false (covers_readied handlers tail) (length h.names) h.tries)
        (λ v h m. covers_raises v h m))
    covers_does (Exit at label_at label arguments) tail h m =
        covers_node c (Exit at label_at label arguments) h m (
        covers_then (covers_waiting arguments h m) (λ before h m.
        covers_then (covers_filled arguments before h m) (λ values h m. covers_jumps (covers_exits label values h m))))
    covers_does (Try at body name_at name handler) tail h m =
        let raised : Scoped = record { name = name; type = ty.Val; mutable = false } in
        covers_node c (Try at body name_at name handler) h m (
        covers_from {go = trying (λ v h m. scope_restored (length h.names) h.tries (does c turns handler tail (with_bound (raised ∷ []) (v ∷ []) h) m)) (length h.names) h.tries}
        (covers_deepens (taken (within_try h)) (covers_does body false (within_try h) m))
        (λ v inner m. covers_gives v (back_in (length h.names) h.tries inner) m)
        (λ label values h m. covers_exits label values h m)
        (λ v inner m. let h : Here = back_in (length h.names) h.tries inner in
        covers_back (length h.names) h.tries (covers_does handler tail (with_bound (raised ∷ []) (v ∷ []) h) m)))

    covers_waiting : (row : Expressions) (h : Here) (m : Memory) → Covers 0 (waiting c turns row h m)
    covers_waiting NoMore h m = covers_gives [] h m
    covers_waiting (More e rest) h m =
        covers_then (covers_waiting rest h m) (λ values h m.
        covers_unless (is_light_address (scope h) e) h m (λ h m. covers_does e false h m) (λ v h m. covers_gives (v ∷ values) h m))

    covers_filled : (row : Expressions) (before : List (Option Value)) (h : Here) (m : Memory) →
        Covers 0 (filled c turns row before h m)
    covers_filled NoMore before h m = covers_gives [] h m
    covers_filled (More e rest) before h m =
        covers_then (covers_filled rest (rest_of before) h m) (λ values h m.
        covers_now (first_of before) h m (λ h m. covers_does e false h m) (λ v h m. covers_gives (v ∷ values) h m))

    covers_entering : (row : Bindings) (h : Here) (m : Memory) → Covers 0 (entering c turns row h m)
    covers_entering NoBinding h m = covers_gives None h m
    covers_entering (Bind at name declared e rest) h m =
        covers_value (covers_does e false h m) (λ v h m.
        let scoped : Scoped = record { name = name; type = type_bound declared (type_of (scope h) e); mutable = is_mutable declared } in
        covers_tested c.end scoped.type v m (covers_entering rest (with_bound (scoped ∷ []) (v ∷ []) h) m))

    covers_in_order : (row : Expressions) (tail : Bool) (h : Here) (m : Memory) → Covers 0 (in_order c turns row tail h m)
    covers_in_order NoMore tail h m = covers_gives None h m
    covers_in_order (More e NoMore) tail h m = covers_does e tail h m
    covers_in_order (More e (More next rest)) tail h m =
        covers_then (covers_does e false h m) (λ _ h m. covers_in_order (More next rest) tail h m)

    covers_choices : (row : Cases) (tail : Bool) → EachCase Covering (choices c turns row tail)
    covers_choices NoCase tail = no_case
    covers_choices (Choose indexes body rest) tail = a_case (λ h m. covers_does body tail h m) (covers_choices rest tail)

    covers_readied : (row : Handlers) (tail : Bool) → EachHandler Covering (readied c turns row tail)
    covers_readied NoHandler tail = no_handler
    covers_readied (Handle at label params body rest) tail = a_handler (λ h m. covers_does body tail h m) (covers_readied rest tail)

  -- For each call, exit and raise that a function passes it has paid a unit.
  pub function_earned : (frame : ℕ) (f : FunctionTree) (arguments : List Value) (below : ℕ) (m : Memory) →
      Earned 0 (function_does c turns frame f arguments below m)
  function_earned frame f arguments below m =
      let here : Here = record { names = bound (map scoped_parameter f.params) arguments []; below = below; frame = frame; tries = 0 } in
      let body : Covers 0 (does c turns f.body true here m) = covers_does f.body true here m in
      deepens (earned_more 0 (omega arith) (body.holds 0 Ends (λ l. ends)))
