-- What a function does, played, is what its evaluation is: each form.
use Rattle.std.proofs.Common.{ℕ, ◌<◌, ◌≤◌, Bool, false, not, ◌&&◌, List, [], ◌∷◌, Option, Some, None, length, arith, le_of_lt}
use Rattle.std.specs.Prelude.{nat_lt}
use Rattle.bs_words.specs.Memory.{sizes, loaded, stored, allocated, next_block}
use Rattle.bs_words.specs.Operators.{apply, condition_of, word_in}
use Rattle.bs_words.specs.declared.types.Ty.TheVariants as ty
use Rattle.bs_words.specs.declared.values.Value.{Value}
use Rattle.bs_words.specs.declared.values.Value.TheVariants as value
use Rattle.cmm_tree.specs.Tree.{LabelTree, Expression, Integer, Pointer, Symbol, Name, Nothing, Float, Let, Assign, Operator, Load, Store, Alloc, App, Extcall, Checkbound, Raise, Seq, If, Switch, Catch, Exit, Try, Expressions, NoMore, More, Bindings, NoBinding, Bind, Cases, NoCase, Choose, Handlers, NoHandler, Handle, same_label, is_bare}
use Rattle.cmm_types.specs.Light.{is_light_address}
use Rattle.cmm_types.specs.Types.{Scoped, type_of, type_named, type_bound, is_mutable}
use Rattle.cmm_meaning.specs.State.{World, Here, taken, within_try, scope, value_of, deepened}
use Rattle.cmm_meaning.specs.Evaluation.{Surroundings, is_left_first, first_of, rest_of, row_of_call, with_bound, Body, looked_up, evaluated, waiting, filled, entering, in_order, choices, readied}
use Rattle.cmm_meaning.specs.Choices.{Chosen, ready_for, is_named, last_naming, first_case}
use Rattle.meaning_laws.specs.Interaction as part
use Rattle.cmm_meaning.specs.Setting.{setting_of}
use Rattle.meaning_laws.specs.Interaction.{Operand}
use Rattle.meaning_fuel.proofs.Depth.{Spending}
use Rattle.meaning_laws.proofs.Agreement.{Agrees, agree_gives, agree_leaves, agree_exits, agree_raises, agree_fails, agree_jumps, agree_deepens, agree_and_then, agree_with_value, agree_proper, agree_cond, agree_tested, agree_node, agree_both, agree_unless_light, agree_now_or_before, agree_calls_out, agree_applied, agree_back, agree_tried}
use Rattle.meaning_laws.proofs.AgreementChoices.{OneReady, neither_ready, both_ready, first_found, agree_caught, OneChosen, neither_chosen, both_chosen, last_chosen, agree_chosen}

agree_looked_up : {s : Surroundings} {n : ℕ} (v : Option Value) (h : Here) (w : World) → w.left < n → Agrees s n (λ m. part.looked_up v h m) w (looked_up v h w)
agree_looked_up (Some v) h w few = agree_gives few
agree_looked_up None h w few = agree_fails

module _ (s : Surroundings) (spending : Spending s) (turns : ℕ) where
  mutual
    pub agreed : (e : Expression) (tail : Bool) (n : ℕ) → n ≤ turns → (h : Here) (w : World) → w.left ≤ n →
        Agrees s n (λ m. part.does (setting_of s) turns e tail h m) w (evaluated s e tail h w)
    agreed (Integer at k) tail n most h w enough =
        agree_node (Integer at k) h w enough (λ w few.
        agree_gives {a = Some (value.Word k)} {h = h} few)
    agreed (Pointer at k) tail n most h w enough =
        agree_node (Pointer at k) h w enough (λ w few.
        agree_gives {a = Some (value.Word k)} {h = h} few)
    agreed (Symbol at name) tail n most h w enough =
        agree_node (Symbol at name) h w enough (λ w few.
        agree_looked_up (s.symbol name) h w few)
    agreed (Name at x) tail n most h w enough =
        agree_node (Name at x) h w enough (λ w few.
        agree_looked_up (value_of h.names x) h w few)
    agreed (Nothing at) tail n most h w enough =
        agree_node (Nothing at) h w enough (λ w few.
        agree_gives {a = None} {h = h} few)
    agreed (Float at word_at operands) tail n most h w enough = agree_fails
    agreed (Let at bindings body) tail n most h w enough =
        agree_node (Let at bindings body) h w enough (λ w few.
        agree_and_then (agree_entering bindings n most h w few) (λ _ inner w few.
        agree_back _ _ (agreed body tail n most inner w (le_of_lt few))))
    agreed (Assign at name_at name e) tail n most h w enough =
        agree_node (Assign at name_at name e) h w enough (λ w few.
        agree_with_value (agreed e false n most h w (le_of_lt few)) (λ v h w few.
        agree_tested s.end (type_named (scope h) name) v (agree_gives few)))
    agreed (Operator at op left right) tail n most h w enough =
        agree_node (Operator at op left right) h w enough (λ w few.
        agree_both turns (is_left_first (scope h) left right) h w most few (agreed left false) (agreed right false) (λ a b h w few.
        agree_proper (λ m. apply op (sizes m) a b) (λ v. agree_gives few)))
    agreed (Load at chunk address) tail n most h w enough =
        agree_node (Load at chunk address) h w enough (λ w few.
        agree_with_value (agreed address false n most h w (le_of_lt few)) (λ a h w few.
        agree_proper (λ m. loaded chunk m a) (λ v. agree_gives few)))
    agreed (Store at chunk address e) tail n most h w enough =
        agree_node (Store at chunk address e) h w enough (λ w few.
        agree_both turns (is_left_first (scope h) address e) h w most few (agreed address false) (agreed e false) (λ a v h w few.
        agree_leaves {B = Option Value} (λ m. None) h (λ m. stored chunk m a v) few))
    agreed (Alloc at header_at header operands) tail n most h w enough =
        agree_node (Alloc at header_at header operands) h w enough (λ w few.
        agree_and_then (agree_waiting operands n most h w few) (λ before h w few.
        agree_and_then (agree_filled operands before n most h w few) (λ values h w few.
        agree_leaves (λ m. Some (next_block m)) h (λ m. allocated m header values) few)))
    agreed (App at callee arguments result result_at) tail n most h w enough =
        agree_node (App at callee arguments result result_at) h w enough (λ w few.
        agree_and_then (agree_waiting arguments n most h w few) (λ before h w few.
        agree_unless_light turns (is_light_address (scope h) callee) h w most few (agreed callee false) (λ f h w few.
        agree_and_then (agree_filled arguments before n most h w few) (λ values h w few.
        agree_now_or_before turns f h w most few (agreed callee false) (λ f h w few. agree_applied spending f values result tail h w few)))))
    agreed (Extcall at frame name arguments result result_at) tail n most h w enough =
        agree_node (Extcall at frame name arguments result result_at) h w enough (λ w few.
        agree_and_then (agree_waiting arguments n most h w few) (λ before h w few.
        agree_and_then (agree_filled arguments before n most h w few) (λ values h w few.
        agree_calls_out spending (row_of_call (scope h) name arguments result) frame values h w few)))
    agreed (Checkbound at bound index) tail n most h w enough =
        agree_node (Checkbound at bound index) h w enough (λ w few.
        agree_both turns (is_left_first (scope h) bound index) h w most few (agreed bound false) (agreed index false) (λ a b h w few.
        agree_proper (λ m. word_in a) (λ bound. agree_proper (λ m. word_in b) (λ index.
        agree_cond (nat_lt index bound) (agree_gives few) (agree_jumps (agree_raises few))))))
    agreed (Raise at e) tail n most h w enough =
        agree_node (Raise at e) h w enough (λ w few.
        agree_with_value (agreed e false n most h w (le_of_lt few)) (λ v h w few.
        agree_tested s.end ty.Val v (agree_jumps (agree_raises few))))
    agreed (Seq at elements) tail n most h w enough =
        agree_node (Seq at elements) h w enough (λ w few.
        agree_in_order elements tail n most h w few)
    agreed (If at condition on_true on_false) tail n most h w enough =
        agree_node (If at condition on_true on_false) h w enough (λ w few.
        agree_with_value (agreed condition false n most h w (le_of_lt few)) (λ v h w few.
        agree_proper (λ m. condition_of (sizes m) v) (λ holds.
        agree_cond holds (agreed on_true tail n most h w (le_of_lt few)) (agreed on_false tail n most h w (le_of_lt few)))))
    agreed (Switch at size_at size selector cases) tail n most h w enough =
        agree_node (Switch at size_at size selector cases) h w enough (λ w few.
        agree_with_value (agreed selector false n most h w (le_of_lt few)) (λ v h w few.
        agree_proper (λ m. word_in v) (λ k.
        agree_cond (nat_lt k size) (agree_chosen (one_last cases tail k (one_first cases tail)) most h w few) agree_fails)))
    agreed (Catch at body handlers) tail n most h w enough =
        agree_node (Catch at body handlers) h w enough (λ w few.
        agree_caught s.end (length h.names) h.tries _ _ (one_handler handlers tail) (le_of_lt few) (omega arith)
        (agreed body tail w.left (omega arith) h w (omega arith)))
    agreed (Exit at label_at label arguments) tail n most h w enough =
        agree_node (Exit at label_at label arguments) h w enough (λ w few.
        agree_and_then (agree_waiting arguments n most h w few) (λ before h w few.
        agree_and_then (agree_filled arguments before n most h w few) (λ values h w few. agree_jumps (agree_exits few))))
    agreed (Try at body name_at name handler) tail n most h w enough =
        agree_node (Try at body name_at name handler) h w enough (λ w few.
        let raised : Scoped = record { name = name; type = ty.Val; mutable = false } in
        agree_tried (length h.names) h.tries
        (agree_deepens (agreed body false n most (within_try h) (deepened (taken (within_try h)) w) (le_of_lt few)))
        (λ v inner w few. agree_back (length inner.names) inner.tries (agreed handler tail n most (with_bound (raised ∷ []) (v ∷ []) inner) w (le_of_lt few))))

    agree_waiting : (row : Expressions) (n : ℕ) → n ≤ turns → (h : Here) (w : World) → w.left < n →
        Agrees s n (λ m. part.waiting (setting_of s) turns row h m) w (waiting s row h w)
    agree_waiting NoMore n most h w few = agree_gives few
    agree_waiting (More e rest) n most h w few =
        agree_and_then (agree_waiting rest n most h w few) (λ values h w few.
        agree_unless_light turns (is_light_address (scope h) e) h w most few (agreed e false) (λ v h w few. agree_gives few))

    agree_filled : (row : Expressions) (before : List (Option Value)) (n : ℕ) → n ≤ turns → (h : Here) (w : World) → w.left < n →
        Agrees s n (λ m. part.filled (setting_of s) turns row before h m) w (filled s row before h w)
    agree_filled NoMore before n most h w few = agree_gives few
    agree_filled (More e rest) before n most h w few =
        agree_and_then (agree_filled rest (rest_of before) n most h w few) (λ values h w few.
        agree_now_or_before turns (first_of before) h w most few (agreed e false) (λ v h w few. agree_gives few))

    agree_entering : (bindings : Bindings) (n : ℕ) → n ≤ turns → (h : Here) (w : World) → w.left < n →
        Agrees s n (λ m. part.entering (setting_of s) turns bindings h m) w (entering s bindings h w)
    agree_entering NoBinding n most h w few = agree_gives few
    agree_entering (Bind at name declared e rest) n most h w few =
        agree_with_value (agreed e false n most h w (le_of_lt few)) (λ v h w few.
        let scoped : Scoped = record { name = name; type = type_bound declared (type_of (scope h) e); mutable = is_mutable declared } in
        agree_tested s.end scoped.type v (agree_entering rest n most (with_bound (scoped ∷ []) (v ∷ []) h) w few))

    agree_in_order : (row : Expressions) (tail : Bool) (n : ℕ) → n ≤ turns → (h : Here) (w : World) → w.left < n →
        Agrees s n (λ m. part.in_order (setting_of s) turns row tail h m) w (in_order s row tail h w)
    agree_in_order NoMore tail n most h w few = agree_gives few
    agree_in_order (More e NoMore) tail n most h w few = agreed e tail n most h w (le_of_lt few)
    agree_in_order (More e rest) tail n most h w few =
        agree_and_then (agreed e false n most h w (le_of_lt few)) (λ _ h w few. agree_in_order rest tail n most h w few)

    one_last : (cases : Cases) (tail : Bool) (k : ℕ) {o : Option (Chosen Operand)} {e : Option (Chosen Body)} → OneChosen s turns o e →
        OneChosen s turns (last_naming (part.choices (setting_of s) turns cases tail) k o) (last_naming (choices s cases tail) k e)
    one_last NoCase tail k so_far = so_far
    one_last (Choose indexes body rest) tail k so_far =
        one_last rest tail k (last_chosen (is_named indexes k) (both_chosen indexes (agreed body tail)) so_far)

    one_first : (cases : Cases) (tail : Bool) →
        OneChosen s turns (first_case (part.choices (setting_of s) turns cases tail)) (first_case (choices s cases tail))
    one_first NoCase tail = neither_chosen
    one_first (Choose indexes body rest) tail = both_chosen indexes (agreed body tail)

    one_handler : (handlers : Handlers) (tail within : Bool) (label : LabelTree) →
        OneReady s turns (ready_for within label (part.readied (setting_of s) turns handlers tail)) (ready_for within label (readied s handlers tail))
    one_handler NoHandler tail within label = neither_ready
    one_handler (Handle at name params body rest) tail within label =
        first_found (same_label label name && not (is_bare label && within)) (both_ready name params (agreed body tail)) (one_handler rest tail within label)
