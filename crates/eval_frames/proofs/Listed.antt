-- Rows of the tree, and the lists that the code goes through.
use Rattle.std.proofs.Common.{◌≡◌, ◌∙◌, ℕ, ◌+◌, ◌<◌, ◌≤◌, ◌==◌, Bool, true, false, cond, List, [], ◌∷◌, Option, Some, None, map, option_map, drop, length, get_or, slice_get, refl, ap, sym, subst, Vec, Box, Global}
use mathlib.Core.Former.{Count}
use Rattle.std.proofs.lemmas.List.{drop_all}
use Rattle.bs_words.specs.declared.values.Value.{Value}
use Rattle.cmm_tree.specs.Tree.{LabelTree}
use Rattle.cmm_tree.specs.View.{index_view}
use Rattle.cmm_tree.proofs.Rows.{row_in, bindings_in, handlers_in}
use Rattle.cmm_tree.specs.declared.expr.Expr.{Expr}
use Rattle.cmm_tree.specs.declared.expr.Binding.{Binding}
use Rattle.cmm_tree.specs.declared.expr.Case.{Case}
use Rattle.cmm_tree.specs.declared.expr.CaseIndex.{CaseIndex}
use Rattle.cmm_tree.specs.declared.expr.Handler.{Handler}
use Rattle.cmm_tree.specs.declared.expr.Form as form
use Rattle.cmm_meaning.specs.State.{World, Here}
use Rattle.cmm_meaning.specs.Evaluation.{Body, Evaluated, Evaluation, Gives, Exits, Raises, Stops, Surroundings, and_then, with_value, tested, with_bound}
use Rattle.cmm_meaning.specs.Choices.{Chosen, is_named, last_naming, first_case, ready_for}
use Rattle.eval_frames.specs.Held.{inside, in_order_held, bindings_held, choices_held, readied_held}
use Rattle.eval_frames.specs.Filled.{evaluated_expression, elements_from, scoped_binding, bindings_from, first_bound, body_of, case_ready, cases_ready, handler_ready, handlers_ready, ready_handlers}
use Rattle.bs_words.proofs.Lists.{drop_step}

-- what goes on alike gives the same
pub then_same : {A B : Type 0} (e : Evaluated A) (f g : A → Here → World → Evaluated B) → ((a : A) (h : Here) (w : World) → f a h w ≡ g a h w) →
    and_then e f ≡ and_then e g
then_same (Gives a h w) f g p = p a h w
then_same (Exits label values h w) f g p = refl
then_same (Raises v h w) f g p = refl
then_same (Stops why w) f g p = refl

pub value_same : {B : Type 0} (e : Evaluation) (f g : Value → Here → World → Evaluated B) → ((v : Value) (h : Here) (w : World) → f v h w ≡ g v h w) →
    with_value e f ≡ with_value e g
value_same (Gives (Some v) h w) f g p = p v h w
value_same (Gives None h w) f g p = refl
value_same (Exits label values h w) f g p = refl
value_same (Raises v h w) f g p = refl
value_same (Stops why w) f g p = refl

-- the item at an index, and those after it

-- ---- elements and bindings

pub in_order_is : (s : Surroundings) (n : Count) (k : form.Row_of-Expr n) (tail : Bool) (h : Here) (w : World) →
    in_order_held s k tail h w ≡ elements_from s (form.items-the_row-Expr n k) tail h w
in_order_is s n form.end_of-Expr tail h w = refl
in_order_is s n (form.more_of-Expr at type f form.end_of-Expr) tail h w = refl
in_order_is s n (form.more_of-Expr at type f (form.more_of-Expr next next_type g rest)) tail h w =
    then_same (evaluated_expression s (record { at = at; ty = type; form = f }) false h w)
    (λ _ h w. in_order_held s (form.more_of-Expr next next_type g rest) tail h w)
    (λ _ h w. elements_from s (form.items-the_row-Expr _ (form.more_of-Expr next next_type g rest)) tail h w)
    (λ _ h w. in_order_is s _ (form.more_of-Expr next next_type g rest) tail h w)

pub sequence_is : (s : Surroundings) (v : Vec Expr Global) (tail : Bool) (h : Here) (w : World) →
    inside s (form.Seq v) tail h w ≡ elements_from s v.items tail h w
sequence_is s v tail h w =
    in_order_is s (row_in (form.Seq v)).0 (row_in (form.Seq v)).1 tail h w
    ∙ ap (λ l. elements_from s l tail h w) (form.items_hidden-the_row-Expr-0 v)

-- an element that others follow, and then those
pub elements_first : (s : Surroundings) (elements : List Expr) (e : Expr) (rest : List Expr) (tail : Bool) → elements ≡ e ∷ rest → (rest ≡ [] → ⊥) →
    (h : Here) (w : World) → and_then (evaluated_expression s e false h w) (λ _ h w. elements_from s rest tail h w) ≡ elements_from s elements tail h w
elements_first s elements e [] tail is some h w = absurd (some refl)
elements_first s elements e (next ∷ rest) tail is some h w = ap (λ l. elements_from s l tail h w) (sym is)

pub bindings_is : (s : Surroundings) (n : Count) (k : form.Row_of-Binding n) (h : Here) (w : World) →
    bindings_held s k h w ≡ bindings_from s (form.items-the_row-Binding n k) h w
bindings_is s n form.end_of-Binding h w = refl
bindings_is s n (form.more_of-Binding at name declared value_at type f rest) h w =
    let b : Binding = record { at = at; name = name; declared = declared; value = record { at = value_at; ty = type; form = f } } in
    value_same (evaluated_expression s b.value false h w)
    (λ v h w. tested s.end (scoped_binding b).type v w (bindings_held s rest (with_bound (scoped_binding b ∷ []) (v ∷ []) h) w))
    (λ v h w. tested s.end (scoped_binding b).type v w (bindings_from s (form.items-the_row-Binding _ rest) (with_bound (scoped_binding b ∷ []) (v ∷ []) h) w))
    (λ v h w. ap (tested s.end (scoped_binding b).type v w) (bindings_is s _ rest (with_bound (scoped_binding b ∷ []) (v ∷ []) h) w))

-- the bindings of a let, and then its body
pub let_is : (s : Surroundings) (v : Vec Binding Global) (b : Box Expr Global) (tail : Bool) (h : Here) (w : World) →
    inside s (form.Let v b) tail h w
    ≡ and_then (bindings_from s v.items h w) (λ _ inner w. body_of s (form.Let v b) tail (length h.names) h.tries inner w)
let_is s v b tail h w =
    ap (λ e. and_then e (λ _ inner w. body_of s (form.Let v b) tail (length h.names) h.tries inner w))
    (bindings_is s (bindings_in (form.Let v b)).0 (bindings_in (form.Let v b)).1 h w ∙ ap (λ l. bindings_from s l h w) (form.items_hidden-the_row-Binding-1 v))

-- the value of the first binding, and then the others
pub bindings_first : (s : Surroundings) (bindings : List Binding) (b : Binding) (rest : List Binding) → bindings ≡ b ∷ rest → (h : Here) (w : World) →
    with_value (evaluated_expression s b.value false h w) (λ v h w. first_bound s bindings v h w) ≡ bindings_from s bindings h w
bindings_first s bindings b rest e h w =
    let P : List Binding → Type 0 =
    λ l. with_value (evaluated_expression s b.value false h w) (λ v h w. first_bound s l v h w) ≡ bindings_from s l h w in
    subst P (sym e) refl

-- ---- cases of a switch

pub choices_is : (s : Surroundings) (n : Count) (k : form.Row_of-Case n) (tail : Bool) →
    choices_held s k tail ≡ cases_ready s tail (form.items-the_row-Case n k)
choices_is s n form.end_of-Case tail = refl
choices_is s n (form.more_of-Case indexes at type f rest) tail =
    ap (λ l. case_ready s tail (record { indexes = indexes; body = record { at = at; ty = type; form = f } }) ∷ l) (choices_is s _ rest tail)

module _ (xs : List CaseIndex) (i : ℕ) (x : CaseIndex) (number : ℕ) (lt : i < length xs) (this : x ≡ get_or xs i x) where
  pub named_turn : is_named (map index_view (drop i xs)) number ≡ cond (x.index == number) true (is_named (map index_view (drop (i + 1) xs)) number)
  named_turn = ap (λ l. is_named (map index_view l) number) (drop_step xs i x lt this)

pub named_end : (xs : List CaseIndex) (i number : ℕ) → length xs ≤ i → is_named (map index_view (drop i xs)) number ≡ false
named_end xs i number le = ap (λ l. is_named (map index_view l) number) (drop_all i xs le)

pub first_is : (s : Surroundings) (tail : Bool) (xs : List Case) → option_map (case_ready s tail) (slice_get xs 0) ≡ first_case (cases_ready s tail xs)
first_is s tail [] = refl
first_is s tail (x ∷ xs) = refl

pub naming_turn : (s : Surroundings) (tail : Bool) (xs : List Case) (i : ℕ) (x : Case) (number : ℕ) (so_far : Option (Chosen Body)) → i < length xs → x ≡ get_or xs i x →
    last_naming (cases_ready s tail (drop i xs)) number so_far
    ≡ last_naming (cases_ready s tail (drop (i + 1) xs)) number (cond (is_named (map index_view x.indexes.items) number) (Some (case_ready s tail x)) so_far)
naming_turn s tail xs i x number so_far lt this = ap (λ l. last_naming (cases_ready s tail l) number so_far) (drop_step xs i x lt this)

pub naming_end : (s : Surroundings) (tail : Bool) (xs : List Case) (i number : ℕ) (so_far : Option (Chosen Body)) → length xs ≤ i →
    last_naming (cases_ready s tail (drop i xs)) number so_far ≡ so_far
naming_end s tail xs i number so_far le = ap (λ l. last_naming (cases_ready s tail l) number so_far) (drop_all i xs le)

-- ---- handlers of a catch

pub readied_is : (s : Surroundings) (n : Count) (k : form.Row_of-Handler n) (tail : Bool) →
    readied_held s k tail ≡ handlers_ready s tail (form.items-the_row-Handler n k)
readied_is s n form.end_of-Handler tail = refl
readied_is s n (form.more_of-Handler at label params body_at type f rest) tail =
    ap (λ l. handler_ready s tail (record { at = at; label = label; params = params; body = record { at = body_at; ty = type; form = f } }) ∷ l)
    (readied_is s _ rest tail)

pub handlers_is : (s : Surroundings) (b : Box Expr Global) (v : Vec Handler Global) (tail : Bool) →
    ready_handlers s (form.Catch b v) tail ≡ handlers_ready s tail v.items
handlers_is s b v tail =
    readied_is s (handlers_in (form.Catch b v)).0 (handlers_in (form.Catch b v)).1 tail ∙ ap (handlers_ready s tail) (form.items_hidden-the_row-Handler-3 v)

pub ready_turn : (s : Surroundings) (tail within : Bool) (label : LabelTree) (xs : List Handler) (i : ℕ) (x : Handler) → i < length xs → x ≡ get_or xs i x →
    ready_for within label (handlers_ready s tail (drop i xs)) ≡ ready_for within label (handlers_ready s tail (x ∷ drop (i + 1) xs))
ready_turn s tail within label xs i x lt this = ap (λ l. ready_for within label (handlers_ready s tail l)) (drop_step xs i x lt this)

pub ready_end : (s : Surroundings) (tail within : Bool) (label : LabelTree) (xs : List Handler) (i : ℕ) → length xs ≤ i →
    ready_for within label (handlers_ready s tail (drop i xs)) ≡ None
ready_end s tail within label xs i le = ap (λ l. ready_for within label (handlers_ready s tail l)) (drop_all i xs le)
