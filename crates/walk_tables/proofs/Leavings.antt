-- Where an exit and a raise lead.
use Rattle.std.proofs.Common.{◌≡◌, ℕ, zero, suc, ◌+◌, ◌^◌, ◌<◌, ◌≤◌, Bool, true, false, not, ◌&&◌, cond, List, [], ◌∷◌, ◌++◌, length, Option, Some, None, refl, sym, ap, ◌∙◌, subst, arith}
use Rattle.std.proofs.lemmas.Option.{same_Some}
use Rattle.cmm_tree.specs.Tree.{LabelTree, Parameter, same_label, is_bare}
use Rattle.cmm_tree.specs.View.{expr_view, label_view, params_view}
use Rattle.cmm_tree.specs.declared.expr.Handler.{Handler}
use Rattle.cmm_tree.specs.Rows.{handlers_of}
use Rattle.walk_tables.specs.Cells.{item_at, scope_at, tasks_at, tasks_in, handler_tasks}
use Rattle.walk_tables.specs.Leaving.{IsRow, HasRow, rest_in, own_handler, exit_tasks, raise_rest}
use Rattle.walk_tables.specs.Sound.{IsBelow, HandlersAt, IsItemHeld, AreItemsSound, LeadsTo}
use Rattle.walk_tables.specs.Walks.{Slotted, Task, handler_for, or_else, behind_exit, behind_raise, parameters_bound, handling}
use Rattle.walk_tables.specs.declared.items.Item.{Item}
use Rattle.walk_tables.specs.declared.items.Item.TheVariants as item
use Rattle.walk_tables.proofs.Arena.{item-past, tasks-past}
use Rattle.walk_tables.proofs.Pushed.{tasks-are}

-- ---- handlers

pub leads-as : (n : ℕ) (t : ℕ → List Task) (o : Option ℕ) (a b : Option (List Task)) → a ≡ b → LeadsTo n t o a → LeadsTo n t o b
leads-as n t o a b e h =
    let P : Option (List Task) → Type 0 = λ x. LeadsTo n t o x in
    subst P e h

pub find-here : (label : LabelTree) (s : List Slotted) (slot : ℕ) (in_handler : Bool) (all : List Handler) (behind : List Task) (n : ℕ) (t : ℕ → List Task) (first : ℕ) (hs : List Handler) (h : Handler) (others : List Handler)
    → hs ≡ h ∷ others
    → (same_label label (label_view h.label) && not (is_bare label && in_handler)) ≡ true
    → HandlersAt n t first s slot all behind hs
    → LeadsTo n t (Some first) (handler_for label s slot in_handler (handlers_of all) behind (handlers_of hs))
find-here label s slot in_handler all behind n t first hs h others e test at =
    let P : List Handler → Type 0 = λ l. HandlersAt n t first s slot all behind l in
    let a : (first < n) × (t first ≡ handler_tasks s slot all behind h) × HandlersAt n t (suc first) s slot all behind others = subst P e at in (
      a.0,
      ap (λ (l : List Handler). handler_for label s slot in_handler (handlers_of all) behind (handlers_of l)) e
          ∙ ap (λ (b : Bool). cond b (Some (handler_tasks s slot all behind h)) (handler_for label s slot in_handler (handlers_of all) behind (handlers_of others))) test
          ∙ ap (λ (l : List Task). Some l) (sym a.1),
    )

pub find-later : (label : LabelTree) (s : List Slotted) (slot : ℕ) (in_handler : Bool) (all : List Handler) (behind : List Task) (n : ℕ) (t : ℕ → List Task) (first next : ℕ) (hs : List Handler) (h : Handler) (others : List Handler) (found : Option ℕ)
    → hs ≡ h ∷ others
    → next ≡ suc first
    → (same_label label (label_view h.label) && not (is_bare label && in_handler)) ≡ false
    → HandlersAt n t first s slot all behind hs
    → (HandlersAt n t next s slot all behind others → LeadsTo n t found (handler_for label s slot in_handler (handlers_of all) behind (handlers_of others)))
    → LeadsTo n t found (handler_for label s slot in_handler (handlers_of all) behind (handlers_of hs))
find-later label s slot in_handler all behind n t first next hs h others found e q test at k =
    let P : List Handler → Type 0 = λ l. HandlersAt n t first s slot all behind l in
    let a : (first < n) × (t first ≡ handler_tasks s slot all behind h) × HandlersAt n t (suc first) s slot all behind others = subst P e at in
    let R : ℕ → Type 0 = λ m. HandlersAt n t m s slot all behind others in
    leads-as n t found _ _
    (sym
    (ap (λ (l : List Handler). handler_for label s slot in_handler (handlers_of all) behind (handlers_of l)) e
    ∙ ap (λ (b : Bool). cond b (Some (handler_tasks s slot all behind h)) (handler_for label s slot in_handler (handlers_of all) behind (handlers_of others))) test))
    (k (subst R (sym q) a.2))

-- ---- the numbers of the cells in a row

row-below : (n : ℕ) (t : ℕ → List Task) (first : ℕ) (s : List Slotted) (slot : ℕ) (all : List Handler) (behind : List Task) (hs : List Handler)
    → HandlersAt n t first s slot all behind hs
    → (k : ℕ) → k < length hs → first + k < n
row-below n t first s slot all behind [] h k within = absurd (omega arith)
row-below n t first s slot all behind (x ∷ hs) h zero within = omega (arith, h.0)
row-below n t first s slot all behind (x ∷ hs) h (suc k) within = omega (arith, row-below n t (suc first) s slot all behind hs h.2 k (omega arith))

is-row : (n : ℕ) (t : ℕ → List Task) (first : ℕ) (s : List Slotted) (slot : ℕ) (all : List Handler) (behind : List Task) (hs : List Handler)
    → n < 2 ^ 64
    → HandlersAt n t first s slot all behind hs
    → IsRow first hs
is-row n t first s slot all behind hs fits h = λ k within. omega (arith, row-below n t first s slot all behind hs h k within)

pub held-row : (n : ℕ) (s : ℕ → List Slotted) (t : ℕ → List Task) (x : Item) → n < 2 ^ 64 → IsItemHeld n s t x → HasRow x
held-row n s t item.Empty fits h = tt
held-row n s t (item.Named name type mutable slot outer) fits h = tt
held-row n s t (item.Does action rest) fits h = tt
held-row n s t (item.Evaluates scope slot expr rest) fits h = tt
held-row n s t (item.Enters scope slot bindings body rest) fits h = tt
held-row n s t (item.Either scope slot on_true on_false rest) fits h = tt
held-row n s t (item.OneOf scope slot cases rest) fits h = tt
held-row n s t (item.MayRaise rest) fits h = tt
held-row n s t (item.Raises rest) fits h = tt
held-row n s t (item.Exits label rest) fits h = tt
held-row n s t (item.Catches scope slot in_handler handlers first rest) fits h = is-row n t first (s scope) slot handlers.now (t rest) handlers.now fits h.1
held-row n s t (item.Handler scope slot handlers own first rest) fits h = is-row n t first (s scope) slot handlers.now (t rest) handlers.now fits h.1
held-row n s t (item.Handles scope slot name_at name handler entry rest) fits h = tt

pub row-first : (first : ℕ) (hs : List Handler) → IsRow first hs → 1 ≤ length hs → first + 1 < 2 ^ 64
row-first first hs within some = omega (arith, within 0 (omega arith))

pub row-next : (first : ℕ) (hs : List Handler) (h : Handler) (others : List Handler) → hs ≡ h ∷ others → IsRow first hs → IsRow (first + 1) others
row-next first hs h others e numbered = λ k within. omega (arith, numbered (suc k) (omega (arith, ap length e)))

pub own-as : (label : LabelTree) (n : ℕ) (s : ℕ → List Slotted) (t : ℕ → List Task) (x y : Item) (found : Option ℕ) → x ≡ y
    → (IsItemHeld n s t y → LeadsTo n t found (own_handler label s t y)) → IsItemHeld n s t x → LeadsTo n t found (own_handler label s t x)
own-as label n s t x y found e k =
    let P : Item → Type 0 = λ z. IsItemHeld n s t z → LeadsTo n t found (own_handler label s t z) in
    subst P (sym e) k

-- ---- an exit

exit-params : (label : LabelTree) (slot : ℕ) (params : List Parameter) (l : List Task) → behind_exit label (parameters_bound slot params ++ l) ≡ behind_exit label l
exit-params label slot [] l = refl
exit-params label slot (p ∷ params) l = exit-params label (suc slot) params l

exit-step : (label : LabelTree) (s : ℕ → List Slotted) (t : ℕ → List Task) (x : Item)
    → behind_exit label (tasks_in s t x) ≡ or_else (own_handler label s t x) (exit_tasks label t (rest_in x))
exit-step label s t item.Empty = refl
exit-step label s t (item.Named name type mutable slot outer) = refl
exit-step label s t (item.Does action rest) = refl
exit-step label s t (item.Evaluates scope slot expr rest) = refl
exit-step label s t (item.Enters scope slot bindings body rest) = refl
exit-step label s t (item.Either scope slot on_true on_false rest) = refl
exit-step label s t (item.OneOf scope slot cases rest) = refl
exit-step label s t (item.MayRaise rest) = refl
exit-step label s t (item.Raises rest) = refl
exit-step label s t (item.Exits label' rest) = refl
exit-step label s t (item.Catches scope slot in_handler handlers first rest) = refl
exit-step label s t (item.Handler scope slot handlers own first rest) = exit-params label slot (params_view own.now.params.items) _
exit-step label s t (item.Handles scope slot name_at name handler entry rest) = refl

exit-at : (label : LabelTree) (items : List Item) (c : ℕ) (x : Item) → AreItemsSound items → item_at items c ≡ Some x
    → behind_exit label (tasks_at items c) ≡ or_else (own_handler label (scope_at items) (tasks_at items) x) (exit_tasks label (tasks_at items) (rest_in x))
exit-at label items c x sound e = ap (λ (l : List Task). behind_exit label l) (tasks-are items c x sound e) ∙ exit-step label (scope_at items) (tasks_at items) x

pub exit-past : (label : LabelTree) (items : List Item) (c : ℕ) → item_at items c ≡ None → behind_exit label (tasks_at items c) ≡ None
exit-past label items c e = ap (λ (l : List Task). behind_exit label l) (tasks-past items c (item-past items c e))

pub exit-own : (label : LabelTree) (items : List Item) (c : ℕ) (x : Item) (cell : ℕ) → AreItemsSound items → item_at items c ≡ Some x
    → LeadsTo (length items) (tasks_at items) (Some cell) (own_handler label (scope_at items) (tasks_at items) x)
    → LeadsTo (length items) (tasks_at items) (Some cell) (behind_exit label (tasks_at items c))
exit-own label items c x cell sound e h = (h.0, exit-at label items c x sound e ∙ ap (λ (o : Option (List Task)). or_else o (exit_tasks label (tasks_at items) (rest_in x))) h.1)

pub exit-further : (label : LabelTree) (items : List Item) (c : ℕ) (x : Item) (found : Option ℕ) → AreItemsSound items → item_at items c ≡ Some x
    → own_handler label (scope_at items) (tasks_at items) x ≡ None
    → LeadsTo (length items) (tasks_at items) found (exit_tasks label (tasks_at items) (rest_in x))
    → LeadsTo (length items) (tasks_at items) found (behind_exit label (tasks_at items c))
exit-further label items c x found sound e none h =
    leads-as (length items) (tasks_at items) found _ _ (sym (exit-at label items c x sound e ∙ ap (λ (o : Option (List Task)). or_else o (exit_tasks label (tasks_at items) (rest_in x))) none)) h

below-at : (c rest' rest : ℕ) → rest' < c → ◌≡◌ {A = Option ℕ} (Some rest') (Some rest) → rest < c
below-at c rest' rest b e =
    let P : ℕ → Type 0 = λ n. n < c in
    subst P (same_Some rest' rest e) b

-- the cell after comes before
rest-below : (c : ℕ) (x : Item) (rest : ℕ) → IsBelow c x → rest_in x ≡ Some rest → rest < c
rest-below c item.Empty rest b e = cc
rest-below c (item.Named name type mutable slot outer) rest b e = cc
rest-below c (item.Does action rest') rest b e = below-at c rest' rest b e
rest-below c (item.Evaluates scope slot expr rest') rest b e = below-at c rest' rest b.1 e
rest-below c (item.Enters scope slot bindings body rest') rest b e = below-at c rest' rest b.1 e
rest-below c (item.Either scope slot on_true on_false rest') rest b e = below-at c rest' rest b.1 e
rest-below c (item.OneOf scope slot cases rest') rest b e = below-at c rest' rest b.1 e
rest-below c (item.MayRaise rest') rest b e = below-at c rest' rest b e
rest-below c (item.Raises rest') rest b e = below-at c rest' rest b e
rest-below c (item.Exits label rest') rest b e = below-at c rest' rest b e
rest-below c (item.Catches scope slot in_handler handlers first rest') rest b e = below-at c rest' rest b.1 e
rest-below c (item.Handler scope slot handlers own first rest') rest b e = below-at c rest' rest b.1 e
rest-below c (item.Handles scope slot name_at name handler entry rest') rest b e = below-at c rest' rest b.1 e

pub rest-within : (items : List Item) (c : ℕ) (x : Item) (rest : ℕ) → AreItemsSound items → item_at items c ≡ Some x → rest_in x ≡ Some rest → rest < c
rest-within items c x rest sound e r = rest-below c x rest (sound.below c x e) r

-- ---- a raise

raise-params : (slot : ℕ) (params : List Parameter) (l : List Task) → behind_raise (parameters_bound slot params ++ l) ≡ behind_raise l
raise-params slot [] l = refl
raise-params slot (p ∷ params) l = raise-params (suc slot) params l

raise-step : (s : ℕ → List Slotted) (t : ℕ → List Task) (x : Item)
    → ((scope slot name_at : ℕ) (name handler : _) (entry rest : ℕ) → x ≡ item.Handles scope slot name_at name handler entry rest → ⊥)
    → behind_raise (tasks_in s t x) ≡ raise_rest t (rest_in x)
raise-step s t item.Empty h = refl
raise-step s t (item.Named name type mutable slot outer) h = refl
raise-step s t (item.Does action rest) h = refl
raise-step s t (item.Evaluates scope slot expr rest) h = refl
raise-step s t (item.Enters scope slot bindings body rest) h = refl
raise-step s t (item.Either scope slot on_true on_false rest) h = refl
raise-step s t (item.OneOf scope slot cases rest) h = refl
raise-step s t (item.MayRaise rest) h = refl
raise-step s t (item.Raises rest) h = refl
raise-step s t (item.Exits label rest) h = refl
raise-step s t (item.Catches scope slot in_handler handlers first rest) h = refl
raise-step s t (item.Handler scope slot handlers own first rest) h = raise-params slot (params_view own.now.params.items) _
raise-step s t (item.Handles scope slot name_at name handler entry rest) h = absurd (h scope slot name_at name handler entry rest refl)

pub raise-past : (items : List Item) (c : ℕ) → item_at items c ≡ None → behind_raise (tasks_at items c) ≡ None
raise-past items c e = ap (λ (l : List Task). behind_raise l) (tasks-past items c (item-past items c e))

pub raise-further : (items : List Item) (c : ℕ) (x : Item) (found : Option ℕ) → AreItemsSound items → item_at items c ≡ Some x
    → ((scope slot name_at : ℕ) (name handler : _) (entry rest : ℕ) → x ≡ item.Handles scope slot name_at name handler entry rest → ⊥)
    → LeadsTo (length items) (tasks_at items) found (raise_rest (tasks_at items) (rest_in x))
    → LeadsTo (length items) (tasks_at items) found (behind_raise (tasks_at items c))
raise-further items c x found sound e not_handles h =
    leads-as (length items) (tasks_at items) found _ _ (sym (ap (λ (l : List Task). behind_raise l) (tasks-are items c x sound e) ∙ raise-step (scope_at items) (tasks_at items) x not_handles)) h

pub raise-own : (items : List Item) (c scope slot name_at : ℕ) (name handler : _) (entry rest : ℕ) → AreItemsSound items → item_at items c ≡ Some (item.Handles scope slot name_at name handler entry rest)
    → LeadsTo (length items) (tasks_at items) (Some entry) (behind_raise (tasks_at items c))
raise-own items c scope slot name_at name handler entry rest sound e =
    let h : (entry < length items) × (tasks_at items entry ≡ handling (scope_at items scope) slot name_at name.now (expr_view handler.now) ++ tasks_at items rest) = sound.held c (item.Handles scope slot name_at name handler entry rest) e in
    (h.0, ap (λ (l : List Task). behind_raise l) (tasks-are items c (item.Handles scope slot name_at name handler entry rest) sound e) ∙ ap (λ (l : List Task). Some l) (sym h.1))

pub leads-found : (n : ℕ) (t : ℕ → List Task) (o o' : Option ℕ) (a : Option (List Task)) → o ≡ o' → LeadsTo n t o a → LeadsTo n t o' a
leads-found n t o o' a e h =
    let P : Option ℕ → Type 0 = λ x. LeadsTo n t x a in
    subst P e h
