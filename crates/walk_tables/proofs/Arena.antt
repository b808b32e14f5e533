-- What cells stand for, where further ones are pushed.
use Rattle.std.proofs.Common.{◌≡◌, ℕ, zero, suc, ◌+◌, ◌<◌, ◌≤◌, ◌==◌, cond, Bool, true, false, List, [], ◌∷◌, ◌++◌, ◌⊎◌, length, reverse, get_or, take, drop, ◌-◌, Option, Some, None, inl, inr, refl, sym, ap, ◌∙◌, subst, arith}
use Rattle.std.specs.List.{slice_get}
use Rattle.std.proofs.lemmas.Bool.{cond-true, cond-false}
use Rattle.std.proofs.lemmas.Bool.Decides.{eqb_tells, nat_tests}
use Rattle.std.proofs.lemmas.List.{length-append, length-reverse, reverse-append, reverse-reverse, take_all}
use Rattle.std.proofs.lemmas.Option.{same_Some, none-some}
use Rattle.cmm_tree.specs.View.{expr_view, label_view, params_view}
use Rattle.cmm_tree.specs.declared.expr.Handler.{Handler}
use Rattle.cmm_types.specs.Annotated.{IsAnnotated}
use Rattle.cmm_types.specs.Lists.{AreBindingsAnnotated, AreCasesAnnotated, AreHandlersAnnotated}
use Rattle.cmm_tree.specs.Rows.{bindings_of, cases_of, handlers_of}
use Rattle.cmm_types.specs.Types.{with_bindings, with_parameters}
use Rattle.walk_tables.specs.Cells.{item_at, scope_at, tasks_at, scope_in, tasks_in, handler_tasks, event_of}
use Rattle.walk_tables.specs.Sound.{IsBelow, HandlersAt, IsItemHeld}
use Rattle.walk_tables.specs.Walks.{Slotted, Task, names, bodies, handling}
use Rattle.walk_tables.specs.Walks as walk
use Rattle.walk_tables.specs.declared.items.Item.{Item}
use Rattle.walk_tables.specs.declared.items.Item.TheVariants as item

pub plus-one : (n : ℕ) → n + 1 ≡ suc n
plus-one n = omega arith

-- ---- by number

below_not : (c n : ℕ) → c < n → (c == n) ≡ false
below_not c n h = grind (arith, nat_tests)

above_not : (c n : ℕ) → suc n ≤ c → (c == n) ≡ false
above_not c n h = grind (arith, nat_tests)

is_same : (c n : ℕ) → c ≡ n → (c == n) ≡ true
is_same c n h = grind (arith, nat_tests)

longer : (more old : List Item) (c : ℕ) → c < length old → c < length (more ++ old)
longer more old c h = omega (arith, length-append more old)

pub item-kept : (more old : List Item) (c : ℕ) → c < length old → item_at (more ++ old) c ≡ item_at old c
unfolding item_at
item-kept [] old c h = refl
item-kept (x ∷ more) old c h = cond-false (c == length (more ++ old)) (Some x) (item_at (more ++ old) c) (below_not c (length (more ++ old)) (longer more old c h)) ∙ item-kept more old c h

pub scope-kept : (more old : List Item) (c : ℕ) → c < length old → scope_at (more ++ old) c ≡ scope_at old c
unfolding scope_at
scope-kept [] old c h = refl
scope-kept (x ∷ more) old c h = cond-false (c == length (more ++ old)) (scope_in (scope_at (more ++ old)) x) (scope_at (more ++ old) c) (below_not c (length (more ++ old)) (longer more old c h)) ∙ scope-kept more old c h

pub tasks-kept : (more old : List Item) (c : ℕ) → c < length old → tasks_at (more ++ old) c ≡ tasks_at old c
unfolding tasks_at
tasks-kept [] old c h = refl
tasks-kept (x ∷ more) old c h = cond-false (c == length (more ++ old)) (tasks_in (scope_at (more ++ old)) (tasks_at (more ++ old)) x) (tasks_at (more ++ old) c) (below_not c (length (more ++ old)) (longer more old c h)) ∙ tasks-kept more old c h

pub tasks-past : (items : List Item) (c : ℕ) → length items ≤ c → tasks_at items c ≡ []
unfolding tasks_at
tasks-past [] c h = refl
tasks-past (x ∷ older) c h = cond-false (c == length older) (tasks_in (scope_at older) (tasks_at older) x) (tasks_at older c) (above_not c (length older) h) ∙ tasks-past older c (omega arith)

pub item-here : (x : Item) (old : List Item) (c : ℕ) → c ≡ length old → item_at (x ∷ old) c ≡ Some x
unfolding item_at
item-here x old c h = cond-true (c == length old) (Some x) (item_at old c) (is_same c (length old) h)

pub scope-here : (x : Item) (old : List Item) (c : ℕ) → c ≡ length old → scope_at (x ∷ old) c ≡ scope_in (scope_at old) x
unfolding scope_at
scope-here x old c h = cond-true (c == length old) (scope_in (scope_at old) x) (scope_at old c) (is_same c (length old) h)

pub tasks-here : (x : Item) (old : List Item) (c : ℕ) → c ≡ length old → tasks_at (x ∷ old) c ≡ tasks_in (scope_at old) (tasks_at old) x
unfolding tasks_at
tasks-here x old c h = cond-true (c == length old) (tasks_in (scope_at old) (tasks_at old) x) (tasks_at old c) (is_same c (length old) h)

-- the latest cell, or a former one
pub item-cases : (y : Item) (older : List Item) (c : ℕ) (x : Item) → item_at (y ∷ older) c ≡ Some x → ((c ≡ length older) × (y ≡ x)) ⊎ (item_at older c ≡ Some x)
unfolding item_at
item-cases y older c x h =
    elim (eqb_tells c (length older)) [
      | inl t ↦ inl (t.1, same_Some y x (sym (cond-true (c == length older) (Some y) (item_at older c) t.0) ∙ h))
      | inr f ↦ inr (sym (cond-false (c == length older) (Some y) (item_at older c) f.0) ∙ h)
    ]

item-none : (c : ℕ) (x : Item) → item_at [] c ≡ Some x → ⊥
unfolding item_at
item-none c x h = none-some x h

pub item-within : (items : List Item) (c : ℕ) (x : Item) → item_at items c ≡ Some x → c < length items
item-within [] c x h = absurd (item-none c x h)
item-within (y ∷ older) c x h =
    elim (item-cases y older c x h) [ inl t ↦ omega (arith, t.0) | inr e ↦ omega (arith, item-within older c x e) ]

pub item-past : (items : List Item) (c : ℕ) → item_at items c ≡ None → length items ≤ c
unfolding item_at
item-past [] c h = omega arith
item-past (y ∷ older) c h =
    elim (eqb_tells c (length older)) [
      | inl t ↦ absurd (none-some y (sym h ∙ cond-true (c == length older) (Some y) (item_at older c) t.0))
      | inr f ↦ let e : length older ≤ c = item-past older c (sym (cond-false (c == length older) (Some y) (item_at older c) f.0) ∙ h) in omega (arith, f.1)
    ]

-- ---- the cells of a vector

suc_same : (a b : ℕ) → (a == b) ≡ (suc a == suc b)
suc_same a b = grind (arith, nat_tests)

slice-last : (items : List Item) (x : Item) (c : ℕ) → slice_get (items ++ (x ∷ [])) c ≡ cond (c == length items) (Some x) (slice_get items c)
slice-last [] x zero = refl
slice-last [] x (suc c) = sym (cond-false (suc c == 0) (Some x) None (above_not (suc c) 0 (omega arith)))
slice-last (y ∷ items) x zero = sym (cond-false (0 == suc (length items)) (Some x) (Some y) (below_not 0 (suc (length items)) (omega arith)))
slice-last (y ∷ items) x (suc c) = slice-last items x c ∙ ap (λ (b : Bool). cond b (Some x) (slice_get items c)) (suc_same c (length items))

item-slice : (items : List Item) (c : ℕ) → item_at items c ≡ slice_get (reverse items) c
unfolding item_at
item-slice [] c = refl
item-slice (x ∷ older) c =
    ap (λ (o : Option Item). cond (c == length older) (Some x) o) (item-slice older c)
    ∙ ap (λ n. cond (c == n) (Some x) (slice_get (reverse older) c)) (sym (length-reverse older))
    ∙ sym (slice-last (reverse older) x c)
    ∙ ap (λ (l : List Item). slice_get l c) (sym (reverse-append (x ∷ []) older))

pub item-is : (items : List Item) (c : ℕ) → item_at (reverse items) c ≡ slice_get items c
item-is items c = item-slice (reverse items) c ∙ ap (λ (l : List Item). slice_get l c) (reverse-reverse items)

-- ---- cells name earlier ones

pub below-more : (c d : ℕ) (x : Item) → c ≤ d → IsBelow c x → IsBelow d x
below-more c d item.Empty le h = tt
below-more c d (item.Named name type mutable slot outer) le h = omega arith
below-more c d (item.Does action rest) le h = omega arith
below-more c d (item.Evaluates scope slot expr rest) le h = (omega arith, omega arith)
below-more c d (item.Enters scope slot bindings body rest) le h = (omega arith, omega arith)
below-more c d (item.Either scope slot on_true on_false rest) le h = (omega arith, omega arith)
below-more c d (item.OneOf scope slot cases rest) le h = (omega arith, omega arith)
below-more c d (item.MayRaise rest) le h = omega arith
below-more c d (item.Raises rest) le h = omega arith
below-more c d (item.Exits label rest) le h = omega arith
below-more c d (item.Catches scope slot in_handler handlers first rest) le h = (omega arith, omega arith)
below-more c d (item.Handler scope slot handlers own first rest) le h = (omega arith, omega arith)
below-more c d (item.Handles scope slot name_at name handler entry rest) le h = (omega arith, omega arith)

abbrev pub Same : {A : Type 0} → ℕ → (ℕ → A) → (ℕ → A) → Type 0
Same c f g = (r : ℕ) → r < c → f r ≡ g r

pub scope-same : (c : ℕ) (s s' : ℕ → List Slotted) (x : Item) → Same c s s' → IsBelow c x → scope_in s x ≡ scope_in s' x
scope-same c s s' item.Empty ss h = refl
scope-same c s s' (item.Named name type mutable slot outer) ss h = ap (λ (l : List Slotted). record { scoped = record { name = name.now; type = type; mutable = mutable }; slot = slot } ∷ l) (ss outer h)
scope-same c s s' (item.Does action rest) ss h = refl
scope-same c s s' (item.Evaluates scope slot expr rest) ss h = refl
scope-same c s s' (item.Enters scope slot bindings body rest) ss h = refl
scope-same c s s' (item.Either scope slot on_true on_false rest) ss h = refl
scope-same c s s' (item.OneOf scope slot cases rest) ss h = refl
scope-same c s s' (item.MayRaise rest) ss h = refl
scope-same c s s' (item.Raises rest) ss h = refl
scope-same c s s' (item.Exits label rest) ss h = refl
scope-same c s s' (item.Catches scope slot in_handler handlers first rest) ss h = refl
scope-same c s s' (item.Handler scope slot handlers own first rest) ss h = refl
scope-same c s s' (item.Handles scope slot name_at name handler entry rest) ss h = refl

pub two_args : {A B C : Type 0} (f : A → B → C) (a a' : A) (b b' : B) → a ≡ a' → b ≡ b' → f a b ≡ f a' b'
two_args f a a' b b' p q = ap (λ x. f x b) p ∙ ap (f a') q

pub tasks-same : (c : ℕ) (s s' : ℕ → List Slotted) (t t' : ℕ → List Task) (x : Item) → Same c s s' → Same c t t' → IsBelow c x → tasks_in s t x ≡ tasks_in s' t' x
tasks-same c s s' t t' item.Empty ss ts h = refl
tasks-same c s s' t t' (item.Named name type mutable slot outer) ss ts h = refl
tasks-same c s s' t t' (item.Does action rest) ss ts h = ap (λ (l : List Task). walk.Does (event_of action) ∷ l) (ts rest h)
tasks-same c s s' t t' (item.Evaluates scope slot expr rest) ss ts h =
    two_args (λ (n : List Slotted) (l : List Task). walk.Evaluates n slot (expr_view expr.now) ∷ l) (s scope) (s' scope) (t rest) (t' rest) (ss scope h.0) (ts rest h.1)
tasks-same c s s' t t' (item.Enters scope slot bindings body rest) ss ts h =
    two_args (λ (n : List Slotted) (l : List Task). walk.Enters n slot (bindings_of bindings.now) (expr_view body.now) ∷ l) (s scope) (s' scope) (t rest) (t' rest) (ss scope h.0) (ts rest h.1)
tasks-same c s s' t t' (item.Either scope slot on_true on_false rest) ss ts h =
    two_args (λ (n : List Slotted) (l : List Task). walk.OneOf n slot (expr_view on_true.now ∷ expr_view on_false.now ∷ []) ∷ l) (s scope) (s' scope) (t rest) (t' rest) (ss scope h.0) (ts rest h.1)
tasks-same c s s' t t' (item.OneOf scope slot cases rest) ss ts h =
    two_args (λ (n : List Slotted) (l : List Task). walk.OneOf n slot (bodies (cases_of cases.now)) ∷ l) (s scope) (s' scope) (t rest) (t' rest) (ss scope h.0) (ts rest h.1)
tasks-same c s s' t t' (item.MayRaise rest) ss ts h = ap (λ (l : List Task). walk.MayRaise ∷ l) (ts rest h)
tasks-same c s s' t t' (item.Raises rest) ss ts h = ap (λ (l : List Task). walk.Raises ∷ l) (ts rest h)
tasks-same c s s' t t' (item.Exits label rest) ss ts h = ap (λ (l : List Task). walk.Exits (label_view label.now) ∷ l) (ts rest h)
tasks-same c s s' t t' (item.Catches scope slot in_handler handlers first rest) ss ts h =
    two_args (λ (n : List Slotted) (l : List Task). walk.Catches n slot in_handler (handlers_of handlers.now) ∷ l) (s scope) (s' scope) (t rest) (t' rest) (ss scope h.0) (ts rest h.1)
tasks-same c s s' t t' (item.Handler scope slot handlers own first rest) ss ts h =
    two_args (λ (n : List Slotted) (l : List Task). handler_tasks n slot handlers.now l own.now) (s scope) (s' scope) (t rest) (t' rest) (ss scope h.0) (ts rest h.1)
tasks-same c s s' t t' (item.Handles scope slot name_at name handler entry rest) ss ts h =
    two_args (λ (n : List Slotted) (l : List Task). walk.Handles n slot name_at name.now (expr_view handler.now) ∷ l) (s scope) (s' scope) (t rest) (t' rest) (ss scope h.0) (ts rest h.1)

pub handlers-same : (n n' : ℕ) (t t' : ℕ → List Task) (cell : ℕ) (s : List Slotted) (slot : ℕ) (all : List Handler) (behind : List Task) (left : List Handler)
    → n ≤ n' → Same n t t' → HandlersAt n t cell s slot all behind left → HandlersAt n' t' cell s slot all behind left
handlers-same n n' t t' cell s slot all behind [] le ts h = tt
handlers-same n n' t t' cell s slot all behind (x ∷ left) le ts h =
    (omega (arith, h.0), sym (ts cell h.0) ∙ h.1, handlers-same n n' t t' (suc cell) s slot all behind left le ts h.2)

pub held-same : (n n' : ℕ) (s s' : ℕ → List Slotted) (t t' : ℕ → List Task) (x : Item) → n ≤ n' → Same n s s' → Same n t t' → IsBelow n x → IsItemHeld n s t x → IsItemHeld n' s' t' x
held-same n n' s s' t t' item.Empty le ss ts b h = tt
held-same n n' s s' t t' (item.Named name type mutable slot outer) le ss ts b h = tt
held-same n n' s s' t t' (item.Does action rest) le ss ts b h = tt
held-same n n' s s' t t' (item.Evaluates scope slot expr rest) le ss ts b h =
    let P : List Slotted → Type 0 = λ l. IsAnnotated (names l) expr.now in
    subst P (ss scope b.0) h
held-same n n' s s' t t' (item.Enters scope slot bindings body rest) le ss ts b h =
    let P : List Slotted → Type 0 = λ l. AreBindingsAnnotated (names l) bindings.now × IsAnnotated (with_bindings (names l) (bindings_of bindings.now)) body.now in
    subst P (ss scope b.0) h
held-same n n' s s' t t' (item.Either scope slot on_true on_false rest) le ss ts b h =
    let P : List Slotted → Type 0 = λ l. IsAnnotated (names l) on_true.now × IsAnnotated (names l) on_false.now in
    subst P (ss scope b.0) h
held-same n n' s s' t t' (item.OneOf scope slot cases rest) le ss ts b h =
    let P : List Slotted → Type 0 = λ l. AreCasesAnnotated (names l) cases.now in
    subst P (ss scope b.0) h
held-same n n' s s' t t' (item.MayRaise rest) le ss ts b h = tt
held-same n n' s s' t t' (item.Raises rest) le ss ts b h = tt
held-same n n' s s' t t' (item.Exits label rest) le ss ts b h = tt
held-same n n' s s' t t' (item.Catches scope slot in_handler handlers first rest) le ss ts b h =
    let P : List Slotted → Type 0 = λ l. AreHandlersAnnotated (names l) handlers.now × HandlersAt n' t' first l slot handlers.now (t' rest) handlers.now in
    let Q : List Task → Type 0 = λ l. HandlersAt n' t' first (s scope) slot handlers.now l handlers.now in
    subst P (ss scope b.0) (h.0, subst Q (ts rest b.1) (handlers-same n n' t t' first (s scope) slot handlers.now (t rest) handlers.now le ts h.1))
held-same n n' s s' t t' (item.Handler scope slot handlers own first rest) le ss ts b h =
    let P : List Slotted → Type 0 = λ l. AreHandlersAnnotated (names l) handlers.now × HandlersAt n' t' first l slot handlers.now (t' rest) handlers.now × IsAnnotated (with_parameters (params_view own.now.params.items) (names l)) own.now.body in
    let Q : List Task → Type 0 = λ l. HandlersAt n' t' first (s scope) slot handlers.now l handlers.now in
    subst P (ss scope b.0) (h.0, subst Q (ts rest b.1) (handlers-same n n' t t' first (s scope) slot handlers.now (t rest) handlers.now le ts h.1), h.2)
held-same n n' s s' t t' (item.Handles scope slot name_at name handler entry rest) le ss ts b h =
    let P : List Slotted → Type 0 = λ l. t' entry ≡ handling l slot name_at name.now (expr_view handler.now) ++ t' rest in
    let Q : List Task → Type 0 = λ l. t' entry ≡ handling (s scope) slot name_at name.now (expr_view handler.now) ++ l in
    (omega (arith, h.0), subst P (ss scope b.0) (subst Q (ts rest b.1) (sym (ts entry h.0) ∙ h.1)))

-- ---- the first of a list, and the others

pub first-rest : {A : Type 0} (l : List A) (x : A) → 1 ≤ length l → x ≡ get_or l 0 x → l ≡ x ∷ take (length l - 1) (drop 1 l)
first-rest [] x h e = absurd (omega arith)
first-rest {A = A} (y ∷ l) x h e =
    ap (λ z. z ∷ l) (sym e)
    ∙ ap (λ (r : List A). x ∷ r) (sym (take_all (length l) l (omega arith)) ∙ ap (λ n. take n l) (let m : length l ≡ suc (length l) - 1 = omega arith in m))

pub empty-list : {A : Type 0} (l : List A) → length l < 1 → l ≡ []
empty-list [] h = refl
empty-list (y ∷ l) h = absurd (omega arith)
