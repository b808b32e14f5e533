-- Cells that are pushed.
use Rattle.std.proofs.Common.{◌≡◌, ℕ, suc, ◌<◌, ◌≤◌, false, List, [], ◌∷◌, ◌++◌, length, Some, inl, inr, refl, sym, ap, ◌∙◌, subst, arith, append_assoc}
use Rattle.std.proofs.lemmas.List.{length-append}
use Rattle.bs_words.specs.declared.types.Ty.{Ty}
use Rattle.bs_words.specs.Fits.{type_of_comp}
use Rattle.cmm_tree.specs.Tree.{Parameter}
use Rattle.cmm_tree.specs.View.{params_view, expr_view}
use Rattle.cmm_tree.specs.declared.file.Param.{Param}
use Rattle.cmm_types.specs.Annotated.{IsAnnotated}
use Rattle.cmm_types.specs.Lists.{AreBindingsAnnotated}
use Rattle.cmm_tree.specs.Rows.{bindings_of}
use Rattle.cmm_types.specs.Types.{with_parameters, with_bindings}
use Rattle.walk_tables.specs.Cells.{item_at, scope_at, tasks_at, scope_in, tasks_in, event_of}
use Rattle.walk_tables.specs.Sound.{free_in, IsBelow, IsItemHeld, AreItemsSound, ExtendsItems, IsCellReady, IsScope, AddsCells, Opens}
use Rattle.walk_tables.specs.Walks.{Slotted, Task, names, slotted_parameter, with_slots}
use Rattle.walk_tables.specs.Walks as walk
use Rattle.walk_tables.specs.declared.items.Action.{Action}
use Rattle.walk_tables.specs.declared.items.Item.{Item}
use Rattle.walk_tables.specs.declared.items.Item.TheVariants as item
use Rattle.walk_tables.proofs.Arena.{item-kept, scope-kept, tasks-kept, item-here, scope-here, tasks-here, item-cases, item-within, below-more, scope-same, tasks-same, held-same}

-- ---- sound cells

pub sound-push : (x : Item) (old : List Item) → AreItemsSound old → IsBelow (length old) x → IsItemHeld (length old) (scope_at old) (tasks_at old) x → free_in x ≤ length old → AreItemsSound (x ∷ old)
sound-push x old sound below held placed = record {
  below = λ c y e.
      elim (item-cases x old c y e) [
        | inl t ↦
            let P : ℕ → Type 0 = λ n. IsBelow n x in
            let Q : Item → Type 0 = λ z. IsBelow c z in
            subst Q t.1 (subst P (sym t.0) below)
        | inr r ↦ sound.below c y r
      ];
  held = λ c y e.
      elim (item-cases x old c y e) [
        | inl t ↦
            let Q : Item → Type 0 = λ z. IsItemHeld (suc (length old)) (scope_at (x ∷ old)) (tasks_at (x ∷ old)) z in
            subst Q t.1 (held-same (length old) (suc (length old)) (scope_at old) (scope_at (x ∷ old)) (tasks_at old) (tasks_at (x ∷ old)) x (omega arith) (λ r h. sym (scope-kept (x ∷ []) old r h)) (λ r h. sym (tasks-kept (x ∷ []) old r h)) below held)
        | inr r ↦
            held-same (length old) (suc (length old)) (scope_at old) (scope_at (x ∷ old)) (tasks_at old) (tasks_at (x ∷ old)) y (omega arith) (λ r h. sym (scope-kept (x ∷ []) old r h)) (λ r h. sym (tasks-kept (x ∷ []) old r h))
            (below-more c (length old) y (let h : c < length old = item-within old c y r in omega arith) (sound.below c y r))
            (sound.held c y r)
      ];
  placed = λ c y e.
      elim (item-cases x old c y e) [
        | inl t ↦
            let Q : Item → Type 0 = λ z. free_in z ≤ c in
            subst Q t.1 (omega (arith, t.0, placed))
        | inr r ↦ sound.placed c y r
      ];
}

-- the cells that come before one
before : (items : List Item) (c : ℕ) (x : Item) → ((d : ℕ) (y : Item) → item_at items d ≡ Some y → IsBelow d y) → item_at items c ≡ Some x
    → (scope_at items c ≡ scope_in (scope_at items) x) × (tasks_at items c ≡ tasks_in (scope_at items) (tasks_at items) x)
before [] c x below e = absurd (let h : c < 0 = item-within [] c x e in omega arith)
before (y ∷ older) c x below e =
    elim (item-cases y older c x e) [
      | inl t ↦
          let P : Item → Type 0 = λ z. (scope_at (y ∷ older) c ≡ scope_in (scope_at (y ∷ older)) z) × (tasks_at (y ∷ older) c ≡ tasks_in (scope_at (y ∷ older)) (tasks_at (y ∷ older)) z) in
          let B : ℕ → Type 0 = λ n. IsBelow n y in
          let b : IsBelow (length older) y = subst B t.0 (below c y (item-here y older c t.0)) in
          subst P t.1 (
            scope-here y older c t.0 ∙ scope-same (length older) (scope_at older) (scope_at (y ∷ older)) y (λ r h. sym (scope-kept (y ∷ []) older r h)) b,
            tasks-here y older c t.0 ∙ tasks-same (length older) (scope_at older) (scope_at (y ∷ older)) (tasks_at older) (tasks_at (y ∷ older)) y (λ r h. sym (scope-kept (y ∷ []) older r h)) (λ r h. sym (tasks-kept (y ∷ []) older r h)) b,
          )
      | inr r ↦
          let within : c < length older = item-within older c x r in
          let former : (d : ℕ) (z : Item) → item_at older d ≡ Some z → IsBelow d z = λ d z q. below d z (item-kept (y ∷ []) older d (item-within older d z q) ∙ q) in
          let b : IsBelow (length older) x = below-more c (length older) x (omega arith) (former c x r) in
          let i = before older c x former r in (
            scope-kept (y ∷ []) older c within ∙ i.0 ∙ scope-same (length older) (scope_at older) (scope_at (y ∷ older)) x (λ r h. sym (scope-kept (y ∷ []) older r h)) b,
            tasks-kept (y ∷ []) older c within ∙ i.1 ∙ tasks-same (length older) (scope_at older) (scope_at (y ∷ older)) (tasks_at older) (tasks_at (y ∷ older)) x (λ r h. sym (scope-kept (y ∷ []) older r h)) (λ r h. sym (tasks-kept (y ∷ []) older r h)) b,
          )
    ]

pub scope-is : (items : List Item) (c : ℕ) (x : Item) → AreItemsSound items → item_at items c ≡ Some x → scope_at items c ≡ scope_in (scope_at items) x
scope-is items c x sound e = (before items c x sound.below e).0

pub tasks-are : (items : List Item) (c : ℕ) (x : Item) → AreItemsSound items → item_at items c ≡ Some x → tasks_at items c ≡ tasks_in (scope_at items) (tasks_at items) x
tasks-are items c x sound e = (before items c x sound.below e).1

-- ---- further cells

pub extends-none : (items : List Item) → ExtendsItems items items
extends-none items = record { more = []; is = refl }

pub extends-then : (a b c : List Item) → ExtendsItems a b → ExtendsItems b c → ExtendsItems a c
extends-then a b c p q = record {
  more = q.more ++ p.more;
  is = q.is ∙ ap (λ (l : List Item). q.more ++ l) p.is ∙ sym (append_assoc q.more p.more a);
}

pub extends-length : (a b : List Item) → ExtendsItems a b → length a ≤ length b
extends-length a b p = omega (arith, ap length p.is, length-append p.more a)

pub tasks-extend : (a b : List Item) (c : ℕ) → ExtendsItems a b → c < length a → tasks_at b c ≡ tasks_at a c
tasks-extend a b c p h = ap (λ (l : List Item). tasks_at l c) p.is ∙ tasks-kept p.more a c h

pub scope-extend : (a b : List Item) (c : ℕ) → ExtendsItems a b → c < length a → scope_at b c ≡ scope_at a c
scope-extend a b c p h = ap (λ (l : List Item). scope_at l c) p.is ∙ scope-kept p.more a c h

pub kept-scope : {a b : List Item} {c : ℕ} {s : List Slotted} → ExtendsItems a b → IsScope a c s → IsScope b c s
kept-scope {a = a} {b = b} {c = c} p h = record { within = (let l : length a ≤ length b = extends-length a b p in omega (arith, h.within)); is = scope-extend a b c p h.within ∙ h.is }

pub kept-within : {a b : List Item} {c : ℕ} → ExtendsItems a b → c < length a → c < length b
kept-within {a = a} {b = b} p h = let l : length a ≤ length b = extends-length a b p in omega arith

pub kept-placed : {a b : List Item} {slot : ℕ} → ExtendsItems a b → slot ≤ length a → slot ≤ length b
kept-placed {a = a} {b = b} p h = let l : length a ≤ length b = extends-length a b p in omega arith

-- ---- one further cell

pub adds-push : (old new : List Item) (x : Item) (cell rest : ℕ) (tasks : List Task)
    → (cell ≡ length old) × (new ≡ x ∷ old)
    → AreItemsSound old
    → IsBelow (length old) x
    → IsItemHeld (length old) (scope_at old) (tasks_at old) x
    → free_in x ≤ length old
    → tasks_in (scope_at old) (tasks_at old) x ≡ tasks ++ tasks_at old rest
    → AddsCells old new cell tasks rest
adds-push old new x cell rest tasks pushed sound below held placed are =
    let P : List Item → Type 0 = λ l. AddsCells old l cell tasks rest in
    subst P (sym pushed.1) (record {
      extends = record { more = x ∷ []; is = refl };
      sound = sound-push x old sound below held placed;
      within = omega (arith, pushed.0);
      is = tasks-here x old cell pushed.0 ∙ are;
    })

pub opens-named : (old new : List Item) (x : Item) (cell outer : ℕ) (n : Slotted) (s : List Slotted)
    → (cell ≡ length old) × (new ≡ x ∷ old)
    → AreItemsSound old
    → IsScope old outer s
    → IsBelow (length old) x
    → IsItemHeld (length old) (scope_at old) (tasks_at old) x
    → free_in x ≤ length old
    → scope_in (scope_at old) x ≡ n ∷ scope_at old outer
    → Opens old new cell (n ∷ s)
opens-named old new x cell outer n s pushed sound scope below held placed are =
    let P : List Item → Type 0 = λ l. Opens old l cell (n ∷ s) in
    subst P (sym pushed.1) (record {
      extends = record { more = x ∷ []; is = refl };
      sound = sound-push x old sound below held placed;
      opened = record { within = omega (arith, pushed.0); is = scope-here x old cell pushed.0 ∙ are ∙ ap (λ (l : List Slotted). n ∷ l) scope.is };
    })

pub opens-none : (old : List Item) (cell : ℕ) (s : List Slotted) → AreItemsSound old → IsScope old cell s → Opens old old cell s
opens-none old cell s sound scope = record { extends = extends-none old; sound = sound; opened = scope }

pub opens-then : {a b c : List Item} {cell : ℕ} {s : List Slotted} → ExtendsItems a b → Opens b c cell s → Opens a c cell s
opens-then {a = a} {b = b} {c = c} p h = record { extends = extends-then a b c p h.extends; sound = h.sound; opened = h.opened }

pub opens-as : {a b : List Item} {cell : ℕ} {s s' : List Slotted} → s ≡ s' → Opens a b cell s → Opens a b cell s'
opens-as {a = a} {b = b} {cell = cell} e h =
    let P : List Slotted → Type 0 = λ l. Opens a b cell l in
    subst P e h

-- ---- tasks before tasks

pub adds-none : (old : List Item) (rest : ℕ) → IsCellReady old rest → AddsCells old old rest [] rest
adds-none old rest ready = record { extends = extends-none old; sound = ready.sound; within = ready.within; is = refl }

pub then : {a b c : List Item} {cell mid rest : ℕ} {first later : List Task} → AddsCells b c cell first mid → AddsCells a b mid later rest → AddsCells a c cell (first ++ later) rest
then {a = a} {b = b} {c = c} {rest = rest} {first = first} {later = later} f l = record {
  extends = extends-then a b c l.extends f.extends;
  sound = f.sound;
  within = f.within;
  is = f.is ∙ ap (λ (t : List Task). first ++ t) l.is ∙ sym (append_assoc first later (tasks_at a rest));
}

pub ready : {old new : List Item} {cell rest : ℕ} {tasks : List Task} → AddsCells old new cell tasks rest → IsCellReady new cell
ready a = record { sound = a.sound; within = a.within }

pub adds-as : {old new : List Item} {cell rest : ℕ} {tasks tasks' : List Task} → tasks ≡ tasks' → AddsCells old new cell tasks rest → AddsCells old new cell tasks' rest
adds-as {old = old} {new = new} {cell = cell} {rest = rest} e a =
    let P : List Task → Type 0 = λ t. AddsCells old new cell t rest in
    subst P e a

-- after a scope is opened
pub adds-inside : {a b c : List Item} {cell rest : ℕ} {tasks : List Task} → ExtendsItems a b → rest < length a → AddsCells b c cell tasks rest → AddsCells a c cell tasks rest
adds-inside {a = a} {b = b} {c = c} {rest = rest} {tasks = tasks} p h x = record {
  extends = extends-then a b c p x.extends;
  sound = x.sound;
  within = x.within;
  is = x.is ∙ ap (λ (t : List Task). tasks ++ t) (tasks-extend a b rest p h);
}

-- ---- parameters

pub names-slots : (slot : ℕ) (params : List Parameter) (s : List Slotted) → names (with_slots slot params s) ≡ with_parameters params (names s)
names-slots slot [] s = refl
names-slots slot (p ∷ params) s = names-slots (suc slot) params (slotted_parameter slot p ∷ s)

pub slots-first : (params : List Param) (first : Param) (others : List Param) (slot next : ℕ) (type : Ty) (s : List Slotted)
    → params ≡ first ∷ others
    → next ≡ suc slot
    → type ≡ type_of_comp first.comp
    → with_slots next (params_view others) (record { scoped = record { name = first.name; type = type; mutable = false }; slot = slot } ∷ s)
    ≡ with_slots slot (params_view params) s
slots-first params first others slot next type s p q r =
    ap (λ n. with_slots n (params_view others) (record { scoped = record { name = first.name; type = type; mutable = false }; slot = slot } ∷ s)) q
    ∙ ap (λ (t : Ty). with_slots (suc slot) (params_view others) (record { scoped = record { name = first.name; type = t; mutable = false }; slot = slot } ∷ s)) r
    ∙ ap (λ (l : List Param). with_slots slot (params_view l) s) (sym p)

-- ---- a cell of one task

pub adds-does : (old new : List Item) (cell rest : ℕ) (action : Action)
    → (cell ≡ length old) × (new ≡ item.Does action rest ∷ old)
    → IsCellReady old rest
    → AddsCells old new cell (walk.Does (event_of action) ∷ []) rest
adds-does old new cell rest action pushed r =
    adds-push old new (item.Does action rest) cell rest (walk.Does (event_of action) ∷ []) pushed r.sound r.within tt (omega arith) refl

pub adds-evaluates : (old new : List Item) (cell scope slot rest : ℕ) (expr : _) (s : List Slotted)
    → (cell ≡ length old) × (new ≡ item.Evaluates scope slot expr rest ∷ old)
    → IsCellReady old rest
    → IsScope old scope s
    → IsAnnotated (names s) expr.now
    → slot ≤ length old
    → AddsCells old new cell (walk.Evaluates s slot (expr_view expr.now) ∷ []) rest
adds-evaluates old new cell scope slot rest expr s pushed r within typed placed =
    let P : List Slotted → Type 0 = λ l. IsAnnotated (names l) expr.now in
    adds-push old new (item.Evaluates scope slot expr rest) cell rest (walk.Evaluates s slot (expr_view expr.now) ∷ []) pushed r.sound (within.within, r.within) (subst P (sym within.is) typed) placed
    (ap (λ (l : List Slotted). walk.Evaluates l slot (expr_view expr.now) ∷ tasks_at old rest) within.is)

pub adds-enters : (old new : List Item) (cell scope slot rest : ℕ) (bindings body : _) (s : List Slotted)
    → (cell ≡ length old) × (new ≡ item.Enters scope slot bindings body rest ∷ old)
    → IsCellReady old rest
    → IsScope old scope s
    → AreBindingsAnnotated (names s) bindings.now
    → IsAnnotated (with_bindings (names s) (bindings_of bindings.now)) body.now
    → slot ≤ length old
    → AddsCells old new cell (walk.Enters s slot (bindings_of bindings.now) (expr_view body.now) ∷ []) rest
adds-enters old new cell scope slot rest bindings body s pushed r within typed body_typed placed =
    let P : List Slotted → Type 0 = λ l. AreBindingsAnnotated (names l) bindings.now × IsAnnotated (with_bindings (names l) (bindings_of bindings.now)) body.now in
    adds-push old new (item.Enters scope slot bindings body rest) cell rest (walk.Enters s slot (bindings_of bindings.now) (expr_view body.now) ∷ []) pushed r.sound (within.within, r.within) (subst P (sym within.is) (typed, body_typed)) placed
    (ap (λ (l : List Slotted). walk.Enters l slot (bindings_of bindings.now) (expr_view body.now) ∷ tasks_at old rest) within.is)
