-- The cells of a catch and of a try.
use Rattle.std.proofs.Common.{◌≡◌, ℕ, suc, ◌<◌, ◌≤◌, ◌⊎◌, Bool, true, false, List, [], ◌∷◌, ◌++◌, length, Some, inl, inr, refl, sym, ap, ◌∙◌, subst, arith, append_assoc}
use Rattle.std.proofs.lemmas.List.{length-append}
use Rattle.cmm_tree.specs.View.{expr_view, params_view, label_view}
use Rattle.cmm_tree.specs.declared.expr.Handler.{Handler}
use Rattle.cmm_types.specs.Annotated.{IsAnnotated}
use Rattle.cmm_types.specs.Lists.{AreCasesAnnotated, AreHandlersAnnotated}
use Rattle.cmm_tree.specs.Rows.{cases_of, handlers_of}
use Rattle.cmm_types.specs.Types.{with_parameters}
use Rattle.walk_tables.specs.Cells.{item_at, scope_at, tasks_at, handler_tasks}
use Rattle.walk_tables.specs.Sound.{free_in, IsBelow, HandlersAt, IsItemHeld, AreItemsSound, ExtendsItems, IsCellReady, IsScope, AddsCells, Each, IsHandlerOf, AddsHandlers}
use Rattle.walk_tables.specs.Walks.{Slotted, Task, names, bodies, handling}
use Rattle.walk_tables.specs.Walks as walk
use Rattle.walk_tables.specs.declared.items.Item.{Item}
use Rattle.walk_tables.specs.declared.items.Item.TheVariants as item
use Rattle.walk_tables.proofs.Arena.{scope-kept, tasks-kept, tasks-here, item-cases, item-within, below-more, held-same}
use Rattle.walk_tables.proofs.Pushed.{adds-none, adds-push, extends-length, tasks-extend}

-- ---- choices

pub adds-either : (old new : List Item) (cell scope slot rest : ℕ) (on_true on_false : _) (s : List Slotted)
    → (cell ≡ length old) × (new ≡ item.Either scope slot on_true on_false rest ∷ old)
    → IsCellReady old rest
    → IsScope old scope s
    → IsAnnotated (names s) on_true.now
    → IsAnnotated (names s) on_false.now
    → slot ≤ length old
    → AddsCells old new cell (walk.OneOf s slot (expr_view on_true.now ∷ expr_view on_false.now ∷ []) ∷ []) rest
adds-either old new cell scope slot rest on_true on_false s pushed r within t f placed =
    let P : List Slotted → Type 0 = λ l. IsAnnotated (names l) on_true.now × IsAnnotated (names l) on_false.now in
    adds-push old new (item.Either scope slot on_true on_false rest) cell rest (walk.OneOf s slot (expr_view on_true.now ∷ expr_view on_false.now ∷ []) ∷ []) pushed r.sound (within.within, r.within) (subst P (sym within.is) (t, f)) placed
    (ap (λ (l : List Slotted). walk.OneOf l slot (expr_view on_true.now ∷ expr_view on_false.now ∷ []) ∷ tasks_at old rest) within.is)

pub adds-one_of : (old new : List Item) (cell scope slot rest : ℕ) (cases : _) (s : List Slotted)
    → (cell ≡ length old) × (new ≡ item.OneOf scope slot cases rest ∷ old)
    → IsCellReady old rest
    → IsScope old scope s
    → AreCasesAnnotated (names s) cases.now
    → slot ≤ length old
    → AddsCells old new cell (walk.OneOf s slot (bodies (cases_of cases.now)) ∷ []) rest
adds-one_of old new cell scope slot rest cases s pushed r within t placed =
    let P : List Slotted → Type 0 = λ l. AreCasesAnnotated (names l) cases.now in
    adds-push old new (item.OneOf scope slot cases rest) cell rest (walk.OneOf s slot (bodies (cases_of cases.now)) ∷ []) pushed r.sound (within.within, r.within) (subst P (sym within.is) t) placed
    (ap (λ (l : List Slotted). walk.OneOf l slot (bodies (cases_of cases.now)) ∷ tasks_at old rest) within.is)

pub adds-may_raise : (old new : List Item) (cell rest : ℕ) → (cell ≡ length old) × (new ≡ item.MayRaise rest ∷ old) → IsCellReady old rest
    → AddsCells old new cell (walk.MayRaise ∷ []) rest
adds-may_raise old new cell rest pushed r = adds-push old new (item.MayRaise rest) cell rest (walk.MayRaise ∷ []) pushed r.sound r.within tt (omega arith) refl

pub adds-raises : (old new : List Item) (cell rest : ℕ) → (cell ≡ length old) × (new ≡ item.Raises rest ∷ old) → IsCellReady old rest
    → AddsCells old new cell (walk.Raises ∷ []) rest
adds-raises old new cell rest pushed r = adds-push old new (item.Raises rest) cell rest (walk.Raises ∷ []) pushed r.sound r.within tt (omega arith) refl

pub adds-exits : (old new : List Item) (cell rest : ℕ) (label : _) → (cell ≡ length old) × (new ≡ item.Exits label rest ∷ old) → IsCellReady old rest
    → AddsCells old new cell (walk.Exits (label_view label.now) ∷ []) rest
adds-exits old new cell rest label pushed r = adds-push old new (item.Exits label rest) cell rest (walk.Exits (label_view label.now) ∷ []) pushed r.sound r.within tt (omega arith) refl

-- ---- more cells at once

item-more : (P : Item → Type 0) (more old : List Item) (c : ℕ) (x : Item) → Each P more → item_at (more ++ old) c ≡ Some x
    → (item_at old c ≡ Some x) ⊎ ((length old ≤ c) × P x)
item-more P [] old c x each e = inl e
item-more P (y ∷ more) old c x each e =
    elim (item-cases y (more ++ old) c x e) [
      | inl t ↦ inr (omega (arith, t.0, length-append more old), subst P t.1 each.0)
      | inr r ↦ item-more P more old c x each.1 r
    ]

pub sound-more : (more old : List Item) → AreItemsSound old
    → Each (λ y. IsBelow (length old) y × IsItemHeld (length (more ++ old)) (scope_at (more ++ old)) (tasks_at (more ++ old)) y × (free_in y ≤ length old)) more
    → AreItemsSound (more ++ old)
sound-more more old sound each =
    let P : Item → Type 0 = λ y. IsBelow (length old) y × IsItemHeld (length (more ++ old)) (scope_at (more ++ old)) (tasks_at (more ++ old)) y × (free_in y ≤ length old) in
    record {
      below = λ c x e.
          elim (item-more P more old c x each e) [
            | inl r ↦ sound.below c x r
            | inr p ↦ below-more (length old) c x p.0 p.1.0
          ];
      held = λ c x e.
          elim (item-more P more old c x each e) [
            | inl r ↦
                held-same (length old) (length (more ++ old)) (scope_at old) (scope_at (more ++ old)) (tasks_at old) (tasks_at (more ++ old)) x (omega (arith, length-append more old)) (λ q h. sym (scope-kept more old q h)) (λ q h. sym (tasks-kept more old q h))
                (below-more c (length old) x (let h : c < length old = item-within old c x r in omega arith) (sound.below c x r))
                (sound.held c x r)
            | inr p ↦ p.1.1
          ];
      placed = λ c x e.
          elim (item-more P more old c x each e) [
            | inl r ↦ sound.placed c x r
            | inr p ↦ omega (arith, p.0, p.1.2)
          ];
    }

each-map : (P Q : Item → Type 0) (xs : List Item) → ((y : Item) → P y → Q y) → Each P xs → Each Q xs
each-map P Q [] f e = tt
each-map P Q (x ∷ xs) f e = (f x e.0, each-map P Q xs f e.1)

each-last : (P : Item → Type 0) (xs : List Item) (x : Item) → Each P xs → P x → Each P (xs ++ (x ∷ []))
each-last P [] x e h = (h, tt)
each-last P (y ∷ xs) x e h = (e.0, each-last P xs x e.1 h)

-- ---- the handlers of a catch

pub adds-no-handlers : (old : List Item) (scope slot : ℕ) (all : List Handler) (first rest : ℕ) (s : List Slotted) (left : List Handler) → left ≡ []
    → AddsHandlers old old scope slot all first rest s left
adds-no-handlers old scope slot all first rest s left e =
    let P : List Handler → Type 0 = λ l. AddsHandlers old old scope slot all first rest s l in
    subst P (sym e) (record { more = []; is = refl; each = tt; row = tt })

abbrev HandlerType : List Slotted → Handler → Type 0
HandlerType s h = IsAnnotated (with_parameters (params_view h.params.items) (names s)) h.body

adds-handler-at : (old new : List Item) (scope slot : ℕ) (handlers own : _) (first rest : ℕ) (s : List Slotted) (others : List Handler)
    → AddsHandlers (item.Handler scope slot handlers own first rest ∷ old) new scope slot handlers.now first rest s others
    → rest < length old
    → IsScope old scope s
    → HandlerType s own.now
    → AddsHandlers old new scope slot handlers.now first rest s (own.now ∷ others)
adds-handler-at old new scope slot handlers own first rest s others more within in_scope typed =
    let x : Item = item.Handler scope slot handlers own first rest in
    let ext : ExtendsItems (x ∷ old) new = record { more = more.more; is = more.is } in
    let Q : List Task → Type 0 = λ l. HandlersAt (length new) (tasks_at new) (suc (length old)) s slot handlers.now l others in
    let len : suc (length old) ≤ length new = extends-length (x ∷ old) new ext in
    record {
      more = more.more ++ (x ∷ []);
      is = more.is ∙ sym (append_assoc more.more (x ∷ []) old);
      each = each-last (IsHandlerOf scope slot handlers.now first rest s) more.more x more.each (refl, refl, refl, refl, refl, typed);
      row = (
        omega arith,
        tasks-extend (x ∷ old) new (length old) ext (omega arith)
            ∙ tasks-here x old (length old) refl
            ∙ ap (λ (l : List Slotted). handler_tasks l slot handlers.now (tasks_at old rest) own.now) in_scope.is,
        subst Q (tasks-kept (x ∷ []) old rest within) more.row,
      );
    }

pub adds-handler : (old mid new : List Item) (cell scope slot : ℕ) (handlers own : _) (first rest : ℕ) (s : List Slotted) (left others : List Handler)
    → (cell ≡ length old) × (mid ≡ item.Handler scope slot handlers own first rest ∷ old)
    → left ≡ own.now ∷ others
    → rest < length old
    → IsScope old scope s
    → HandlerType s own.now
    → AddsHandlers mid new scope slot handlers.now first rest s others
    → AddsHandlers old new scope slot handlers.now first rest s left
adds-handler old mid new cell scope slot handlers own first rest s left others pushed e within in_scope typed more =
    let P : List Item → Type 0 = λ l. AddsHandlers l new scope slot handlers.now first rest s others in
    let Q : List Handler → Type 0 = λ l. AddsHandlers old new scope slot handlers.now first rest s l in
    subst Q (sym e) (adds-handler-at old new scope slot handlers own first rest s others (subst P pushed.1 more) within in_scope typed)

pub handlers-first : (s : List Slotted) (left : List Handler) (h : Handler) (others : List Handler) → left ≡ h ∷ others → AreHandlersAnnotated (names s) left
    → HandlerType s h × AreHandlersAnnotated (names s) others
handlers-first s left h others e t =
    let P : List Handler → Type 0 = λ l. AreHandlersAnnotated (names s) l in
    subst P e t

handler-below : (n scope slot : ℕ) (all : List Handler) (first rest : ℕ) (s : List Slotted) → scope < n → rest < n
    → (y : Item) → IsHandlerOf scope slot all first rest s y → IsBelow n y
handler-below n scope slot all first rest s a b item.Empty h = tt
handler-below n scope slot all first rest s a b (item.Named name type mutable slot' outer) h = absurd h
handler-below n scope slot all first rest s a b (item.Does action rest') h = absurd h
handler-below n scope slot all first rest s a b (item.Evaluates scope' slot' expr rest') h = absurd h
handler-below n scope slot all first rest s a b (item.Enters scope' slot' bindings body rest') h = absurd h
handler-below n scope slot all first rest s a b (item.Either scope' slot' on_true on_false rest') h = absurd h
handler-below n scope slot all first rest s a b (item.OneOf scope' slot' cases rest') h = absurd h
handler-below n scope slot all first rest s a b (item.MayRaise rest') h = absurd h
handler-below n scope slot all first rest s a b (item.Raises rest') h = absurd h
handler-below n scope slot all first rest s a b (item.Exits label rest') h = absurd h
handler-below n scope slot all first rest s a b (item.Catches scope' slot' in_handler handlers first' rest') h = absurd h
handler-below n scope slot all first rest s a b (item.Handler scope' slot' handlers own first' rest') h = (omega (arith, h.0), omega (arith, h.4))
handler-below n scope slot all first rest s a b (item.Handles scope' slot' name_at name handler entry rest') h = absurd h

handler-placed : (n scope slot : ℕ) (all : List Handler) (first rest : ℕ) (s : List Slotted) → slot ≤ n → (y : Item) → IsHandlerOf scope slot all first rest s y → free_in y ≤ n
handler-placed n scope slot all first rest s a item.Empty h = omega arith
handler-placed n scope slot all first rest s a (item.Named name type mutable slot' outer) h = omega arith
handler-placed n scope slot all first rest s a (item.Does action rest') h = omega arith
handler-placed n scope slot all first rest s a (item.Evaluates scope' slot' expr rest') h = absurd h
handler-placed n scope slot all first rest s a (item.Enters scope' slot' bindings body rest') h = absurd h
handler-placed n scope slot all first rest s a (item.Either scope' slot' on_true on_false rest') h = absurd h
handler-placed n scope slot all first rest s a (item.OneOf scope' slot' cases rest') h = absurd h
handler-placed n scope slot all first rest s a (item.MayRaise rest') h = omega arith
handler-placed n scope slot all first rest s a (item.Raises rest') h = omega arith
handler-placed n scope slot all first rest s a (item.Exits label rest') h = omega arith
handler-placed n scope slot all first rest s a (item.Catches scope' slot' in_handler handlers first' rest') h = omega arith
handler-placed n scope slot all first rest s a (item.Handler scope' slot' handlers own first' rest') h = omega (arith, h.1)
handler-placed n scope slot all first rest s a (item.Handles scope' slot' name_at name handler entry rest') h = omega arith

handler-held : (n : ℕ) (scopes : ℕ → List Slotted) (t : ℕ → List Task) (scope slot : ℕ) (all : List Handler) (first rest : ℕ) (s : List Slotted)
    → scopes scope ≡ s
    → AreHandlersAnnotated (names s) all
    → HandlersAt n t first s slot all (t rest) all
    → (y : Item) → IsHandlerOf scope slot all first rest s y → IsItemHeld n scopes t y
handler-held n scopes t scope slot all first rest s e a r item.Empty h = tt
handler-held n scopes t scope slot all first rest s e a r (item.Named name type mutable slot' outer) h = tt
handler-held n scopes t scope slot all first rest s e a r (item.Does action rest') h = tt
handler-held n scopes t scope slot all first rest s e a r (item.Evaluates scope' slot' expr rest') h = absurd h
handler-held n scopes t scope slot all first rest s e a r (item.Enters scope' slot' bindings body rest') h = absurd h
handler-held n scopes t scope slot all first rest s e a r (item.Either scope' slot' on_true on_false rest') h = absurd h
handler-held n scopes t scope slot all first rest s e a r (item.OneOf scope' slot' cases rest') h = absurd h
handler-held n scopes t scope slot all first rest s e a r (item.MayRaise rest') h = tt
handler-held n scopes t scope slot all first rest s e a r (item.Raises rest') h = tt
handler-held n scopes t scope slot all first rest s e a r (item.Exits label rest') h = tt
handler-held n scopes t scope slot all first rest s e a r (item.Catches scope' slot' in_handler handlers first' rest') h = absurd h
handler-held n scopes t scope slot all first rest s e a r (item.Handler scope' slot' handlers own first' rest') h =
    let same : s ≡ scopes scope' = sym e ∙ ap scopes (sym h.0) in
    let P : List Slotted → Type 0 = λ l. AreHandlersAnnotated (names l) handlers.now × HandlersAt n t first' l slot' handlers.now (t rest') handlers.now × HandlerType l own.now in
    let Hs : List Handler → Type 0 = λ l. AreHandlersAnnotated (names s) l in
    let FromHandlers : List Handler → Type 0 = λ l. HandlersAt n t first s slot l (t rest) l in
    let FromFirst : ℕ → Type 0 = λ f. HandlersAt n t f s slot handlers.now (t rest) handlers.now in
    let FromBody : ℕ → Type 0 = λ b. HandlersAt n t first' s b handlers.now (t rest) handlers.now in
    let FromRest : ℕ → Type 0 = λ q. HandlersAt n t first' s slot' handlers.now (t q) handlers.now in
    subst P same (subst Hs (sym h.2) a, subst FromRest (sym h.4) (subst FromBody (sym h.1) (subst FromFirst (sym h.3) (subst FromHandlers (sym h.2) r))), h.5)
handler-held n scopes t scope slot all first rest s e a r (item.Handles scope' slot' name_at name handler entry rest') h = absurd h

-- what a catch needs of its handlers
pub record CatchReady (old new : List Item) (scope slot : ℕ) (all : List Handler) (first rest : ℕ) (s : List Slotted) : Type 0 where
  pub extends : ExtendsItems old new
  pub sound : AreItemsSound new
  pub row : HandlersAt (length new) (tasks_at new) first s slot all (tasks_at new rest) all

pub catch-ready : (old new : List Item) (scope slot : ℕ) (all : List Handler) (first rest : ℕ) (s : List Slotted)
    → first ≡ length old
    → IsCellReady old rest
    → IsScope old scope s
    → AreHandlersAnnotated (names s) all
    → slot ≤ length old
    → AddsHandlers old new scope slot all first rest s all
    → CatchReady old new scope slot all first rest s
catch-ready old new scope slot all first rest s at r in_scope typed placed adds =
    let ext : ExtendsItems old new = record { more = adds.more; is = adds.is } in
    let Q : List Task → Type 0 = λ l. HandlersAt (length new) (tasks_at new) first s slot all l all in
    let F : ℕ → Type 0 = λ n. HandlersAt (length new) (tasks_at new) n s slot all (tasks_at old rest) all in
    let row : HandlersAt (length new) (tasks_at new) first s slot all (tasks_at new rest) all = subst Q (sym (tasks-extend old new rest ext r.within)) (subst F (sym at) adds.row) in
    let W : List Item → Type 0 = λ l. HandlersAt (length l) (tasks_at l) first s slot all (tasks_at l rest) all in
    let S : List Item → Type 0 = λ l. AreItemsSound l in
    let full : List Item = adds.more ++ old in
    record {
      extends = ext;
      sound =
          subst S (sym adds.is)
          (sound-more adds.more old r.sound
          (each-map (IsHandlerOf scope slot all first rest s) (λ y. IsBelow (length old) y × IsItemHeld (length (adds.more ++ old)) (scope_at (adds.more ++ old)) (tasks_at (adds.more ++ old)) y × (free_in y ≤ length old)) adds.more
          (λ y h. (
            handler-below (length old) scope slot all first rest s in_scope.within r.within y h,
            handler-held (length (adds.more ++ old)) (scope_at (adds.more ++ old)) (tasks_at (adds.more ++ old)) scope slot all first rest s (scope-kept adds.more old scope in_scope.within ∙ in_scope.is) typed (subst W adds.is row) y h,
            handler-placed (length old) scope slot all first rest s placed y h,
          ))
          adds.each));
      row = row;
    }

pub adds-catches : (old new : List Item) (cell scope slot : ℕ) (in_handler : Bool) (handlers : _) (first rest : ℕ) (s : List Slotted)
    → (cell ≡ length old) × (new ≡ item.Catches scope slot in_handler handlers first rest ∷ old)
    → IsCellReady old rest
    → IsScope old scope s
    → AreHandlersAnnotated (names s) handlers.now
    → HandlersAt (length old) (tasks_at old) first s slot handlers.now (tasks_at old rest) handlers.now
    → AddsCells old new cell (walk.Catches s slot in_handler (handlers_of handlers.now) ∷ []) rest
adds-catches old new cell scope slot in_handler handlers first rest s pushed r within typed row =
    let P : List Slotted → Type 0 = λ l. AreHandlersAnnotated (names l) handlers.now × HandlersAt (length old) (tasks_at old) first l slot handlers.now (tasks_at old rest) handlers.now in
    adds-push old new (item.Catches scope slot in_handler handlers first rest) cell rest (walk.Catches s slot in_handler (handlers_of handlers.now) ∷ []) pushed r.sound (within.within, r.within) (subst P (sym within.is) (typed, row)) (omega arith)
    (ap (λ (l : List Slotted). walk.Catches l slot in_handler (handlers_of handlers.now) ∷ tasks_at old rest) within.is)

pub adds-handles : (old new : List Item) (cell scope slot name_at : ℕ) (name handler : _) (entry rest : ℕ) (s : List Slotted)
    → (cell ≡ length old) × (new ≡ item.Handles scope slot name_at name handler entry rest ∷ old)
    → IsCellReady old rest
    → IsScope old scope s
    → entry < length old
    → tasks_at old entry ≡ handling s slot name_at name.now (expr_view handler.now) ++ tasks_at old rest
    → AddsCells old new cell (walk.Handles s slot name_at name.now (expr_view handler.now) ∷ []) rest
adds-handles old new cell scope slot name_at name handler entry rest s pushed r within below is =
    let P : List Slotted → Type 0 = λ l. tasks_at old entry ≡ handling l slot name_at name.now (expr_view handler.now) ++ tasks_at old rest in
    adds-push old new (item.Handles scope slot name_at name handler entry rest) cell rest (walk.Handles s slot name_at name.now (expr_view handler.now) ∷ []) pushed r.sound (within.within, r.within) (below, subst P (sym within.is) is) (omega arith)
    (ap (λ (l : List Slotted). walk.Handles l slot name_at name.now (expr_view handler.now) ∷ tasks_at old rest) within.is)

-- ---- after the operands of a call

pub called-plain : (old : List Item) (rest at : ℕ) (frame : Bool) → frame ≡ false → IsCellReady old rest → AddsCells old old rest (walk.call_tasks frame at) rest
called-plain old rest at frame e r =
    let P : Bool → Type 0 = λ b. AddsCells old old rest (walk.call_tasks b at) rest in
    subst P (sym e) (adds-none old rest r)

pub called-frame : {old new : List Item} {cell rest : ℕ} (at : ℕ) (frame : Bool) → frame ≡ true → AddsCells old new cell (walk.call_tasks true at) rest → AddsCells old new cell (walk.call_tasks frame at) rest
called-frame {old = old} {new = new} {cell = cell} {rest = rest} at frame e h =
    let P : Bool → Type 0 = λ b. AddsCells old new cell (walk.call_tasks b at) rest in
    subst P (sym e) h
