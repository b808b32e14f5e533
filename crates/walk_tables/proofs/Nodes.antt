-- Nodes that go on as tasks do.
use Rattle.std.proofs.Common.{◌≡◌, ℕ, suc, ◌+◌, ◌<◌, ◌⊎◌, Bool, List, [], ◌∷◌, ◌++◌, length, Option, Some, None, inl, inr, refl, sym, ap, ◌∙◌, subst, append_assoc}
use Rattle.std.specs.List.{All, Contains}
use Rattle.std.proofs.lemmas.List.Elements.{All-nil, All-cons, Contains-append_left, Contains-append_right, Contains-append_cases}
use Rattle.std.proofs.lemmas.Option.{same_Some, none-some}
use Rattle.std.proofs.lemmas.List.{length-map}
use Rattle.bs_words.specs.Fits.{type_of_comp}
use Rattle.bs_words.specs.declared.types.Ty.{Ty}
use Rattle.cmm_tree.specs.Tree.{LabelTree, Expression, Bindings, Parameter}
use Rattle.cmm_tree.specs.View.{params_view, param_view}
use Rattle.cmm_tree.specs.declared.expr.Case.{Case}
use Rattle.cmm_tree.specs.declared.file.Param.{Param}
use Rattle.cmm_types.specs.Annotated.{IsAnnotated}
use Rattle.cmm_types.specs.Lists.{AreCasesAnnotated}
use Rattle.cmm_tree.specs.Rows.{cases_of}
use Rattle.cmm_types.specs.Types.{Scoped, is_address}
use Rattle.walk_tables.specs.Cells.{scope_at, tasks_at, tasks_in}
use Rattle.walk_tables.specs.Sound.{IsBelow, IsItemHeld, ExtendsItems, AddsCells, GoesTo, GoesAs, Steps, BodiesAt, AddsBodies}
use Rattle.walk_tables.specs.Walks.{Event, Slotted, Task, Does, Binds, bodies, parameters_bound, Evaluates, Enters, OneOf, MayRaise, Raises, Exits, Catches, Handles, tasks_of, entering, behind_raise, behind_exit, NextTasks}
use Rattle.walk_tables.specs.Walks as steps
use Rattle.walk_tables.specs.Table.{shown, next_cells}
use Rattle.walk_tables.specs.declared.items.Item.{Item}
use Rattle.walk_tables.specs.declared.node.Node as node
use Rattle.walk_tables.specs.declared.node.Step.{Step}
use Rattle.walk_tables.specs.declared.node.Step.TheVariants as step
use Rattle.walk_tables.proofs.Elements.{no_element, only, itself}
use Rattle.walk_tables.proofs.Pushed.{extends-then, tasks-extend, kept-within}

-- ---- what may come after tasks

abbrev pub After : List Task → List Event → List Task → Type 0
After [] es left = ⊥
After (Does event ∷ tasks) es left = (es ≡ event ∷ []) × (left ≡ tasks)
After (Evaluates scope slot e ∷ tasks) es left = (es ≡ []) × (left ≡ tasks_of scope slot e ++ tasks)
After (Enters scope slot bindings body ∷ tasks) es left = (es ≡ []) × (left ≡ entering scope slot bindings body ++ tasks)
After (OneOf scope slot all ∷ tasks) es left = (es ≡ []) × ((e : Expression) × Contains all e × (left ≡ Evaluates scope slot e ∷ tasks))
After (MayRaise ∷ tasks) es left = (es ≡ []) × ((left ≡ tasks) ⊎ (left ≡ Raises ∷ tasks))
After (Raises ∷ tasks) es left = (es ≡ []) × (behind_raise tasks ≡ Some left)
After (Exits label ∷ tasks) es left = (es ≡ []) × (behind_exit label tasks ≡ Some left)
After (Catches scope slot in_handler handlers ∷ tasks) es left = (es ≡ []) × (left ≡ tasks)
After (Handles scope slot name_at name handler ∷ tasks) es left = (es ≡ []) × (left ≡ tasks)

pub after : (tasks : List Task) (es : List Event) (left : List Task) → NextTasks tasks es left → After tasks es left
after _ _ _ (steps.does event tasks) = (refl, refl)
after _ _ _ (steps.evaluates scope slot e tasks) = (refl, refl)
after _ _ _ (steps.enters scope slot bindings body tasks) = (refl, refl)
after _ _ _ (steps.one_of scope slot es e tasks c) = (refl, (e, c, refl))
after _ _ _ (steps.goes_on tasks) = (refl, inl refl)
after _ _ _ (steps.may_raise tasks) = (refl, inr refl)
after _ _ _ (steps.raises tasks handler is) = (refl, is)
after _ _ _ (steps.exits label tasks handler is) = (refl, is)
after _ _ _ (steps.leaves_catch scope slot in_handler handlers tasks) = (refl, refl)
after _ _ _ (steps.leaves_try scope slot name_at name handler tasks) = (refl, refl)

-- ---- nodes

goes-node : (items : List Item) (tasks : List Task) (st st' : Step) (next next' : List ℕ) → st' ≡ st → next' ≡ next → GoesAs items tasks st next → GoesAs items tasks st' next'
goes-node items tasks st st' next next' p q g =
    let P : Step → Type 0 = λ x. GoesAs items tasks x next' in
    let Q : List ℕ → Type 0 = λ x. GoesAs items tasks st x in
    subst P (sym p) (subst Q (sym q) g)

no_event : (event : Event) → [] ≡ event ∷ [] → ⊥
no_event event e = cc

-- no task, no step
pub goes-last : (items : List Item) → GoesAs items [] step.Quiet []
goes-last items = record {
  shows = λ es left n. absurd (after [] es left n);
  forth = λ es left n. absurd (after [] es left n);
  linked = All-nil (λ q. q < length items);
  back = λ q h. absurd (no_element q h);
  doing = λ event e. absurd (no_event event e);
}

-- one step
goes-one : (items : List Item) (tasks : List Task) (st : Step) (q : ℕ) (to : List Task)
    → q < length items
    → tasks_at items q ≡ to
    → ((es : List Event) (left : List Task) → NextTasks tasks es left → (es ≡ shown st) × (left ≡ to))
    → NextTasks tasks (shown st) to
    → ((event : Event) → shown st ≡ event ∷ [] → (left : List Task) × (tasks ≡ Does event ∷ left))
    → GoesAs items tasks st (q ∷ [])
goes-one items tasks st q to within is only_one one doing = record {
  shows = λ es left n. (only_one es left n).0;
  forth = λ es left n. record { to = q; among = itself q; is = is ∙ sym (only_one es left n).1 };
  linked = All-cons (λ x. x < length items) q [] within (All-nil (λ x. x < length items));
  back = λ x h.
      let P : ℕ → Type 0 = λ y. NextTasks tasks (shown st) (tasks_at items y) in
      let Q : List Task → Type 0 = λ l. NextTasks tasks (shown st) l in
      subst P (only q x h) (subst Q (sym is) one);
  doing = doing;
}

quiet-doing : (tasks : List Task) (event : Event) → shown step.Quiet ≡ event ∷ [] → (left : List Task) × (tasks ≡ Does event ∷ left)
quiet-doing tasks event e = absurd (no_event event e)

same_event : (a b : Event) → a ∷ [] ≡ b ∷ [] → a ≡ b
same_event a b e = cc

pub goes-does : (items : List Item) (event : Event) (tasks : List Task) (n : node.Node) (q : ℕ)
    → (shown n.step ≡ event ∷ []) × (next_cells n.next ≡ q ∷ [])
    → q < length items
    → tasks_at items q ≡ tasks
    → GoesAs items (Does event ∷ tasks) n.step (next_cells n.next)
goes-does items event tasks n q is within at =
    let R : List Event → Type 0 = λ l. NextTasks (Does event ∷ tasks) l tasks in
    goes-node items (Does event ∷ tasks) n.step n.step (q ∷ []) (next_cells n.next) refl is.1
    (goes-one items (Does event ∷ tasks) n.step q tasks within at
    (λ es left h. let a = after (Does event ∷ tasks) es left h in (a.0 ∙ sym is.0, a.1))
    (subst R (sym is.0) (steps.does event tasks))
    (λ x e. (tasks, ap (λ (y : Event). Does y ∷ tasks) (same_event event x (sym is.0 ∙ e)))))

abbrev pub IsQuiet : node.Node → List ℕ → Type 0
IsQuiet n next = (n.step ≡ step.Quiet) × (next_cells n.next ≡ next)

pub goes-quiet : (items : List Item) (tasks : List Task) (n : node.Node) (next : List ℕ) → IsQuiet n next → GoesAs items tasks step.Quiet next → GoesAs items tasks n.step (next_cells n.next)
goes-quiet items tasks n next is g = goes-node items tasks step.Quiet n.step next (next_cells n.next) is.0 is.1 g

pub goes-none : (items : List Item) (n : node.Node) → IsQuiet n [] → GoesAs items [] n.step (next_cells n.next)
goes-none items n is = goes-quiet items [] n [] is (goes-last items)

pub goes-evaluates : (items : List Item) (s : List Slotted) (slot : ℕ) (e : Expression) (tasks : List Task) (n : node.Node) (q : ℕ) → IsQuiet n (q ∷ []) → q < length items
    → tasks_at items q ≡ tasks_of s slot e ++ tasks
    → GoesAs items (Evaluates s slot e ∷ tasks) n.step (next_cells n.next)
goes-evaluates items s slot e tasks n q is within at =
    goes-quiet items (Evaluates s slot e ∷ tasks) n (q ∷ []) is
    (goes-one items (Evaluates s slot e ∷ tasks) step.Quiet q (tasks_of s slot e ++ tasks) within at (λ es left h. after (Evaluates s slot e ∷ tasks) es left h) (steps.evaluates s slot e tasks) (quiet-doing (Evaluates s slot e ∷ tasks)))

pub goes-enters : (items : List Item) (s : List Slotted) (slot : ℕ) (bs : Bindings) (body : Expression) (tasks : List Task) (n : node.Node) (q : ℕ) → IsQuiet n (q ∷ []) → q < length items
    → tasks_at items q ≡ entering s slot bs body ++ tasks
    → GoesAs items (Enters s slot bs body ∷ tasks) n.step (next_cells n.next)
goes-enters items s slot bs body tasks n q is within at =
    goes-quiet items (Enters s slot bs body ∷ tasks) n (q ∷ []) is
    (goes-one items (Enters s slot bs body ∷ tasks) step.Quiet q (entering s slot bs body ++ tasks) within at (λ es left h. after (Enters s slot bs body ∷ tasks) es left h) (steps.enters s slot bs body tasks) (quiet-doing (Enters s slot bs body ∷ tasks)))

pub goes-catches : (items : List Item) (s : List Slotted) (slot : ℕ) (in_handler : Bool) (hs : _) (tasks : List Task) (n : node.Node) (q : ℕ) → IsQuiet n (q ∷ []) → q < length items
    → tasks_at items q ≡ tasks
    → GoesAs items (Catches s slot in_handler hs ∷ tasks) n.step (next_cells n.next)
goes-catches items s slot in_handler hs tasks n q is within at =
    goes-quiet items (Catches s slot in_handler hs ∷ tasks) n (q ∷ []) is
    (goes-one items (Catches s slot in_handler hs ∷ tasks) step.Quiet q tasks within at (λ es left h. after (Catches s slot in_handler hs ∷ tasks) es left h) (steps.leaves_catch s slot in_handler hs tasks) (quiet-doing (Catches s slot in_handler hs ∷ tasks)))

pub goes-handles : (items : List Item) (s : List Slotted) (slot name_at : ℕ) (name : List ℕ) (h : Expression) (tasks : List Task) (n : node.Node) (q : ℕ) → IsQuiet n (q ∷ []) → q < length items
    → tasks_at items q ≡ tasks
    → GoesAs items (Handles s slot name_at name h ∷ tasks) n.step (next_cells n.next)
goes-handles items s slot name_at name h tasks n q is within at =
    goes-quiet items (Handles s slot name_at name h ∷ tasks) n (q ∷ []) is
    (goes-one items (Handles s slot name_at name h ∷ tasks) step.Quiet q tasks within at (λ es left k. after (Handles s slot name_at name h ∷ tasks) es left k) (steps.leaves_try s slot name_at name h tasks) (quiet-doing (Handles s slot name_at name h ∷ tasks)))

-- ---- leaving

stuck : (items : List Item) (tasks : List Task) → ((es : List Event) (left : List Task) → NextTasks tasks es left → ⊥) → GoesAs items tasks step.Quiet []
stuck items tasks none = record {
  shows = λ es left n. absurd (none es left n);
  forth = λ es left n. absurd (none es left n);
  linked = All-nil (λ q. q < length items);
  back = λ q h. absurd (no_element q h);
  doing = quiet-doing tasks;
}

no-answer : (o : Option (List Task)) (left : List Task) → o ≡ None → o ≡ Some left → ⊥
no-answer o left p q = none-some left (sym p ∙ q)

pub goes-raises-none : (items : List Item) (tasks : List Task) (n : node.Node) → IsQuiet n [] → behind_raise tasks ≡ None → GoesAs items (Raises ∷ tasks) n.step (next_cells n.next)
goes-raises-none items tasks n is none =
    goes-quiet items (Raises ∷ tasks) n [] is (stuck items (Raises ∷ tasks) (λ es left h. no-answer (behind_raise tasks) left none (after (Raises ∷ tasks) es left h).1))

pub goes-raises : (items : List Item) (tasks : List Task) (n : node.Node) (q : ℕ) → IsQuiet n (q ∷ []) → q < length items → behind_raise tasks ≡ Some (tasks_at items q) → GoesAs items (Raises ∷ tasks) n.step (next_cells n.next)
goes-raises items tasks n q is within answer =
    goes-quiet items (Raises ∷ tasks) n (q ∷ []) is
    (goes-one items (Raises ∷ tasks) step.Quiet q (tasks_at items q) within refl (λ es left h. let a = after (Raises ∷ tasks) es left h in (a.0, same_Some left (tasks_at items q) (sym a.1 ∙ answer))) (steps.raises tasks (tasks_at items q) answer) (quiet-doing (Raises ∷ tasks)))

pub goes-exits-none : (items : List Item) (label : LabelTree) (tasks : List Task) (n : node.Node) → IsQuiet n [] → behind_exit label tasks ≡ None → GoesAs items (Exits label ∷ tasks) n.step (next_cells n.next)
goes-exits-none items label tasks n is none =
    goes-quiet items (Exits label ∷ tasks) n [] is (stuck items (Exits label ∷ tasks) (λ es left h. no-answer (behind_exit label tasks) left none (after (Exits label ∷ tasks) es left h).1))

pub goes-exits : (items : List Item) (label : LabelTree) (tasks : List Task) (n : node.Node) (q : ℕ) → IsQuiet n (q ∷ []) → q < length items → behind_exit label tasks ≡ Some (tasks_at items q) → GoesAs items (Exits label ∷ tasks) n.step (next_cells n.next)
goes-exits items label tasks n q is within answer =
    goes-quiet items (Exits label ∷ tasks) n (q ∷ []) is
    (goes-one items (Exits label ∷ tasks) step.Quiet q (tasks_at items q) within refl (λ es left h. let a = after (Exits label ∷ tasks) es left h in (a.0, same_Some left (tasks_at items q) (sym a.1 ∙ answer))) (steps.exits label tasks (tasks_at items q) answer) (quiet-doing (Exits label ∷ tasks)))

-- ---- choices

pub first-or-later : {A : Type 0} (x : A) (xs : List A) (y : A) → Contains (x ∷ xs) y → (x ≡ y) ⊎ Contains xs y
first-or-later x xs y h = elim (Contains-append_cases (x ∷ []) xs y h) [ inl a ↦ inl (only x y a) | inr b ↦ inr b ]

pub is-first : {A : Type 0} (x : A) (xs : List A) → Contains (x ∷ xs) x
is-first x xs = Contains-append_left (x ∷ []) xs x (itself x)

pub is-later : {A : Type 0} (x : A) (xs : List A) (y : A) → Contains xs y → Contains (x ∷ xs) y
is-later x xs y h = Contains-append_right (x ∷ []) xs y h

bodies-linked : (items : List Item) (s : List Slotted) (slot : ℕ) (behind : List Task) (qs : List ℕ) (es : List Expression) → BodiesAt items s slot behind qs es → All (λ q. q < length items) qs
bodies-linked items s slot behind [] es r = All-nil (λ q. q < length items)
bodies-linked items s slot behind (q ∷ qs) [] r = absurd r
bodies-linked items s slot behind (q ∷ qs) (e ∷ es) r = All-cons (λ q. q < length items) q qs r.0 (bodies-linked items s slot behind qs es r.2)

bodies-forth : (items : List Item) (s : List Slotted) (slot : ℕ) (behind : List Task) (qs : List ℕ) (es : List Expression) → BodiesAt items s slot behind qs es
    → (e : Expression) → Contains es e → GoesTo items qs (Evaluates s slot e ∷ behind)
bodies-forth items s slot behind [] [] r e h = absurd (no_element e h)
bodies-forth items s slot behind [] (x ∷ es) r e h = absurd r
bodies-forth items s slot behind (q ∷ qs) [] r e h = absurd r
bodies-forth items s slot behind (q ∷ qs) (x ∷ es) r e h =
    elim (first-or-later x es e h) [
      | inl i ↦ record { to = q; among = is-first q qs; is = r.1 ∙ ap (λ (y : Expression). Evaluates s slot y ∷ behind) i }
      | inr l ↦ let g = bodies-forth items s slot behind qs es r.2 e l in record { to = g.to; among = is-later q qs g.to g.among; is = g.is }
    ]

bodies-back : (items : List Item) (s : List Slotted) (slot : ℕ) (behind : List Task) (qs : List ℕ) (es : List Expression) → BodiesAt items s slot behind qs es
    → (q : ℕ) → Contains qs q → (e : Expression) × Contains es e × (tasks_at items q ≡ Evaluates s slot e ∷ behind)
bodies-back items s slot behind [] es r x h = absurd (no_element x h)
bodies-back items s slot behind (q ∷ qs) [] r x h = absurd r
bodies-back items s slot behind (q ∷ qs) (e ∷ es) r x h =
    elim (first-or-later q qs x h) [
      | inl i ↦ (e, is-first e es, ap (tasks_at items) (sym i) ∙ r.1)
      | inr l ↦ let b = bodies-back items s slot behind qs es r.2 x l in (b.0, is-later e es b.0 b.1, b.2)
    ]

goes-bodies : (items : List Item) (s : List Slotted) (slot : ℕ) (behind : List Task) (qs : List ℕ) (es : List Expression) → BodiesAt items s slot behind qs es
    → GoesAs items (OneOf s slot es ∷ behind) step.Quiet qs
goes-bodies items s slot behind qs all r = record {
  shows = λ es left n. (after (OneOf s slot all ∷ behind) es left n).0;
  forth = λ es left n.
      let a = after (OneOf s slot all ∷ behind) es left n in
      let g = bodies-forth items s slot behind qs all r a.1.0 a.1.1 in
      record { to = g.to; among = g.among; is = g.is ∙ sym a.1.2 };
  linked = bodies-linked items s slot behind qs all r;
  back = λ q h.
      let b = bodies-back items s slot behind qs all r q h in
      let P : List Task → Type 0 = λ l. NextTasks (OneOf s slot all ∷ behind) [] l in
      subst P (sym b.2) (steps.one_of s slot all b.0 behind b.1);
  doing = quiet-doing (OneOf s slot all ∷ behind);
}

pub goes-one_of : (items : List Item) (s : List Slotted) (slot : ℕ) (behind : List Task) (n : node.Node) (qs : List ℕ) (es : List Expression) → IsQuiet n qs → BodiesAt items s slot behind qs es
    → GoesAs items (OneOf s slot es ∷ behind) n.step (next_cells n.next)
goes-one_of items s slot behind n qs es is r = goes-quiet items (OneOf s slot es ∷ behind) n qs is (goes-bodies items s slot behind qs es r)

goes-fork : (items : List Item) (tasks : List Task) (a b : ℕ) → a < length items → b < length items → tasks_at items a ≡ tasks → tasks_at items b ≡ Raises ∷ tasks
    → GoesAs items (MayRaise ∷ tasks) step.Quiet (a ∷ b ∷ [])
goes-fork items tasks a b p q at_a at_b = record {
  shows = λ es left n. (after (MayRaise ∷ tasks) es left n).0;
  forth = λ es left n.
      elim ((after (MayRaise ∷ tasks) es left n).1) [
        | inl i ↦ record { to = a; among = is-first a (b ∷ []); is = at_a ∙ sym i }
        | inr i ↦ record { to = b; among = is-later a (b ∷ []) b (itself b); is = at_b ∙ sym i }
      ];
  linked = All-cons (λ x. x < length items) a (b ∷ []) p (All-cons (λ x. x < length items) b [] q (All-nil (λ x. x < length items)));
  back = λ x h.
      let P : List Task → Type 0 = λ l. NextTasks (MayRaise ∷ tasks) [] l in
      let Q : ℕ → Type 0 = λ y. NextTasks (MayRaise ∷ tasks) [] (tasks_at items y) in
      elim (first-or-later a (b ∷ []) x h) [
        | inl i ↦ subst Q i (subst P (sym at_a) (steps.goes_on tasks))
        | inr l ↦ subst Q (only b x l) (subst P (sym at_b) (steps.may_raise tasks))
      ];
  doing = quiet-doing (MayRaise ∷ tasks);
}

pub goes-may_raise : (items : List Item) (tasks : List Task) (n : node.Node) (a b : ℕ) → IsQuiet n (a ∷ b ∷ []) → a < length items → b < length items → tasks_at items a ≡ tasks → tasks_at items b ≡ Raises ∷ tasks
    → GoesAs items (MayRaise ∷ tasks) n.step (next_cells n.next)
goes-may_raise items tasks n a b is p q at_a at_b = goes-quiet items (MayRaise ∷ tasks) n (a ∷ b ∷ []) is (goes-fork items tasks a b p q at_a at_b)

-- ---- further cells

pub steps-after : (a b c : List Item) (tasks : List Task) (n : node.Node) → ExtendsItems a b → Steps b c tasks n → Steps a c tasks n
steps-after a b c tasks n p h = record { extends = extends-then a b c p h.extends; sound = h.sound; goes = h.goes }

pub steps-as : (a b : List Item) (tasks tasks' : List Task) (n : node.Node) → tasks ≡ tasks' → Steps a b tasks n → Steps a b tasks' n
steps-as a b tasks tasks' n e h =
    let P : List Task → Type 0 = λ l. Steps a b l n in
    subst P e h

pub item-as : (old new : List Item) (n : node.Node) (x y : Item) → x ≡ y
    → (IsBelow (length old) y → IsItemHeld (length old) (scope_at old) (tasks_at old) y → Steps old new (tasks_in (scope_at old) (tasks_at old) y) n)
    → IsBelow (length old) x → IsItemHeld (length old) (scope_at old) (tasks_at old) x → Steps old new (tasks_in (scope_at old) (tasks_at old) x) n
item-as old new n x y e h =
    let P : Item → Type 0 = λ z. IsBelow (length old) z → IsItemHeld (length old) (scope_at old) (tasks_at old) z → Steps old new (tasks_in (scope_at old) (tasks_at old) z) n in
    subst P (sym e) h

-- ---- bodies

pub adds-body : (a b c : List Item) (s : List Slotted) (slot rest body : ℕ) (former given next : List ℕ) (e : Expression) (es : List Expression)
    → AddsCells a b body (Evaluates s slot e ∷ []) rest
    → rest < length a
    → given ≡ former ++ (body ∷ [])
    → AddsBodies b c s slot (tasks_at b rest) given next es
    → AddsBodies a c s slot (tasks_at a rest) former next (e ∷ es)
adds-body a b c s slot rest body former given next e es f within g m =
    let P : List Task → Type 0 = λ l. BodiesAt c s slot l m.more es in
    record {
      extends = extends-then a b c f.extends m.extends;
      sound = m.sound;
      more = body ∷ m.more;
      is = m.is ∙ ap (λ (l : List ℕ). l ++ m.more) g ∙ append_assoc former (body ∷ []) m.more;
      row = (kept-within m.extends f.within, tasks-extend b c body m.extends f.within ∙ f.is, subst P (tasks-extend a b rest f.extends within) m.row);
    }

pub bodies-as : (a b : List Item) (s : List Slotted) (slot : ℕ) (behind : List Task) (former next : List ℕ) (cs cs' : List Case) → cs ≡ cs'
    → AddsBodies a b s slot behind former next (bodies (cases_of cs')) → AddsBodies a b s slot behind former next (bodies (cases_of cs))
bodies-as a b s slot behind former next cs cs' e h =
    let P : List Case → Type 0 = λ l. AddsBodies a b s slot behind former next (bodies (cases_of l)) in
    subst P (sym e) h

pub cases-first : (ns : List Scoped) (cs : List Case) (x : Case) (others : List Case) → cs ≡ x ∷ others → AreCasesAnnotated ns cs → IsAnnotated ns x.body × AreCasesAnnotated ns others
cases-first ns cs x others e t =
    let P : List Case → Type 0 = λ l. AreCasesAnnotated ns l in
    subst P e t

pub bodies-of-none : (a b : List Item) (s : List Slotted) (slot : ℕ) (behind : List Task) (former next : List ℕ) (es : List Expression) → former ≡ [] → AddsBodies a b s slot behind former next es → BodiesAt b s slot behind next es
bodies-of-none a b s slot behind former next es e m =
    let P : List ℕ → Type 0 = λ l. BodiesAt b s slot behind l es in
    subst P (sym (m.is ∙ ap (λ (l : List ℕ). l ++ m.more) e)) m.row

-- ---- handlers

pub first-parameter : (s : List Slotted) (slot free next : ℕ) (p : Param) (others : List Param) (address : Bool) (type : Ty) (body : Expression) (behind : List Task)
    → next ≡ suc slot
    → address ≡ is_address type
    → type ≡ type_of_comp p.comp
    → Does (Binds slot address p.at) ∷ (parameters_bound next (params_view others) ++ (Evaluates s free body ∷ behind))
    ≡ parameters_bound slot (params_view (p ∷ others)) ++ (Evaluates s free body ∷ behind)
first-parameter s slot free next p others address type body behind n a t =
    ap (λ m. Does (Binds slot address p.at) ∷ (parameters_bound m (params_view others) ++ (Evaluates s free body ∷ behind))) n
    ∙ ap (λ b. Does (Binds slot b p.at) ∷ (parameters_bound (suc slot) (params_view others) ++ (Evaluates s free body ∷ behind))) (a ∙ ap is_address t)

pub parameters-then : (s : List Slotted) (slot free : ℕ) (ps ps' : List Param) (body : Expression) (behind : List Task) → ps ≡ ps' → free ≡ slot + length ps
    → parameters_bound slot (params_view ps') ++ (Evaluates s free body ∷ behind)
    ≡ parameters_bound slot (params_view ps) ++ (Evaluates s (slot + length (params_view ps)) body ∷ behind)
parameters-then s slot free ps ps' body behind e f =
    ap (λ (l : List Param). parameters_bound slot (params_view l) ++ (Evaluates s free body ∷ behind)) (sym e)
    ∙ ap (λ n. parameters_bound slot (params_view ps) ++ (Evaluates s n body ∷ behind)) (f ∙ ap (λ n. slot + n) (sym (length-map ps param_view)))

pub catch-behind : (s : List Slotted) (slot : ℕ) (ps : List Parameter) (body : Expression) (x y : List Task) → x ≡ y
    → parameters_bound slot ps ++ (Evaluates s (slot + length ps) body ∷ x) ≡ parameters_bound slot ps ++ (Evaluates s (slot + length ps) body ∷ y)
catch-behind s slot ps body x y e = ap (λ (l : List Task). parameters_bound slot ps ++ (Evaluates s (slot + length ps) body ∷ l)) e
