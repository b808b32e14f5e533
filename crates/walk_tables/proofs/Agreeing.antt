-- The table that is made agrees with the walks of the function.
use Rattle.std.proofs.Common.{◌≡◌, ℕ, zero, suc, ◌+◌, ◌<◌, ◌≤◌, ◌⊎◌, ◌↔◌, List, [], ◌∷◌, ◌++◌, length, map, get_or, Some, None, option_map, inl, inr, refl, sym, ap, ◌∙◌, subst, arith, append-nil}
use Rattle.std.specs.List.{All, Contains, slice_get}
use Rattle.std.specs.Option.{unwrap_or}
use Rattle.std.proofs.lemmas.List.Elements.{All-nil, All-weaker, All-contains, All-from_get_or}
use Rattle.std.proofs.lemmas.Option.{same_Some, none-some, slice_get-map, slice_get-get_or, slice_get_within, unwrap_or-slice_get, get_or_from_slice_get, slice_get_cases}
use Rattle.std.proofs.lemmas.List.{length-append, length-map}
use Rattle.cmm_tree.specs.Tree.{FunctionTree, Expression}
use Rattle.cmm_tree.specs.View.{params_view, param_view}
use Rattle.cmm_tree.specs.declared.expr.Expr.{Expr}
use Rattle.cmm_tree.specs.declared.file.Param.{Param}
use Rattle.cmm_types.specs.Annotated.{IsAnnotated}
use Rattle.cmm_types.specs.Types.{Scoped, with_parameters}
use Rattle.walk_tables.specs.AddrLive.{IsLiveIn}
use Rattle.walk_tables.specs.Cells.{item_at, scope_at, tasks_at, tasks_in}
use Rattle.walk_tables.specs.Made.{Filled}
use Rattle.walk_tables.specs.Sound.{free_in, IsBelow, IsItemHeld, AreItemsSound, IsScope, ExtendsItems, GoesAs, Steps}
use Rattle.walk_tables.specs.Walks.{Task, Evaluates, names, with_slots, parameters_bound, walk_tasks, NextTasks}
use Rattle.walk_tables.specs.Table.{shown, step_at, next_at, next_cells, AreLinked, IsLinked, LeadsToBinding}
use Rattle.walk_tables.specs.declared.items.Item.{Item}
use Rattle.walk_tables.specs.declared.items.Item.TheVariants as item
use Rattle.walk_tables.specs.declared.node.Node as node
use Rattle.walk_tables.specs.declared.node.Step.{Step}
use Rattle.walk_tables.specs.declared.node.Step.TheVariants as step
use Rattle.walk_tables.proofs.Arena.{below-more, scope-here, tasks-here, tasks-past, item-within, item-past}
use Rattle.walk_tables.proofs.Nodes.{goes-last}
use Rattle.walk_tables.proofs.Pushed.{extends-none, extends-then, extends-length, tasks-extend, tasks-are, sound-push, names-slots}
use Rattle.walk_tables.proofs.Simulation.{Agrees, live_in_table, live_on_walk}

-- ---- a node goes on as before where cells are added

next-below : (n : ℕ) (next : List ℕ) (q : ℕ) → All (λ x. x < n) next → Contains next q → q < n
next-below n next q all h = All-contains (λ x. x < n) next q all h

goes-kept : (a b : List Item) (tasks : List Task) (st : Step) (next : List ℕ) → ExtendsItems a b → GoesAs a tasks st next → GoesAs b tasks st next
goes-kept a b tasks st next p g = record {
  shows = g.shows;
  forth = λ es left n.
      let t = g.forth es left n in
      record { to = t.to; among = t.among; is = tasks-extend a b t.to p (next-below (length a) next t.to g.linked t.among) ∙ t.is };
  linked = All-weaker (λ x. x < length a) (λ x. x < length b) (λ x h. let l : length a ≤ length b = extends-length a b p in omega arith) next g.linked;
  back = λ q h.
      let P : List Task → Type 0 = λ l. NextTasks tasks (shown st) l in
      subst P (sym (tasks-extend a b q p (next-below (length a) next q g.linked h))) (g.back q h);
  doing = g.doing;
}

goes-at : (items : List Item) (tasks tasks' : List Task) (st : Step) (next : List ℕ) → tasks ≡ tasks' → GoesAs items tasks st next → GoesAs items tasks' st next
goes-at items tasks tasks' st next e g =
    let P : List Task → Type 0 = λ l. GoesAs items l st next in
    subst P e g

-- ---- filling the table

pub placed-now : (items : List Item) (c : ℕ) (x : Item) → AreItemsSound items → item_at items c ≡ Some x → free_in x ≤ length items
placed-now items c x sound at = let within : c < length items = item-within items c x at in omega (arith, sound.placed c x at)

pub filled-none : (items : List Item) → AreItemsSound items → Filled items items [] 0
filled-none items sound = record {
  extends = extends-none items;
  sound = sound;
  count = refl;
  within = omega arith;
  goes = λ c n e. absurd (let h : c < 0 = slice_get_within [] c n e in omega arith);
}

last-or-former : (nodes : List node.Node) (n : node.Node) (c : ℕ) (x : node.Node) → slice_get (nodes ++ (n ∷ [])) c ≡ Some x
    → ((c ≡ length nodes) × (n ≡ x)) ⊎ (slice_get nodes c ≡ Some x)
last-or-former [] n zero x e = inl (refl, same_Some n x e)
last-or-former [] n (suc c) x e = absurd (none-some x e)
last-or-former (y ∷ nodes) n zero x e = inr e
last-or-former (y ∷ nodes) n (suc c) x e = elim (last-or-former nodes n c x e) [ inl t ↦ inl (ap suc t.0, t.1) | inr r ↦ inr r ]

pub filled-more : (old a b : List Item) (nodes nodes' : List node.Node) (done : ℕ) (x : Item) (n : node.Node)
    → Filled old a nodes (length nodes)
    → done ≡ length nodes
    → item_at a done ≡ Some x
    → nodes' ≡ nodes ++ (n ∷ [])
    → (IsBelow (length a) x → IsItemHeld (length a) (scope_at a) (tasks_at a) x → Steps a b (tasks_in (scope_at a) (tasks_at a) x) n)
    → Filled old b nodes' (length nodes')
filled-more old a b nodes nodes' done x n f q at pushed step_of =
    let within : done < length a = item-within a done x at in
    let s = step_of (below-more done (length a) x (omega arith) (f.sound.below done x at)) (f.sound.held done x at) in
    let tasks : tasks_at b done ≡ tasks_in (scope_at a) (tasks_at a) x = tasks-extend a b done s.extends within ∙ tasks-are a done x f.sound at in
    let len : length a ≤ length b = extends-length a b s.extends in
    let P : List node.Node → Type 0 = λ l. Filled old b l (length l) in
    subst P (sym pushed) (record {
      extends = extends-then old a b f.extends s.extends;
      sound = s.sound;
      count = refl;
      within = omega (arith, length-append nodes (n ∷ []), q);
      goes = λ c y e.
          elim (last-or-former nodes n c y e) [
            | inl t ↦
                let is : c ≡ done = t.0 ∙ sym q in
                let G : node.Node → Type 0 = λ z. GoesAs b (tasks_at b c) z.step (next_cells z.next) in
                subst G t.1 (goes-at b (tasks_in (scope_at a) (tasks_at a) x) (tasks_at b c) n.step (next_cells n.next) (sym (ap (tasks_at b) is ∙ tasks)) s.goes)
            | inr r ↦
                let c_within : c < length nodes = slice_get_within nodes c y r in
                goes-at b (tasks_at a c) (tasks_at b c) y.step (next_cells y.next) (sym (tasks-extend a b c s.extends (omega (arith, f.count)))) (goes-kept a b (tasks_at a c) y.step (next_cells y.next) s.extends (f.goes c y r))
          ];
    })

pub filled-all : (old items : List Item) (nodes : List node.Node) (done : ℕ) → Filled old items nodes (length nodes) → done ≡ length nodes → item_at items done ≡ None → Filled old items nodes (length items)
filled-all old items nodes done f q e =
    let h : length items ≤ done = item-past items done e in
    record { extends = f.extends; sound = f.sound; count = omega (arith, q, f.within); within = omega arith; goes = f.goes }

-- ---- the table agrees

get-map : {A B : Type 0} (f : A → B) (xs : List A) (i : ℕ) (x : A) (d : B) → slice_get xs i ≡ Some x → get_or (map f xs) i d ≡ f x
get-map f xs i x d e = get_or_from_slice_get (map f xs) i (f x) d (slice_get-map f xs i ∙ ap (option_map f) e)

get-none : {A B : Type 0} (f : A → B) (xs : List A) (i : ℕ) (d : B) → slice_get xs i ≡ None → get_or (map f xs) i d ≡ d
get-none f xs i d e = sym (unwrap_or-slice_get (map f xs) i d) ∙ ap (λ o. unwrap_or o d) (slice_get-map f xs i ∙ ap (option_map f) e)

at-table : (items : List Item) (tasks : List Task) (st st' : Step) (next next' : List ℕ) → st' ≡ st → next' ≡ next → GoesAs items tasks st next → GoesAs items tasks st' next'
at-table items tasks st st' next next' p q g =
    let P : Step → Type 0 = λ x. GoesAs items tasks x next' in
    let Q : List ℕ → Type 0 = λ x. GoesAs items tasks st x in
    subst P (sym p) (subst Q (sym q) g)

-- each node of the table goes on as its cell's tasks do
pub goes-table : (old items : List Item) (nodes : List node.Node) → Filled old items nodes (length items) → (c : ℕ) → GoesAs items (tasks_at items c) (step_at nodes c) (next_at nodes c)
goes-table old items nodes f c =
    elim ((slice_get_cases nodes c).1) [
      | inl s ↦
          at-table items (tasks_at items c) s.0.step (step_at nodes c) (next_cells s.0.next) (next_at nodes c)
          (get-map (λ (n : node.Node). n.step) nodes c s.0 step.Quiet s.2)
          (get-map (λ (n : node.Node). next_cells n.next) nodes c s.0 [] s.2)
          (f.goes c s.0 s.2)
      | inr p ↦
          goes-at items [] (tasks_at items c) (step_at nodes c) (next_at nodes c) (sym (tasks-past items c (omega (arith, p.0, f.count))))
          (at-table items [] step.Quiet (step_at nodes c) [] (next_at nodes c)
          (get-none (λ (n : node.Node). n.step) nodes c step.Quiet p.1)
          (get-none (λ (n : node.Node). next_cells n.next) nodes c [] p.1)
          (goes-last items))
    ]

pub agrees : (old items : List Item) (nodes : List node.Node) → Filled old items nodes (length items) → Agrees nodes (λ p tasks. tasks_at items p ≡ tasks)
agrees old items nodes f = record {
  forth = λ p tasks left es at n.
      let P : List Task → Type 0 = λ l. NextTasks l es left in
      let g = goes-table old items nodes f p in
      let m : NextTasks (tasks_at items p) es left = subst P (sym at) n in
      let t = g.forth es left m in
      record { shows = g.shows es left m; to = t.to; next = t.among; at = t.is };
  back = λ p q tasks at h.
      let P : List Task → Type 0 = λ l. NextTasks l (shown (step_at nodes p)) (tasks_at items q) in
      record { left = tasks_at items q; next = subst P at ((goes-table old items nodes f p).back q h); at = refl };
  doing = λ p tasks event at e.
      let d = (goes-table old items nodes f p).doing event e in
      record { left = d.0; is = sym at ∙ d.1 };
}

linked-node : (old items : List Item) (nodes : List node.Node) → Filled old items nodes (length items) → (c : ℕ) (n : node.Node) → slice_get nodes c ≡ Some n → IsLinked (length nodes) n
linked-node old items nodes f c n e =
    let P : ℕ → Type 0 = λ m. All (λ q. q < m) (next_cells n.next) in
    record { next = subst P (sym f.count) ((f.goes c n e).linked) }

linked-all : (all nodes : List node.Node) (count : ℕ) → nodes ≡ all → ((c : ℕ) (n : node.Node) → slice_get nodes c ≡ Some n → IsLinked count n) → All (IsLinked count) nodes
linked-all all [] count e h = All-nil (IsLinked count)
linked-all all (x ∷ nodes) count e h =
    All-from_get_or (IsLinked count) (x ∷ nodes) x (λ i w. h i (get_or (x ∷ nodes) i x) (slice_get-get_or (x ∷ nodes) i x w))

pub are-linked : (old items : List Item) (nodes : List node.Node) → Filled old items nodes (length items) → AreLinked nodes
are-linked old items nodes f = linked-all nodes nodes (length nodes) refl (linked-node old items nodes f)

pub live-iff : (old items : List Item) (nodes : List node.Node) (entry : ℕ) (f : FunctionTree) → Filled old items nodes (length items) → tasks_at items entry ≡ walk_tasks f
    → (bound point used : ℕ) → IsLiveIn f bound point used ↔ LeadsToBinding nodes bound point used entry
live-iff old items nodes entry f filled at bound point used =
    let stands : ℕ → List Task → Type 0 = λ p tasks. tasks_at items p ≡ tasks in (
      λ live. live_in_table nodes stands f entry bound point used (agrees old items nodes filled) at live,
      λ leads. live_on_walk nodes stands f entry bound point used (agrees old items nodes filled) at leads,
    )

-- ---- the cell at which a walk begins

sound-none : AreItemsSound []
sound-none = record {
  below = λ c x e. absurd (let h : c < 0 = item-within [] c x e in omega arith);
  held = λ c x e. absurd (let h : c < 0 = item-within [] c x e in omega arith);
  placed = λ c x e. absurd (let h : c < 0 = item-within [] c x e in omega arith);
}

pub record Ends (items : List Item) (end : ℕ) : Type 0 where
  pub sound : AreItemsSound items
  pub scope : IsScope items end []
  pub is : tasks_at items end ≡ []

pub ends : (old new : List Item) (end : ℕ) → old ≡ [] → (end ≡ length old) × (new ≡ item.Empty ∷ old) → Ends new end
ends old new end e pushed =
    let P : List Item → Type 0 = λ l. Ends l end in
    let at : end ≡ 0 = pushed.0 ∙ ap length e in
    subst P (sym (pushed.1 ∙ ap (λ (l : List Item). item.Empty ∷ l) e)) (record {
      sound = sound-push item.Empty [] sound-none tt tt (omega arith);
      scope = record { within = omega (arith, at); is = scope-here item.Empty [] end at };
      is = tasks-here item.Empty [] end at;
    })

pub begin-is : (ps ps' : List Param) (free : ℕ) (body : Expression) (rest : List Task) → ps' ≡ ps → free ≡ 0 + length ps' → rest ≡ []
    → (parameters_bound 0 (params_view ps') ++ (Evaluates (with_slots 0 (params_view ps') []) free body ∷ [])) ++ rest
    ≡ parameters_bound 0 (params_view ps) ++ (Evaluates (with_slots 0 (params_view ps) []) (length (params_view ps)) body ∷ [])
begin-is ps ps' free body rest e f r =
    let whole : ℕ → List Param → List Task = λ n l. parameters_bound 0 (params_view l) ++ (Evaluates (with_slots 0 (params_view l) []) n body ∷ []) in
    let size : free ≡ length (params_view ps') = omega (arith, f, length-map ps' param_view) in
    ap (λ (l : List Task). whole free ps' ++ l) r
    ∙ append-nil (whole free ps')
    ∙ ap (λ n. whole n ps') size
    ∙ ap (λ (l : List Param). whole (length (params_view l)) l) e

pub begin-typed : (ps ps' : List Param) (body : Expr) → ps' ≡ ps → IsAnnotated (with_parameters (params_view ps) []) body → IsAnnotated (names (with_slots 0 (params_view ps') [])) body
begin-typed ps ps' body e t =
    let P : List Scoped → Type 0 = λ l. IsAnnotated l body in
    subst P (sym (names-slots 0 (params_view ps') [] ∙ ap (λ (l : List Param). with_parameters (params_view l) []) e)) t
