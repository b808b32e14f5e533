-- Walks of a function, and ways over a table of nodes of which each stands for what is left to do.
use Rattle.std.proofs.Common.{◌≡◌, ℕ, Bool, true, List, [], ◌∷◌, ◌++◌, sym, ap, refl, subst, append_assoc}
use Rattle.std.specs.List.{Contains}
use Rattle.cmm_tree.specs.Tree.{FunctionTree}
use Rattle.walk_tables.specs.Walks.{Event, Binds, Uses, Passes, Task, Does, Evaluates, Enters, OneOf, MayRaise, Raises, Exits, Catches, Handles, tasks_of, entering, Walk, stops, walk_tasks, NextTasks, does, evaluates, enters, one_of, goes_on, may_raise, raises, exits, leaves_catch, leaves_try}
use Rattle.walk_tables.specs.Walks as walk
use Rattle.walk_tables.specs.AddrLive.{IsLiveIn}
use Rattle.walk_tables.specs.Table.{shown, step_at, next_at, Trail, here, goes, LeadsToUse, LeadsToPoint, LeadsToBinding}
use Rattle.walk_tables.specs.declared.node.Step.{Step}
use Rattle.walk_tables.specs.declared.node.Step.TheVariants as step
use Rattle.walk_tables.specs.declared.node.Node as node

-- a step before a walk
before_walk : (tasks tasks' : List Task) (es events : List Event) → NextTasks tasks es tasks' → Walk tasks' events → Walk tasks (es ++ events)
before_walk tasks tasks' es events next w = walk.goes tasks tasks' es events next w

-- what a step leads to
pub record StepsTo (nodes : List node.Node) (stands : ℕ → List Task → Type 0) (p : ℕ) (es : List Event) (tasks' : List Task) : Type 0 where
  pub shows : es ≡ shown (step_at nodes p)
  pub to : ℕ
  pub next : Contains (next_at nodes p) to
  pub at : stands to tasks'

-- what a next node stands for
pub record StepsFrom (stands : ℕ → List Task → Type 0) (tasks : List Task) (es : List Event) (q : ℕ) : Type 0 where
  pub left : List Task
  pub next : NextTasks tasks es left
  pub at : stands q left

pub record IsDoing (tasks : List Task) (event : Event) : Type 0 where
  pub left : List Task
  pub is : tasks ≡ Does event ∷ left

-- each node that stands for tasks goes on as they do
pub record Agrees (nodes : List node.Node) (stands : ℕ → List Task → Type 0) : Type 0 where
  pub forth : (p : ℕ) (tasks tasks' : List Task) (es : List Event) → stands p tasks → NextTasks tasks es tasks' → StepsTo nodes stands p es tasks'
  pub back : (p q : ℕ) (tasks : List Task) → stands p tasks → Contains (next_at nodes p) q → StepsFrom stands tasks (shown (step_at nodes p)) q
  pub doing : (p : ℕ) (tasks : List Task) (event : Event) → stands p tasks → shown (step_at nodes p) ≡ event ∷ [] → IsDoing tasks event

-- ---- from walks to ways

-- the node at which an event of a walk comes, and the walk after it
pub record Reached (nodes : List node.Node) (stands : ℕ → List Task → Type 0) (p : ℕ) (es : List Event) (event : Event) (rest : List Event) : Type 0 where
  pub node : ℕ
  pub left : List Task
  pub way : Trail nodes p es node
  pub at : stands node (Does event ∷ left)
  pub behind : Walk left rest

not_none : (es : List Event) (event : Event) (rest : List Event) → [] ≡ es ++ (event ∷ rest) → ⊥
not_none [] event rest e = cc
not_none (x ∷ es) event rest e = cc

first_is : (x y : Event) (xs ys : List Event) → x ∷ xs ≡ y ∷ ys → x ≡ y
first_is x y xs ys e = cc

rest_is : (x y : Event) (xs ys : List Event) → x ∷ xs ≡ y ∷ ys → xs ≡ ys
rest_is x y xs ys e = cc

-- a step before it
reached_behind : (nodes : List node.Node) (stands : ℕ → List Task → Type 0) (p : ℕ) (shows es : List Event) (event : Event) (rest : List Event) (tasks' : List Task)
    → (s : StepsTo nodes stands p shows tasks') → Reached nodes stands s.to es event rest → Reached nodes stands p (shows ++ es) event rest
reached_behind nodes stands p shows es event rest tasks' s r = record {
  node = r.node;
  left = r.left;
  way =
      let P : List Event → Type 0 = λ l. Trail nodes p (l ++ es) r.node in
      subst P (sym s.shows) (goes p s.to r.node es s.next r.way);
  at = r.at;
  behind = r.behind;
}

pub split : (nodes : List node.Node) (stands : ℕ → List Task → Type 0) → Agrees nodes stands
    → (tasks : List Task) (events : List Event) → Walk tasks events
    → (p : ℕ) (es : List Event) (event : Event) (rest : List Event) → stands p tasks → events ≡ es ++ (event ∷ rest) → Reached nodes stands p es event rest
split nodes stands a _ _ (walk.stops tasks) p es event rest at e = absurd (not_none es event rest e)
split nodes stands a _ _ (walk.goes _ _ _ events (does x tasks) w) p [] event rest at e =
    let P : Event → Type 0 = λ y. stands p (Does y ∷ tasks) in
    let W : List Event → Type 0 = λ l. Walk tasks l in
    record { node = p; left = tasks; way = here p; at = subst P (first_is x event events rest e) at; behind = subst W (rest_is x event events rest e) w }
split nodes stands a _ _ (walk.goes _ _ _ events (does x tasks) w) p (y ∷ es) event rest at e =
    let s = a.forth p (Does x ∷ tasks) tasks (x ∷ []) at (does x tasks) in
    let R : Event → Type 0 = λ z. Reached nodes stands p (z ∷ es) event rest in
    subst R (first_is x y events (es ++ (event ∷ rest)) e)
    (reached_behind nodes stands p (x ∷ []) es event rest tasks s (split nodes stands a tasks events w s.to es event rest s.at (rest_is x y events (es ++ (event ∷ rest)) e)))
split nodes stands a _ _ (walk.goes _ _ _ events (evaluates scope slot e' tasks) w) p es event rest at e =
    let s = a.forth p (Evaluates scope slot e' ∷ tasks) (tasks_of scope slot e' ++ tasks) [] at (evaluates scope slot e' tasks) in
    reached_behind nodes stands p [] es event rest (tasks_of scope slot e' ++ tasks) s (split nodes stands a (tasks_of scope slot e' ++ tasks) events w s.to es event rest s.at e)
split nodes stands a _ _ (walk.goes _ _ _ events (enters scope slot bindings body tasks) w) p es event rest at e =
    let s = a.forth p (Enters scope slot bindings body ∷ tasks) (entering scope slot bindings body ++ tasks) [] at (enters scope slot bindings body tasks) in
    reached_behind nodes stands p [] es event rest (entering scope slot bindings body ++ tasks) s (split nodes stands a (entering scope slot bindings body ++ tasks) events w s.to es event rest s.at e)
split nodes stands a _ _ (walk.goes _ _ _ events (one_of scope slot all one tasks c) w) p es event rest at e =
    let s = a.forth p (OneOf scope slot all ∷ tasks) (Evaluates scope slot one ∷ tasks) [] at (one_of scope slot all one tasks c) in
    reached_behind nodes stands p [] es event rest (Evaluates scope slot one ∷ tasks) s (split nodes stands a (Evaluates scope slot one ∷ tasks) events w s.to es event rest s.at e)
split nodes stands a _ _ (walk.goes _ _ _ events (goes_on tasks) w) p es event rest at e =
    let s = a.forth p (MayRaise ∷ tasks) tasks [] at (goes_on tasks) in
    reached_behind nodes stands p [] es event rest tasks s (split nodes stands a tasks events w s.to es event rest s.at e)
split nodes stands a _ _ (walk.goes _ _ _ events (may_raise tasks) w) p es event rest at e =
    let s = a.forth p (MayRaise ∷ tasks) (Raises ∷ tasks) [] at (may_raise tasks) in
    reached_behind nodes stands p [] es event rest (Raises ∷ tasks) s (split nodes stands a (Raises ∷ tasks) events w s.to es event rest s.at e)
split nodes stands a _ _ (walk.goes _ _ _ events (raises tasks handler is) w) p es event rest at e =
    let s = a.forth p (Raises ∷ tasks) handler [] at (raises tasks handler is) in
    reached_behind nodes stands p [] es event rest handler s (split nodes stands a handler events w s.to es event rest s.at e)
split nodes stands a _ _ (walk.goes _ _ _ events (exits label tasks handler is) w) p es event rest at e =
    let s = a.forth p (Exits label ∷ tasks) handler [] at (exits label tasks handler is) in
    reached_behind nodes stands p [] es event rest handler s (split nodes stands a handler events w s.to es event rest s.at e)
split nodes stands a _ _ (walk.goes _ _ _ events (leaves_catch scope slot in_handler handlers tasks) w) p es event rest at e =
    let s = a.forth p (Catches scope slot in_handler handlers ∷ tasks) tasks [] at (leaves_catch scope slot in_handler handlers tasks) in
    reached_behind nodes stands p [] es event rest tasks s (split nodes stands a tasks events w s.to es event rest s.at e)
split nodes stands a _ _ (walk.goes _ _ _ events (leaves_try scope slot name_at name handler tasks) w) p es event rest at e =
    let s = a.forth p (Handles scope slot name_at name handler ∷ tasks) tasks [] at (leaves_try scope slot name_at name handler tasks) in
    reached_behind nodes stands p [] es event rest tasks s (split nodes stands a tasks events w s.to es event rest s.at e)

binds_is : (slot : ℕ) (address : Bool) (at : ℕ) (st : Step) → Binds slot address at ∷ [] ≡ shown st → st ≡ step.Binds slot address at
binds_is slot address at step.Quiet e = cc
binds_is slot address at (step.Binds s a t) e = cc
binds_is slot address at (step.Uses s t) e = cc
binds_is slot address at (step.Passes t) e = cc

uses_is : (slot at : ℕ) (st : Step) → Uses slot at ∷ [] ≡ shown st → st ≡ step.Uses slot at
uses_is slot at step.Quiet e = cc
uses_is slot at (step.Binds s a t) e = cc
uses_is slot at (step.Uses s t) e = cc
uses_is slot at (step.Passes t) e = cc

passes_is : (at : ℕ) (st : Step) → Passes at ∷ [] ≡ shown st → st ≡ step.Passes at
passes_is at step.Quiet e = cc
passes_is at (step.Binds s a t) e = cc
passes_is at (step.Uses s t) e = cc
passes_is at (step.Passes t) e = cc

-- an address that some walk of the function has live is live in the table
pub live_in_table : (nodes : List node.Node) (stands : ℕ → List Task → Type 0) (f : FunctionTree) (entry bound point used : ℕ)
    → Agrees nodes stands → stands entry (walk_tasks f) → IsLiveIn f bound point used → LeadsToBinding nodes bound point used entry
live_in_table nodes stands f entry bound point used a at l =
    let r1 = split nodes stands a (walk_tasks f) (l.before ++ (Binds l.slot true bound ∷ (l.until_point ++ (Passes point ∷ (l.until_use ++ (Uses l.slot used ∷ [])))))) l.walk entry l.before (Binds l.slot true bound) (l.until_point ++ (Passes point ∷ (l.until_use ++ (Uses l.slot used ∷ [])))) at refl in
    let s1 = a.forth r1.node (Does (Binds l.slot true bound) ∷ r1.left) r1.left (Binds l.slot true bound ∷ []) r1.at (does (Binds l.slot true bound) r1.left) in
    let r2 = split nodes stands a r1.left (l.until_point ++ (Passes point ∷ (l.until_use ++ (Uses l.slot used ∷ [])))) r1.behind s1.to l.until_point (Passes point) (l.until_use ++ (Uses l.slot used ∷ [])) s1.at refl in
    let s2 = a.forth r2.node (Does (Passes point) ∷ r2.left) r2.left (Passes point ∷ []) r2.at (does (Passes point) r2.left) in
    let r3 = split nodes stands a r2.left (l.until_use ++ (Uses l.slot used ∷ [])) r2.behind s2.to l.until_use (Uses l.slot used) [] s2.at refl in
    let s3 = a.forth r3.node (Does (Uses l.slot used) ∷ r3.left) r3.left (Uses l.slot used ∷ []) r3.at (does (Uses l.slot used) r3.left) in
    let leads_to_use : LeadsToUse nodes l.slot used s2.to = record { use_node = r3.node; events = l.until_use; way = r3.way; unbound = l.kept_until_use; uses = uses_is l.slot used (step_at nodes r3.node) s3.shows } in
    let leads_to_point : LeadsToPoint nodes l.slot point used s1.to = record { point_node = r2.node; next_node = s2.to; events = l.until_point; way = r2.way; unbound = l.kept_until_point; passes = passes_is point (step_at nodes r2.node) s2.shows; next = s2.next; on = leads_to_use } in
    record { slot = l.slot; bound_node = r1.node; next_node = s1.to; events = l.before; way = r1.way; binds = binds_is l.slot true bound (step_at nodes r1.node) s1.shows; next = s1.next; on = leads_to_point }

-- ---- from ways to walks

pub record Led (stands : ℕ → List Task → Type 0) (tasks : List Task) (es : List Event) (q : ℕ) : Type 0 where
  pub left : List Task
  pub at : stands q left
  pub walks : (rest : List Event) → Walk left rest → Walk tasks (es ++ rest)

pub led : (nodes : List node.Node) (stands : ℕ → List Task → Type 0) → Agrees nodes stands
    → (p q : ℕ) (es : List Event) → Trail nodes p es q → (tasks : List Task) → stands p tasks → Led stands tasks es q
led nodes stands a _ _ _ (here p) tasks at = record { left = tasks; at = at; walks = λ rest w. w }
led nodes stands a _ _ _ (goes p m q es next way) tasks at =
    let s = a.back p m tasks at next in
    let r = led nodes stands a m q es way s.left s.at in
    record {
      left = r.left;
      at = r.at;
      walks = λ rest w.
          let P : List Event → Type 0 = λ l. Walk tasks l in
          subst P (sym (append_assoc (shown (step_at nodes p)) es rest))
          (before_walk tasks s.left (shown (step_at nodes p)) (es ++ rest) s.next (r.walks rest w));
    }

-- a node with an event, and one after it
led_on : (nodes : List node.Node) (stands : ℕ → List Task → Type 0) → Agrees nodes stands → (p q : ℕ) (event : Event) (tasks : List Task)
    → stands p tasks → shown (step_at nodes p) ≡ event ∷ [] → Contains (next_at nodes p) q → Led stands tasks (event ∷ []) q
led_on nodes stands a p q event tasks at e next =
    let s = a.back p q tasks at next in
    let P : List Event → Type 0 = λ l. NextTasks tasks l s.left in
    record { left = s.left; at = s.at; walks = λ rest w. before_walk tasks s.left (event ∷ []) rest (subst P e s.next) w }

-- the event of a node alone
alone : (tasks : List Task) (event : Event) → IsDoing tasks event → Walk tasks (event ∷ [])
alone tasks event d =
    let P : List Task → Type 0 = λ l. Walk l (event ∷ []) in
    subst P (sym d.is) (walk.goes (Does event ∷ d.left) d.left (event ∷ []) [] (does event d.left) (walk.stops d.left))

-- an address that is live in the table is live on some walk of the function
pub live_on_walk : (nodes : List node.Node) (stands : ℕ → List Task → Type 0) (f : FunctionTree) (entry bound point used : ℕ)
    → Agrees nodes stands → stands entry (walk_tasks f) → LeadsToBinding nodes bound point used entry → IsLiveIn f bound point used
live_on_walk nodes stands f entry bound point used a at l =
    let to_binding = led nodes stands a entry l.bound_node l.events l.way (walk_tasks f) at in
    let binding = led_on nodes stands a l.bound_node l.next_node (Binds l.slot true bound) to_binding.left to_binding.at (ap shown l.binds) l.next in
    let to_point = led nodes stands a l.next_node l.on.point_node l.on.events l.on.way binding.left binding.at in
    let passing = led_on nodes stands a l.on.point_node l.on.next_node (Passes point) to_point.left to_point.at (ap shown l.on.passes) l.on.next in
    let to_use = led nodes stands a l.on.next_node l.on.on.use_node l.on.on.events l.on.on.way passing.left passing.at in
    let using = alone to_use.left (Uses l.slot used) (a.doing l.on.on.use_node to_use.left (Uses l.slot used) to_use.at (ap shown l.on.on.uses)) in
    let last = to_use.walks (Uses l.slot used ∷ []) using in
    let third = passing.walks (l.on.on.events ++ (Uses l.slot used ∷ [])) last in
    let second = to_point.walks (Passes point ∷ (l.on.on.events ++ (Uses l.slot used ∷ []))) third in
    let first = binding.walks (l.on.events ++ (Passes point ∷ (l.on.on.events ++ (Uses l.slot used ∷ [])))) second in
    record {
      slot = l.slot;
      before = l.events;
      until_point = l.on.events;
      until_use = l.on.on.events;
      walk = to_binding.walks (Binds l.slot true bound ∷ (l.on.events ++ (Passes point ∷ (l.on.on.events ++ (Uses l.slot used ∷ []))))) first;
      kept_until_point = l.on.unbound;
      kept_until_use = l.on.on.unbound;
    }
