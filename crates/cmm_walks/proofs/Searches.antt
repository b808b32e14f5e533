-- The search for the least limits within which an address is live.
use Rattle.std.proofs.Common.{get_or, ◌≡◌, ◌⊎◌, ℕ, zero, suc, ◌+◌, ◌<◌, ◌≤◌, Bool, true, false, ◌&&◌, ◌||◌, cond, List, [], ◌∷◌, ◌++◌, length, sym, ◌∙◌, ap, inl, inr, arith, refl, subst}
use Rattle.std.specs.Prelude.{◌==◌, Option, Some, None, filter_map, flat_map}
use Rattle.std.specs.List.{All, Contains, list_any}
use Rattle.std.proofs.lemmas.Bool.{and_parts, eqb-true, eq-eqb}
use Rattle.std.proofs.lemmas.List.Elements.{Contains-append_left, Contains-append_right, Contains-append_cases, Contains-get_or, All-contains, All-head, All-tail}
use Rattle.walk_tables.specs.Walks.{Event}
use Rattle.walk_tables.specs.Walks as event
use Rattle.walk_tables.specs.AddrLive.{Unbound}
use Rattle.walk_tables.specs.Table.{shown, step_at, next_at, Trail, here, goes, AreNodes, IsNode, slot_below}
use Rattle.cmm_walks.specs.Groups.{members, NamesSlot, AreMentions}
use Rattle.cmm_walks.specs.Labels.{unlabelled, label_at, known_label, Leads, IsUnlabelled, FirstLabels}
use Rattle.cmm_walks.specs.Seeds.{bound_by, later, seed_with, use_seed, point_seed, binding_seed, binding_seeds}
use Rattle.cmm_walks.specs.First.{IsWithin, own_limit, up_to, binds_address_to, BindsWithin, Seeded, AreSlotSeeds, IsLeastTold}
use Rattle.walk_tables.specs.declared.node.Step.{Step}
use Rattle.walk_tables.specs.declared.node.Step.TheVariants as step
use Rattle.walk_tables.specs.declared.node.Node as node
use Rattle.cmm_walks.specs.declared.labels.Seed.{Seed}
use Rattle.cmm_walks.specs.declared.labels.NodeLabels.{NodeLabels}
use Rattle.cmm_walks.specs.declared.limits.Limits.{Limits}
use Rattle.cmm_walks.specs.declared.seeds.Goal.{Goal}
use Rattle.cmm_walks.specs.declared.groups.NodeGroup as group
use Rattle.walk_tables.proofs.Elements.{no_element, first_or_rest, only, unbound_none, unbound_both}
use Rattle.cmm_walks.proofs.Grouped.{step_within}
use Rattle.cmm_walks.proofs.Levels.{kept_from, kept_to, all_from, all_to, guarded, seed_from, seed_to, Both, UpTo, later_from, later_up, known_from, known_to, bound_down, bound_up, whole, uses_told, uses_within, points_told, points_within, PointUpTo, Tells}

-- ---- the seeds of bindings

record OfBinding (nodes : List node.Node) (goal : Goal) (labels : List ℕ) (slot : ℕ) (s : Seed) (p n : ℕ) : Type 0 where
  pub bound : ℕ
  pub place : s.place ≡ p
  pub binds : step_at nodes p ≡ step.Binds slot true bound
  pub both : Both (known_label labels n) (bound_by goal.part goal.limits.bound bound) s.label

binding_from : (nodes : List node.Node) (goal : Goal) (labels : List ℕ) (slot p n : ℕ) (s : Seed) (st : Step) → step_at nodes p ≡ st → binding_seed goal labels slot p st n ≡ Some s → OfBinding nodes goal labels slot s p n
binding_from nodes goal labels slot p n s step.Quiet is e = cc
binding_from nodes goal labels slot p n s (step.Uses own at) is e = cc
binding_from nodes goal labels slot p n s (step.Passes at) is e = cc
binding_from nodes goal labels slot p n s (step.Binds own address at) is e =
    let l : Option ℕ = later (known_label labels n) (bound_by goal.part goal.limits.bound at) in
    let r = guarded (address && own == slot) (seed_with p l) s e in
    let t = seed_from p l s r.1 in
    let q = and_parts address (own == slot) r.0 in
    let same : own ≡ slot = eqb-true own slot q.1 in
    record {
      bound = at;
      place = t.1;
      binds = is ∙ (ap (λ (a : Bool). step.Binds own a at) q.0 ∙ ap (λ (k : ℕ). step.Binds k true at) same);
      both = later_from (known_label labels n) (bound_by goal.part goal.limits.bound at) s.label t.0;
    }

-- what a node binds and where it leads, from the label of a node after it
binding_here : (nodes : List node.Node) (goal : Goal) (slot : ℕ) (l : NodeLabels) (p : ℕ) (s : Seed) → Tells (PointUpTo nodes slot) goal l.of.items
    → Contains (binding_seeds goal l.of.items nodes slot p) s → (s.label ≤ own_limit goal) × BindsWithin nodes slot (up_to goal s.label) s.place
binding_here nodes goal slot l p s t h =
    let seed_of : ℕ → Option Seed = λ n. binding_seed goal l.of.items slot p (step_at nodes p) n in
    let k = kept_from seed_of (next_at nodes p) s h in
    let u = binding_from nodes goal l.of.items slot p k.0 s (step_at nodes p) refl k.2 in
    let kn = known_from l.of.items k.0 u.both.one u.both.is in
    let d = bound_down goal.limits goal.part u.bound u.both.other s.label u.both.other_is u.both.other_below in
    let v = t.from k.0 s.label kn.0 (omega (arith, kn.1, u.both.below)) in
    let T : ℕ → Type 0 = λ n. step_at nodes n ≡ step.Binds slot true u.bound in
    let N : ℕ → Type 0 = λ n. Contains (next_at nodes n) k.0 in (
      elim u.both.which [ inl e ↦ omega (arith, e, kn.1, v.1) | inr e ↦ omega (arith, e, d.1) ],
      record {
        bound = u.bound;
        point = v.0.point;
        used = v.0.used;
        next_node = k.0;
        bound_within = d.0;
        point_within = v.0.point_within;
        used_within = v.0.used_within;
        binds = subst T (sym u.place) u.binds;
        next = subst N (sym u.place) k.1;
        on = v.0.leads;
      },
    )

binding_there : (nodes : List node.Node) (goal : Goal) (slot : ℕ) (l : NodeLabels) (p x : ℕ) → own_limit goal < unlabelled → Tells (PointUpTo nodes slot) goal l.of.items
    → x ≤ own_limit goal → BindsWithin nodes slot (up_to goal x) p → Seeded (binding_seeds goal l.of.items nodes slot p) p x
binding_there nodes goal slot l p x fits t top b =
    let seed_of : ℕ → Option Seed = λ n. binding_seed goal l.of.items slot p (step_at nodes p) n in
    let n : ℕ = b.next_node in
    let label : label_at l.of.items n ≤ x = t.to n x top (record { point = b.point; used = b.used; point_within = b.point_within; used_within = b.used_within; leads = b.on }) in
    let labelled : label_at l.of.items n < unlabelled = omega (arith, label, top, fits) in
    let v : UpTo (known_label l.of.items n) x = record { label = label_at l.of.items n; is = known_to l.of.items n labelled; below = label } in
    let bound : Option ℕ = bound_by goal.part goal.limits.bound b.bound in
    let w = later_up (known_label l.of.items n) bound x v (bound_up goal.limits goal.part b.bound x top b.bound_within) in
    let s : Seed = record { label = w.label; place = p } in
    let seed : seed_of n ≡ Some s =
    ap (λ (st : Step). binding_seed goal l.of.items slot p st n) b.binds
    ∙ (ap (λ (t : Bool). cond t (seed_with p (later (known_label l.of.items n) bound)) None) (eq-eqb slot slot refl)
    ∙ seed_to p (later (known_label l.of.items n) bound) w.label w.is) in
    record { seed = s; among = kept_to seed_of (next_at nodes p) n s b.next seed; place = refl; below = w.below }

-- ---- one slot

pub slot_seeds : (nodes : List node.Node) (mentions : List group.NodeGroup) (goal : Goal) (slot : ℕ) (places : List ℕ) (l : NodeLabels) (old new : List Seed) → own_limit goal < unlabelled → AreMentions nodes mentions → places ≡ members mentions slot
    → Tells (PointUpTo nodes slot) goal l.of.items → new ≡ old ++ flat_map (binding_seeds goal l.of.items nodes slot) places → AreSlotSeeds nodes goal slot old new
slot_seeds nodes mentions goal slot places l old new fits m at t is =
    let seeds_of : ℕ → List Seed = binding_seeds goal l.of.items nodes slot in
    record {
      kept = λ s h. let C : List Seed → Type 0 = λ xs. Contains xs s in subst C (sym is) (Contains-append_left old (flat_map seeds_of places) s h);
      sound = λ s h.
          let C : List Seed → Type 0 = λ xs. Contains xs s in
          elim (Contains-append_cases old (flat_map seeds_of places) s (subst C is h)) [
            | inl before ↦ inl before
            | inr later ↦ let a = all_from seeds_of places s later in inr (binding_here nodes goal slot l a.0 s t a.2)
          ];
      complete = λ p x top b.
          let r = binding_there nodes goal slot l p x fits t top b in
          let S : Step → Type 0 = λ st. NamesSlot slot st in
          let among : Contains places p = let C : List ℕ → Type 0 = λ xs. Contains xs p in subst C (sym at) (m.named slot p (subst S (sym b.binds) refl)) in
          let C : List Seed → Type 0 = λ xs. Contains xs r.seed in
          record { seed = r.seed; among = subst C (sym is) (Contains-append_right old (flat_map seeds_of places) r.seed (all_to seeds_of places p r.seed among r.among)); place = r.place; below = r.below };
    }

any_has : (test : ℕ → Bool) (xs : List ℕ) (x : ℕ) → Contains xs x → test x ≡ true → list_any test xs ≡ true
any_has test [] x h e = absurd (no_element x h)
any_has test (y ∷ ys) x h e =
    elim (first_or_rest y ys x h) [
      | inl at ↦ let t : test y ≡ true = ap test at ∙ e in rw t
      | inr later ↦ or_true (test y) (list_any test ys) (any_has test ys x later e)
    ]
  where
    or_true : (a b : Bool) → b ≡ true → (a || b) ≡ true
    or_true true b h = refl
    or_true false b h = h

-- a slot that no address is bound to
pub no_slot_seeds : (nodes : List node.Node) (mentions : List group.NodeGroup) (goal : Goal) (slot : ℕ) (places : List ℕ) (some : Bool) (old : List Seed) → AreMentions nodes mentions → places ≡ members mentions slot
    → some ≡ list_any (λ (p : ℕ). binds_address_to slot (step_at nodes p)) places → some ≡ false → AreSlotSeeds nodes goal slot old old
no_slot_seeds nodes mentions goal slot places some old m at is none = record {
  kept = λ s h. h;
  sound = λ s h. inl h;
  complete = λ p x top b.
      let test : ℕ → Bool = λ q. binds_address_to slot (step_at nodes q) in
      let S : Step → Type 0 = λ st. NamesSlot slot st in
      let among : Contains places p = let C : List ℕ → Type 0 = λ xs. Contains xs p in subst C (sym at) (m.named slot p (subst S (sym b.binds) refl)) in
      let yes : test p ≡ true = ap (binds_address_to slot) b.binds ∙ eq-eqb slot slot refl in
      let t : list_any test places ≡ true = any_has test places p among yes in
      absurd (let f : true ≡ false = sym t ∙ (sym is ∙ none) in cc);
}

-- ---- all slots

pub record SlotsDone (nodes : List node.Node) (goal : Goal) (count : ℕ) (found : List Seed) : Type 0 where
  pub sound : (s : Seed) → Contains found s → (s.label ≤ own_limit goal) × ((slot : ℕ) × BindsWithin nodes slot (up_to goal s.label) s.place)
  pub complete : (slot p x : ℕ) → slot < count → x ≤ own_limit goal → BindsWithin nodes slot (up_to goal x) p → Seeded found p x

pub slots_none : (nodes : List node.Node) (goal : Goal) (found : List Seed) → found ≡ [] → SlotsDone nodes goal 0 found
slots_none nodes goal found is = record {
  sound = λ s h. let C : List Seed → Type 0 = λ xs. Contains xs s in absurd (no_element s (subst C is h));
  complete = λ slot p x less top b. absurd (omega (arith, less));
}

below_or_at : (a b : ℕ) → a < b + 1 → (a < b) ⊎ (a ≡ b)
below_or_at a b h = grind arith

pub slots_more : (nodes : List node.Node) (goal : Goal) (slot : ℕ) (found new : List Seed) → SlotsDone nodes goal slot found → AreSlotSeeds nodes goal slot found new → SlotsDone nodes goal (slot + 1) new
slots_more nodes goal slot found new d a = record {
  sound = λ s h. elim (a.sound s h) [
    | inl before ↦ d.sound s before
    | inr bound ↦ (bound.0, (slot, bound.1))
  ];
  complete = λ other p x less top b. elim (below_or_at other slot less) [
    | inl before ↦
        let r = d.complete other p x before top b in
        record { seed = r.seed; among = a.kept r.seed r.among; place = r.place; below = r.below }
    | inr e ↦ let B : ℕ → Type 0 = λ k. BindsWithin nodes k (up_to goal x) p in a.complete p x top (subst B e b)
  ];
}

pub found_within : (nodes : List node.Node) (goal : Goal) (count : ℕ) (found : List Seed) → SlotsDone nodes goal count found → (s : Seed) → Contains found s → s.place < length nodes
found_within nodes goal count found d s h =
    let r = (d.sound s h).1 in
    let S : Step → Type 0 = λ st. NamesSlot r.0 st in
    step_within nodes r.0 s.place (subst S (sym r.1.binds) refl)

-- ---- the node at which a walk begins

step_at_below : (count bound : ℕ) (nodes : List node.Node) (p : ℕ) → All (IsNode count bound) nodes → slot_below bound (step_at nodes p)
step_at_below count bound [] p all = tt
step_at_below count bound (n ∷ nodes) zero all = (All-head (IsNode count bound) n nodes all).slot
step_at_below count bound (n ∷ nodes) (suc p) all = step_at_below count bound nodes p (All-tail (IsNode count bound) n nodes all)

step_below : (nodes : List node.Node) (bound p : ℕ) → AreNodes bound nodes → slot_below bound (step_at nodes p)
step_below nodes bound p are = step_at_below (length nodes) bound nodes p are

-- no node binds the number that all slots are below
slot_free : (nodes : List node.Node) (bound p : ℕ) → AreNodes bound nodes → Unbound bound (shown (step_at nodes p))
slot_free nodes bound p are = free (step_at nodes p) (step_below nodes bound p are)
  where
    free : (st : Step) → slot_below bound st → Unbound bound (shown st)
    free step.Quiet h = unbound_none bound
    free (step.Binds slot address at) h = λ address' at' c.
        let e : event.Binds slot address at ≡ event.Binds bound address' at' = only (event.Binds slot address at) (event.Binds bound address' at') c in
        let same : slot ≡ bound = cc in
        omega (arith, h, same)
    free (step.Uses slot at) h = λ address' at' c. let e : event.Uses slot at ≡ event.Binds bound address' at' = only (event.Uses slot at) (event.Binds bound address' at') c in cc
    free (step.Passes at) h = λ address' at' c. let e : event.Passes at ≡ event.Binds bound address' at' = only (event.Passes at) (event.Binds bound address' at') c in cc

way_free : (nodes : List node.Node) (bound : ℕ) → AreNodes bound nodes → (p q : ℕ) (events : List Event) → Trail nodes p events q → Unbound bound events
way_free nodes bound are _ _ _ (here p) = unbound_none bound
way_free nodes bound are _ _ _ (goes p m q events next way) = unbound_both bound (shown (step_at nodes p)) events (slot_free nodes bound p are) (way_free nodes bound are m q events way)

pub seeds_from : (nodes : List node.Node) (bound entry : ℕ) (goal : Goal) (found : List Seed) (l : NodeLabels) → own_limit goal < unlabelled → AreNodes bound nodes
    → SlotsDone nodes goal bound found → FirstLabels nodes bound found l → label_at l.of.items entry < unlabelled
    → IsWithin nodes (up_to goal (label_at l.of.items entry)) entry × (label_at l.of.items entry ≤ own_limit goal)
seeds_from nodes bound entry goal found l fits are d f less =
    let r = f.from entry less in
    let s = d.sound r.seed r.among in
    let b = s.1.1 in
    let W : ℕ → Type 0 = λ x. IsWithin nodes (up_to goal x) entry in (
      subst W r.is (record {
        bound = b.bound;
        point = b.point;
        used = b.used;
        bound_within = b.bound_within;
        point_within = b.point_within;
        used_within = b.used_within;
        leads = record { slot = s.1.0; bound_node = r.seed.place; next_node = b.next_node; events = r.leads.events; way = r.leads.way; binds = b.binds; next = b.next; on = b.on };
      }),
      omega (arith, r.is, s.0),
    )

pub seeds_to : (nodes : List node.Node) (bound entry x : ℕ) (goal : Goal) (found : List Seed) (l : NodeLabels) → AreNodes bound nodes
    → SlotsDone nodes goal bound found → FirstLabels nodes bound found l → x ≤ own_limit goal → IsWithin nodes (up_to goal x) entry
    → label_at l.of.items entry ≤ x
seeds_to nodes bound entry x goal found l are d f top w =
    let b = w.leads in
    let S : Step → Type 0 = λ st. slot_below bound st in
    let less : b.slot < bound = subst S b.binds (step_below nodes bound b.bound_node are) in
    let within : BindsWithin nodes b.slot (up_to goal x) b.bound_node = record { bound = w.bound; point = w.point; used = w.used; next_node = b.next_node; bound_within = w.bound_within; point_within = w.point_within; used_within = w.used_within; binds = b.binds; next = b.next; on = b.on } in
    let r = d.complete b.slot b.bound_node x less top within in
    let L : ℕ → Type 0 = λ n. Leads nodes bound entry n in
    let leads : Leads nodes bound entry r.seed.place = subst L (sym r.place) (record { events = b.events; way = b.way; unbound = way_free nodes bound are entry b.bound_node b.events b.way }) in
    let k = f.least r.seed r.among entry leads in
    omega (arith, k, r.below)

pub least_told : (nodes : List node.Node) (bound entry : ℕ) (goal : Goal) (found : List Seed) (l : NodeLabels) (told : Option ℕ) → own_limit goal < unlabelled → AreNodes bound nodes
    → SlotsDone nodes goal bound found → FirstLabels nodes bound found l → told ≡ known_label l.of.items entry → IsLeastTold nodes entry goal told
least_told nodes bound entry goal found l None fits are d f is = λ w.
    let same : up_to goal (own_limit goal) ≡ goal.limits = whole goal.limits goal.part in
    let W : Limits → Type 0 = λ x. IsWithin nodes x entry in
    let label : label_at l.of.items entry ≤ own_limit goal = seeds_to nodes bound entry (own_limit goal) goal found l are d f (omega arith) (subst W (sym same) w) in
    let known = known_to l.of.items entry (omega (arith, label, fits)) in
    let e : None ≡ Some (label_at l.of.items entry) = is ∙ known in cc
least_told nodes bound entry goal found l (Some limit) fits are d f is =
    let known = known_from l.of.items entry limit (sym is) in
    let r = seeds_from nodes bound entry goal found l fits are d f known.0 in
    let W : ℕ → Type 0 = λ x. IsWithin nodes (up_to goal x) entry in
    record {
      within = subst W known.1 r.0;
      none_below = λ x less w.
          let label : label_at l.of.items entry ≤ x = seeds_to nodes bound entry x goal found l are d f (omega (arith, less, known.1, r.1)) w in
          omega (arith, label, less, known.1);
    }

-- ---- as the code has them

pub all_places : (n : ℕ) (seeds : List Seed) → ((s : Seed) → Contains seeds s → s.place < n) → All (λ (s : Seed). s.place < n) seeds
all_places n seeds h = λ k d below. h (get_or seeds k d) (Contains-get_or seeds k d below)

pub uses_fit : (nodes : List node.Node) (goal : Goal) (slot : ℕ) (places : List ℕ) (seeds : List Seed) → seeds ≡ filter_map (λ (p : ℕ). use_seed goal slot p (step_at nodes p)) places
    → All (λ (s : Seed). s.place < length nodes) seeds
uses_fit nodes goal slot places seeds is = all_places (length nodes) seeds (uses_within nodes goal slot places seeds is)

pub points_fit : (nodes : List node.Node) (goal : Goal) (slot : ℕ) (first_seeds : List Seed) (first : NodeLabels) (seeds : List Seed) → FirstLabels nodes slot first_seeds first
    → seeds ≡ filter_map (λ (p : ℕ). point_seed goal first.of.items p (step_at nodes p)) first.queue.items
    → All (λ (s : Seed). s.place < length nodes) seeds
points_fit nodes goal slot first_seeds first seeds f is =
    all_places (length nodes) seeds
    (points_within nodes goal first seeds is
    (λ p h. let w : p < length first.of.items = All-contains (λ (q : ℕ). q < length first.of.items) first.queue.items p f.kept.within h in omega (arith, w, f.len)))

pub unlabelled_as : (nodes : List node.Node) (slot : ℕ) (seeds : List Seed) (old new : NodeLabels) → FirstLabels nodes slot seeds old → IsUnlabelled (length old.of.items) new → IsUnlabelled (length nodes) new
unlabelled_as nodes slot seeds old new f u = let P : ℕ → Type 0 = λ n. IsUnlabelled n new in subst P f.len u

-- the seeds of a slot, from the labels of its uses and then of its frame points
pub slot_searched : (nodes : List node.Node) (mentions : List group.NodeGroup) (goal : Goal) (slot : ℕ) (places : List ℕ) (uses points : List Seed) (first second : NodeLabels) (old new : List Seed)
    → own_limit goal < unlabelled → AreMentions nodes mentions → places ≡ members mentions slot
    → uses ≡ filter_map (λ (p : ℕ). use_seed goal slot p (step_at nodes p)) places → FirstLabels nodes slot uses first
    → points ≡ filter_map (λ (p : ℕ). point_seed goal first.of.items p (step_at nodes p)) first.queue.items → FirstLabels nodes slot points second
    → new ≡ old ++ flat_map (binding_seeds goal second.of.items nodes slot) places → AreSlotSeeds nodes goal slot old new
slot_searched nodes mentions goal slot places uses points first second old new fits m at us f1 ps f2 is =
    let t1 = uses_told nodes mentions goal slot places uses first m at us f1 in
    let t2 = points_told nodes goal slot first points second fits f1.kept.kept t1 ps f2 in
    slot_seeds nodes mentions goal slot places second old new fits m at t2 is

pub slots_all : (nodes : List node.Node) (goal : Goal) (count i : ℕ) (found : List Seed) → count ≤ i → SlotsDone nodes goal i found → SlotsDone nodes goal count found
slots_all nodes goal count i found le d = record {
  sound = d.sound;
  complete = λ slot p x less top b. d.complete slot p x (omega (arith, less, le)) top b;
}
