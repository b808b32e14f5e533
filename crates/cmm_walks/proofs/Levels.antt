-- The labels of a search: up to which limits a node leads on.
use Rattle.std.proofs.Common.{take, get_or, append_assoc, ◌≡◌, ◌⊎◌, ℕ, ◌+◌, ◌<◌, ◌≤◌, Bool, true, false, cond, List, [], ◌∷◌, ◌++◌, length, sym, ◌∙◌, ap, inl, inr, arith, refl, subst}
use Rattle.std.specs.Prelude.{◌==◌, nat_le, nat_lt, Option, Some, None, filter_map, flat_map}
use Rattle.std.specs.List.{cons_option}
use Rattle.std.specs.List.{Contains}
use Rattle.std.proofs.lemmas.Bool.{eqb-true, eq-eqb}
use Rattle.std.proofs.lemmas.Bool.Decides.{nat_tests}
use Rattle.std.proofs.lemmas.List.Elements.{Contains-append_left, Contains-append_right, Contains-append_cases, filter_map-append}
use Rattle.std.proofs.lemmas.List.{take_more, append-nil}
use Rattle.std.specs.Option.{option_to_list}
use Rattle.walk_tables.specs.Walks.{Event}
use Rattle.walk_tables.specs.Walks as event
use Rattle.walk_tables.specs.AddrLive.{Unbound}
use Rattle.walk_tables.specs.Table.{shown, step_at, next_at, Trail, here, goes, LeadsToUse, LeadsToPoint}
use Rattle.cmm_walks.specs.Groups.{members, NamesSlot, AreMentions}
use Rattle.cmm_walks.specs.Labels.{unlabelled, label_at, known_label, FirstLabels}
use Rattle.cmm_walks.specs.Seeds.{within, used_by, point_by, bound_by, later, seed_with, use_seed, point_seed}
use Rattle.cmm_walks.specs.First.{with_part, part_of, own_limit, up_to}
use Rattle.walk_tables.specs.declared.node.Step.{Step}
use Rattle.walk_tables.specs.declared.node.Step.TheVariants as step
use Rattle.walk_tables.specs.declared.node.Node as node
use Rattle.cmm_walks.specs.declared.labels.Seed.{Seed}
use Rattle.cmm_walks.specs.declared.labels.NodeLabels.{NodeLabels}
use Rattle.cmm_walks.specs.declared.limits.Limits.{Limits}
use Rattle.cmm_walks.specs.declared.limits.Part.{Part}
use Rattle.cmm_walks.specs.declared.limits.Part.TheVariants as part
use Rattle.cmm_walks.specs.declared.seeds.Goal.{Goal}
use Rattle.cmm_walks.specs.declared.groups.NodeGroup as group
use Rattle.walk_tables.proofs.Elements.{no_element, only, first_or_rest, unbound_rest}
use Rattle.cmm_walks.proofs.Grouped.{step_within}
use Rattle.cmm_walks.proofs.Spreads.{leads_on}

-- ---- what a filter keeps

kept_case : (rest : List Seed) (o : Option Seed) (y : Seed) → Contains (cons_option o rest) y → Contains rest y ⊎ (o ≡ Some y)
kept_case rest None y h = inl h
kept_case rest (Some z) y h = elim (first_or_rest z rest y h) [ inl e ↦ inr (ap Some e) | inr later ↦ inl later ]

kept_here : (rest : List Seed) (o : Option Seed) (y : Seed) → o ≡ Some y → Contains (cons_option o rest) y
kept_here rest None y e = cc
kept_here rest (Some z) y e = let same : z ≡ y = cc in (0, omega arith, same)

kept_later : (rest : List Seed) (o : Option Seed) (y : Seed) → Contains rest y → Contains (cons_option o rest) y
kept_later rest None y h = h
kept_later rest (Some z) y h = Contains-append_right (z ∷ []) rest y h

pub kept_from : (f : ℕ → Option Seed) (xs : List ℕ) (y : Seed) → Contains (filter_map f xs) y → (x : ℕ) × Contains xs x × (f x ≡ Some y)
kept_from f [] y h = absurd (no_element y h)
kept_from f (x ∷ xs) y h =
    elim (kept_case (filter_map f xs) (f x) y h) [
      | inl later ↦ let r = kept_from f xs y later in (r.0, Contains-append_right (x ∷ []) xs r.0 r.1, r.2)
      | inr e ↦ (x, (0, omega arith, refl), e)
    ]

pub kept_to : (f : ℕ → Option Seed) (xs : List ℕ) (x : ℕ) (y : Seed) → Contains xs x → f x ≡ Some y → Contains (filter_map f xs) y
kept_to f [] x y h e = absurd (no_element x h)
kept_to f (z ∷ xs) x y h e =
    elim (first_or_rest z xs x h) [
      | inl at ↦ kept_here (filter_map f xs) (f z) y (ap f at ∙ e)
      | inr later ↦ kept_later (filter_map f xs) (f z) y (kept_to f xs x y later e)
    ]

pub all_from : (f : ℕ → List Seed) (xs : List ℕ) (y : Seed) → Contains (flat_map f xs) y → (x : ℕ) × Contains xs x × Contains (f x) y
all_from f [] y h = absurd (no_element y h)
all_from f (x ∷ xs) y h =
    elim (Contains-append_cases (f x) (flat_map f xs) y h) [
      | inl at ↦ (x, (0, omega arith, refl), at)
      | inr later ↦ let r = all_from f xs y later in (r.0, Contains-append_right (x ∷ []) xs r.0 r.1, r.2)
    ]

pub all_to : (f : ℕ → List Seed) (xs : List ℕ) (x : ℕ) (y : Seed) → Contains xs x → Contains (f x) y → Contains (flat_map f xs) y
all_to f [] x y h e = absurd (no_element x h)
all_to f (z ∷ xs) x y h e =
    elim (first_or_rest z xs x h) [
      | inl at ↦ let P : ℕ → Type 0 = λ n. Contains (f n) y in Contains-append_left (f z) (flat_map f xs) y (subst P (sym at) e)
      | inr later ↦ Contains-append_right (f z) (flat_map f xs) y (all_to f xs x y later e)
    ]

one_more : (o : Option Seed) → cons_option o [] ≡ option_to_list o
one_more None = refl
one_more (Some y) = refl

-- a loop over the list adds what there is of each element
pub kept_more : (f : ℕ → Option Seed) (xs : List ℕ) (i : ℕ) (ys ys' : List Seed) → i < length xs → ys ≡ filter_map f (take i xs) → ys' ≡ ys ++ option_to_list (f (get_or xs i 0)) → ys' ≡ filter_map f (take (i + 1) xs)
kept_more f xs i ys ys' below is more =
    let x : ℕ = get_or xs i 0 in
    more ∙ (ap (λ (l : List Seed). l ++ option_to_list (f x)) is
    ∙ (ap (λ (l : List Seed). filter_map f (take i xs) ++ l) (sym (one_more (f x)))
    ∙ (sym (filter_map-append f (take i xs) (x ∷ [])) ∙ ap (filter_map f) (sym (take_more xs i 0 below)))))

pub kept_after : (f : ℕ → Option Seed) (xs : List ℕ) (i : ℕ) (old ys ys' : List Seed) → i < length xs → ys ≡ old ++ filter_map f (take i xs) → ys' ≡ ys ++ option_to_list (f (get_or xs i 0)) → ys' ≡ old ++ filter_map f (take (i + 1) xs)
kept_after f xs i old ys ys' below is more =
    let kept : filter_map f (take i xs) ++ option_to_list (f (get_or xs i 0)) ≡ filter_map f (take (i + 1) xs) = kept_more f xs i (filter_map f (take i xs)) (filter_map f (take i xs) ++ option_to_list (f (get_or xs i 0))) below refl refl in
    more ∙ (ap (λ (l : List Seed). l ++ option_to_list (f (get_or xs i 0))) is ∙ (append_assoc old (filter_map f (take i xs)) (option_to_list (f (get_or xs i 0))) ∙ ap (λ (l : List Seed). old ++ l) kept))

pub kept_more_in : (f : ℕ → Option Seed) (xs xs' : List ℕ) (i : ℕ) (ys ys' : List Seed) → xs' ≡ xs → i < length xs' → ys ≡ filter_map f (take i xs) → ys' ≡ ys ++ option_to_list (f (get_or xs' i 0)) → ys' ≡ filter_map f (take (i + 1) xs)
kept_more_in f xs xs' i ys ys' same below is more =
    let P : List ℕ → Type 0 = λ l. ys ≡ filter_map f (take i l) in
    let Q : List ℕ → Type 0 = λ l. ys' ≡ filter_map f (take (i + 1) l) in
    subst Q same (kept_more f xs' i ys ys' below (subst P (sym same) is) more)

pub kept_after_in : (f : ℕ → Option Seed) (xs xs' : List ℕ) (i : ℕ) (old ys ys' : List Seed) → xs' ≡ xs → i < length xs' → ys ≡ old ++ filter_map f (take i xs) → ys' ≡ ys ++ option_to_list (f (get_or xs' i 0)) → ys' ≡ old ++ filter_map f (take (i + 1) xs)
kept_after_in f xs xs' i old ys ys' same below is more =
    let P : List ℕ → Type 0 = λ l. ys ≡ old ++ filter_map f (take i l) in
    let Q : List ℕ → Type 0 = λ l. ys' ≡ old ++ filter_map f (take (i + 1) l) in
    subst Q same (kept_after f xs' i old ys ys' below (subst P (sym same) is) more)

flat_map-append : (f : ℕ → List Seed) (xs ys : List ℕ) → flat_map f (xs ++ ys) ≡ flat_map f xs ++ flat_map f ys
flat_map-append f [] ys = refl
flat_map-append f (x ∷ xs) ys = ap (λ (l : List Seed). f x ++ l) (flat_map-append f xs ys) ∙ sym (append_assoc (f x) (flat_map f xs) (flat_map f ys))

pub all_after : (f : ℕ → List Seed) (xs : List ℕ) (i : ℕ) (old ys ys' : List Seed) → i < length xs → ys ≡ old ++ flat_map f (take i xs) → ys' ≡ ys ++ f (get_or xs i 0) → ys' ≡ old ++ flat_map f (take (i + 1) xs)
all_after f xs i old ys ys' below is more =
    let x : ℕ = get_or xs i 0 in
    let step : flat_map f (take (i + 1) xs) ≡ flat_map f (take i xs) ++ f x =
    ap (flat_map f) (take_more xs i 0 below) ∙ (flat_map-append f (take i xs) (x ∷ []) ∙ ap (λ (l : List Seed). flat_map f (take i xs) ++ l) (append-nil (f x))) in
    more ∙ (ap (λ (l : List Seed). l ++ f x) is ∙ (append_assoc old (flat_map f (take i xs)) (f x) ∙ ap (λ (l : List Seed). old ++ l) (sym step)))

-- ---- labels and limits

within_to : (limit at label : ℕ) → at ≤ limit → within limit at label ≡ Some label
within_to limit at label h = let t : nat_le at limit ≡ true = grind (arith, nat_tests) in rw t

cond_some : (b : Bool) (x y : ℕ) → cond b (Some x) None ≡ Some y → (b ≡ true) × (x ≡ y)
cond_some true x y e = (refl, cc)
cond_some false x y e = cc

le_from : (a b : ℕ) → nat_le a b ≡ true → a ≤ b
le_from a b e = grind (arith, nat_tests)

within_from : (limit at label l : ℕ) → within limit at label ≡ Some l → (at ≤ limit) × (label ≡ l)
within_from limit at label l e = let r = cond_some (nat_le at limit) label l e in (le_from at limit r.0, r.1)

-- a label up to this one
pub record UpTo (o : Option ℕ) (x : ℕ) : Type 0 where
  pub label : ℕ
  pub is : o ≡ Some label
  pub below : label ≤ x

up : (limit at label x : ℕ) → at ≤ limit → label ≤ x → UpTo (within limit at label) x
up limit at label x h k = record { label = label; is = within_to limit at label h; below = k }

used_up : (l : Limits) (which : Part) (at x : ℕ) → x ≤ part_of l which → at ≤ (with_part l which x).used → UpTo (used_by which l.used at) x
used_up l part.Used at x top h = up l.used at at x (omega (arith, h, top)) h
used_up l part.Point at x top h = up l.used at 0 x h (omega arith)
used_up l part.Bound at x top h = up l.used at 0 x h (omega arith)

point_up : (l : Limits) (which : Part) (at x : ℕ) → x ≤ part_of l which → at ≤ (with_part l which x).point → UpTo (point_by which l.point at) x
point_up l part.Used at x top h = up l.point at 0 x h (omega arith)
point_up l part.Point at x top h = up l.point at at x (omega (arith, h, top)) h
point_up l part.Bound at x top h = up l.point at 0 x h (omega arith)

pub bound_up : (l : Limits) (which : Part) (at x : ℕ) → x ≤ part_of l which → at ≤ (with_part l which x).bound → UpTo (bound_by which l.bound at) x
bound_up l part.Used at x top h = up l.bound at 0 x h (omega arith)
bound_up l part.Point at x top h = up l.bound at 0 x h (omega arith)
bound_up l part.Bound at x top h = up l.bound at at x (omega (arith, h, top)) h

-- and back: it is within each limit from the label on
used_down : (l : Limits) (which : Part) (at label x : ℕ) → used_by which l.used at ≡ Some label → label ≤ x → (at ≤ (with_part l which x).used) × (label ≤ part_of l which)
used_down l part.Used at label x e h = let r = within_from l.used at at label e in (omega (arith, r.1, h), omega (arith, r.0, r.1))
used_down l part.Point at label x e h = let r = within_from l.used at 0 label e in (r.0, omega (arith, r.1))
used_down l part.Bound at label x e h = let r = within_from l.used at 0 label e in (r.0, omega (arith, r.1))

point_down : (l : Limits) (which : Part) (at label x : ℕ) → point_by which l.point at ≡ Some label → label ≤ x → (at ≤ (with_part l which x).point) × (label ≤ part_of l which)
point_down l part.Used at label x e h = let r = within_from l.point at 0 label e in (r.0, omega (arith, r.1))
point_down l part.Point at label x e h = let r = within_from l.point at at label e in (omega (arith, r.1, h), omega (arith, r.0, r.1))
point_down l part.Bound at label x e h = let r = within_from l.point at 0 label e in (r.0, omega (arith, r.1))

pub bound_down : (l : Limits) (which : Part) (at label x : ℕ) → bound_by which l.bound at ≡ Some label → label ≤ x → (at ≤ (with_part l which x).bound) × (label ≤ part_of l which)
bound_down l part.Used at label x e h = let r = within_from l.bound at 0 label e in (r.0, omega (arith, r.1))
bound_down l part.Point at label x e h = let r = within_from l.bound at 0 label e in (r.0, omega (arith, r.1))
bound_down l part.Bound at label x e h = let r = within_from l.bound at at label e in (omega (arith, r.1, h), omega (arith, r.0, r.1))

pub whole : (l : Limits) (which : Part) → with_part l which (part_of l which) ≡ l
whole l part.Used = refl
whole l part.Point = refl
whole l part.Bound = refl

pub later_up : (o p : Option ℕ) (x : ℕ) → UpTo o x → UpTo p x → UpTo (later o p) x
later_up None p x u v = let e = u.is in cc
later_up (Some a) None x u v = let e = v.is in cc
later_up (Some a) (Some b) x u v =
    let ea : a ≡ u.label = let e = u.is in cc in
    let eb : b ≡ v.label = let e = v.is in cc in
    record { label = cond (nat_lt a b) b a; is = refl; below = either (nat_lt a b) a b x (omega (arith, ea, u.below)) (omega (arith, eb, v.below)) }
  where
    either : (t : Bool) (a b x : ℕ) → a ≤ x → b ≤ x → cond t b a ≤ x
    either true a b x h k = k
    either false a b x h k = h

-- both labels are below the later one, which is one of them
pub record Both (o p : Option ℕ) (x : ℕ) : Type 0 where
  pub one : ℕ
  pub other : ℕ
  pub is : o ≡ Some one
  pub other_is : p ≡ Some other
  pub below : one ≤ x
  pub other_below : other ≤ x
  pub which : (x ≡ one) ⊎ (x ≡ other)

pub later_from : (o p : Option ℕ) (x : ℕ) → later o p ≡ Some x → Both o p x
later_from None p x e = cc
later_from (Some a) None x e = cc
later_from (Some a) (Some b) x e =
    let is : cond (nat_lt a b) b a ≡ x = cc in
    let r = picks (nat_lt a b) a b refl in
    record {
      one = a;
      other = b;
      is = refl;
      other_is = refl;
      below = omega (arith, is, r.0);
      other_below = omega (arith, is, r.1);
      which = elim r.2 [ inl f ↦ inl (sym is ∙ f) | inr s ↦ inr (sym is ∙ s) ];
    }
  where
    picks : (t : Bool) (a b : ℕ) → nat_lt a b ≡ t → (a ≤ cond t b a) × (b ≤ cond t b a) × ((cond t b a ≡ a) ⊎ (cond t b a ≡ b))
    picks true a b h = (grind (arith, nat_tests), omega arith, inr refl)
    picks false a b h = (omega arith, grind (arith, nat_tests), inl refl)

pub known_to : (labels : List ℕ) (p : ℕ) → label_at labels p < unlabelled → known_label labels p ≡ Some (label_at labels p)
known_to labels p h = let t : nat_lt (label_at labels p) unlabelled ≡ true = grind (arith, nat_tests) in rw t

pub known_from : (labels : List ℕ) (p x : ℕ) → known_label labels p ≡ Some x → (label_at labels p < unlabelled) × (label_at labels p ≡ x)
known_from labels p x e = let r = cond_some (nat_lt (label_at labels p) unlabelled) (label_at labels p) x e in (lt_from (label_at labels p) unlabelled r.0, r.1)
  where
    lt_from : (a b : ℕ) → nat_lt a b ≡ true → a < b
    lt_from a b t = grind (arith, nat_tests)

pub seed_from : (place : ℕ) (o : Option ℕ) (s : Seed) → seed_with place o ≡ Some s → (o ≡ Some s.label) × (s.place ≡ place)
seed_from place None s e = cc
seed_from place (Some x) s e =
    let is : record { label = x; place = place } ≡ s = cc in
    (ap (λ (t : Seed). Some t.label) is, sym (ap (λ (t : Seed). t.place) is))

pub seed_to : (place : ℕ) (o : Option ℕ) (x : ℕ) → o ≡ Some x → seed_with place o ≡ Some (record { label = x; place = place })
seed_to place o x e = ap (seed_with place) e

pub guarded : (b : Bool) (o : Option Seed) (s : Seed) → cond b o None ≡ Some s → (b ≡ true) × (o ≡ Some s)
guarded true o s e = (refl, e)
guarded false o s e = cc

passes_free : (slot at : ℕ) → Unbound slot (shown (step.Passes at))
passes_free slot at = λ address there h. let e : event.Passes at ≡ event.Binds slot address there = only (event.Passes at) (event.Binds slot address there) h in cc

-- ---- the seeds of uses

-- what the seed of a use says
record OfUse (nodes : List node.Node) (goal : Goal) (slot : ℕ) (s : Seed) (p : ℕ) : Type 0 where
  pub used : ℕ
  pub place : s.place ≡ p
  pub uses : step_at nodes p ≡ step.Uses slot used
  pub label : used_by goal.part goal.limits.used used ≡ Some s.label

use_from : (nodes : List node.Node) (goal : Goal) (slot p : ℕ) (s : Seed) (st : Step) → step_at nodes p ≡ st → use_seed goal slot p st ≡ Some s → OfUse nodes goal slot s p
use_from nodes goal slot p s step.Quiet is e = cc
use_from nodes goal slot p s (step.Binds own address at) is e = cc
use_from nodes goal slot p s (step.Passes at) is e = cc
use_from nodes goal slot p s (step.Uses own at) is e =
    let r = guarded (own == slot) (seed_with p (used_by goal.part goal.limits.used at)) s e in
    let t = seed_from p (used_by goal.part goal.limits.used at) s r.1 in
    record { used = at; place = t.1; uses = is ∙ ap (λ (n : ℕ). step.Uses n at) (eqb-true own slot r.0); label = t.0 }

-- a node leads to a use within the limits
pub record UsesUpTo (nodes : List node.Node) (slot : ℕ) (l : Limits) (p : ℕ) : Type 0 where
  pub used : ℕ
  pub within : used ≤ l.used
  pub leads : LeadsToUse nodes slot used p

pub record PointUpTo (nodes : List node.Node) (slot : ℕ) (l : Limits) (p : ℕ) : Type 0 where
  pub point : ℕ
  pub used : ℕ
  pub point_within : point ≤ l.point
  pub used_within : used ≤ l.used
  pub leads : LeadsToPoint nodes slot point used p

-- labels of a slot that tell up to which limits a node leads on
pub record Tells (Leading : Limits → ℕ → Type 0) (goal : Goal) (labels : List ℕ) : Type 0 where
  pub from : (p x : ℕ) → label_at labels p < unlabelled → label_at labels p ≤ x → Leading (up_to goal x) p × (label_at labels p ≤ own_limit goal)
  pub to : (p x : ℕ) → x ≤ own_limit goal → Leading (up_to goal x) p → label_at labels p ≤ x

pub uses_told : (nodes : List node.Node) (mentions : List group.NodeGroup) (goal : Goal) (slot : ℕ) (places : List ℕ) (seeds : List Seed) (l : NodeLabels) → AreMentions nodes mentions → places ≡ members mentions slot
    → seeds ≡ filter_map (λ (p : ℕ). use_seed goal slot p (step_at nodes p)) places
    → FirstLabels nodes slot seeds l → Tells (UsesUpTo nodes slot) goal l.of.items
uses_told nodes mentions goal slot places seeds l m at is f =
    let seed_of : ℕ → Option Seed = λ p. use_seed goal slot p (step_at nodes p) in
    record {
      from = λ p x less below.
          let r = f.from p less in
          let C : List Seed → Type 0 = λ xs. Contains xs r.seed in
          let k = kept_from seed_of places r.seed (subst C is r.among) in
          let u = use_from nodes goal slot k.0 r.seed (step_at nodes k.0) refl k.2 in
          let d = used_down goal.limits goal.part u.used r.seed.label x u.label (omega (arith, r.is, below)) in
          let T : ℕ → Type 0 = λ n. step_at nodes n ≡ step.Uses slot u.used in (
            record { used = u.used; within = d.0; leads = record { use_node = r.seed.place; events = r.leads.events; way = r.leads.way; unbound = r.leads.unbound; uses = subst T (sym u.place) u.uses } },
            omega (arith, r.is, d.1),
          );
      to = λ p x top h.
          let q : ℕ = h.leads.use_node in
          let u = used_up goal.limits goal.part h.used x top h.within in
          let S : Step → Type 0 = λ st. NamesSlot slot st in
          let among : Contains places q = let C : List ℕ → Type 0 = λ xs. Contains xs q in subst C (sym at) (m.named slot q (subst S (sym h.leads.uses) refl)) in
          let s : Seed = record { label = u.label; place = q } in
          let seed : seed_of q ≡ Some s =
          ap (use_seed goal slot q) h.leads.uses
          ∙ (ap (λ (b : Bool). cond b (seed_with q (used_by goal.part goal.limits.used h.used)) None) (eq-eqb slot slot refl)
          ∙ seed_to q (used_by goal.part goal.limits.used h.used) u.label u.is) in
          let C : List Seed → Type 0 = λ xs. Contains xs s in
          let k = f.least s (subst C (sym is) (kept_to seed_of places q s among seed)) p (record { events = h.leads.events; way = h.leads.way; unbound = h.leads.unbound }) in
          omega (arith, k, u.below);
    }

pub uses_within : (nodes : List node.Node) (goal : Goal) (slot : ℕ) (places : List ℕ) (seeds : List Seed) → seeds ≡ filter_map (λ (p : ℕ). use_seed goal slot p (step_at nodes p)) places
    → (s : Seed) → Contains seeds s → s.place < length nodes
uses_within nodes goal slot places seeds is s h =
    let seed_of : ℕ → Option Seed = λ p. use_seed goal slot p (step_at nodes p) in
    let C : List Seed → Type 0 = λ xs. Contains xs s in
    let k = kept_from seed_of places s (subst C is h) in
    let u = use_from nodes goal slot k.0 s (step_at nodes k.0) refl k.2 in
    let S : Step → Type 0 = λ st. NamesSlot slot st in
    let w : k.0 < length nodes = step_within nodes slot k.0 (subst S (sym u.uses) refl) in
    omega (arith, w, u.place)

-- ---- the seeds of frame points

record OfPoint (nodes : List node.Node) (goal : Goal) (labels : List ℕ) (s : Seed) (p : ℕ) : Type 0 where
  pub point : ℕ
  pub place : s.place ≡ p
  pub passes : step_at nodes p ≡ step.Passes point
  pub both : Both (known_label labels p) (point_by goal.part goal.limits.point point) s.label

point_from : (nodes : List node.Node) (goal : Goal) (labels : List ℕ) (p : ℕ) (s : Seed) (st : Step) → step_at nodes p ≡ st → point_seed goal labels p st ≡ Some s → OfPoint nodes goal labels s p
point_from nodes goal labels p s step.Quiet is e = cc
point_from nodes goal labels p s (step.Binds own address at) is e = cc
point_from nodes goal labels p s (step.Uses own at) is e = cc
point_from nodes goal labels p s (step.Passes at) is e =
    let t = seed_from p (later (known_label labels p) (point_by goal.part goal.limits.point at)) s e in
    record { point = at; place = t.1; passes = is; both = later_from (known_label labels p) (point_by goal.part goal.limits.point at) s.label t.0 }

-- a frame point leads to a use by a node after it
after_point : (nodes : List node.Node) (slot used point p : ℕ) → step_at nodes p ≡ step.Passes point → LeadsToUse nodes slot used p → (n : ℕ) × Contains (next_at nodes p) n × LeadsToUse nodes slot used n
after_point nodes slot used point p is l = onward l.events l.use_node l.way l.unbound l.uses
  where
    onward : (events : List Event) (q : ℕ) → Trail nodes p events q → Unbound slot events → step_at nodes q ≡ step.Uses slot used → (n : ℕ) × Contains (next_at nodes p) n × LeadsToUse nodes slot used n
    onward _ _ (here _) u uses = absurd (let e : step.Passes point ≡ step.Uses slot used = sym is ∙ uses in cc)
    onward _ _ (goes _ m q events next way) u uses =
        (m, next, record { use_node = q; events = events; way = way; unbound = unbound_rest slot (shown (step_at nodes p)) events u; uses = uses })

before_point : (nodes : List node.Node) (slot used point p n : ℕ) → step_at nodes p ≡ step.Passes point → Contains (next_at nodes p) n → LeadsToUse nodes slot used n → LeadsToUse nodes slot used p
before_point nodes slot used point p n is next l =
    let free : Unbound slot (shown (step_at nodes p)) = let P : Step → Type 0 = λ st. Unbound slot (shown st) in subst P (sym is) (passes_free slot point) in
    let r = leads_on nodes slot p n l.use_node next free (record { events = l.events; way = l.way; unbound = l.unbound }) in
    record { use_node = l.use_node; events = r.events; way = r.way; unbound = r.unbound; uses = l.uses }

pub points_told : (nodes : List node.Node) (goal : Goal) (slot : ℕ) (first : NodeLabels) (seeds : List Seed) (l : NodeLabels)
    → own_limit goal < unlabelled
    → ((p : ℕ) → label_at first.of.items p < unlabelled → Contains first.queue.items p)
    → Tells (UsesUpTo nodes slot) goal first.of.items
    → seeds ≡ filter_map (λ (p : ℕ). point_seed goal first.of.items p (step_at nodes p)) first.queue.items
    → FirstLabels nodes slot seeds l → Tells (PointUpTo nodes slot) goal l.of.items
points_told nodes goal slot first seeds l fits queued t is f =
    let seed_of : ℕ → Option Seed = λ p. point_seed goal first.of.items p (step_at nodes p) in
    record {
      from = λ p x less below.
          let r = f.from p less in
          let C : List Seed → Type 0 = λ xs. Contains xs r.seed in
          let k = kept_from seed_of first.queue.items r.seed (subst C is r.among) in
          let u = point_from nodes goal first.of.items k.0 r.seed (step_at nodes k.0) refl k.2 in
          let kn = known_from first.of.items k.0 u.both.one u.both.is in
          let d = point_down goal.limits goal.part u.point u.both.other x u.both.other_is (omega (arith, u.both.other_below, r.is, below)) in
          let v = t.from k.0 x kn.0 (omega (arith, kn.1, u.both.below, r.is, below)) in
          let a = after_point nodes slot v.0.used u.point k.0 u.passes v.0.leads in
          let T : ℕ → Type 0 = λ n. step_at nodes n ≡ step.Passes u.point in
          let N : ℕ → Type 0 = λ n. Contains (next_at nodes n) a.0 in (
            record { point = u.point; used = v.0.used; point_within = d.0; used_within = v.0.within; leads = record { point_node = r.seed.place; next_node = a.0; events = r.leads.events; way = r.leads.way; unbound = r.leads.unbound; passes = subst T (sym u.place) u.passes; next = subst N (sym u.place) a.1; on = a.2 } },
            elim u.both.which [ inl e ↦ omega (arith, e, r.is, kn.1, v.1) | inr e ↦ omega (arith, e, r.is, d.1) ],
          );
      to = λ p x top h.
          let q : ℕ = h.leads.point_node in
          let label : label_at first.of.items q ≤ x = t.to q x top (record { used = h.used; within = h.used_within; leads = before_point nodes slot h.used h.point q h.leads.next_node h.leads.passes h.leads.next h.leads.on }) in
          let labelled : label_at first.of.items q < unlabelled = omega (arith, label, top, fits) in
          let v : UpTo (known_label first.of.items q) x = record { label = label_at first.of.items q; is = known_to first.of.items q labelled; below = label } in
          let w = later_up (known_label first.of.items q) (point_by goal.part goal.limits.point h.point) x v (point_up goal.limits goal.part h.point x top h.point_within) in
          let s : Seed = record { label = w.label; place = q } in
          let seed : seed_of q ≡ Some s =
          ap (point_seed goal first.of.items q) h.leads.passes ∙ seed_to q (later (known_label first.of.items q) (point_by goal.part goal.limits.point h.point)) w.label w.is in
          let C : List Seed → Type 0 = λ xs. Contains xs s in
          let k = f.least s (subst C (sym is) (kept_to seed_of first.queue.items q s (queued q labelled) seed)) p (record { events = h.leads.events; way = h.leads.way; unbound = h.leads.unbound }) in
          omega (arith, k, w.below);
    }

pub points_within : (nodes : List node.Node) (goal : Goal) (first : NodeLabels) (seeds : List Seed) → seeds ≡ filter_map (λ (p : ℕ). point_seed goal first.of.items p (step_at nodes p)) first.queue.items
    → ((p : ℕ) → Contains first.queue.items p → p < length nodes)
    → (s : Seed) → Contains seeds s → s.place < length nodes
points_within nodes goal first seeds is queued s h =
    let seed_of : ℕ → Option Seed = λ p. point_seed goal first.of.items p (step_at nodes p) in
    let C : List Seed → Type 0 = λ xs. Contains xs s in
    let k = kept_from seed_of first.queue.items s (subst C is h) in
    let u = point_from nodes goal first.of.items k.0 s (step_at nodes k.0) refl k.2 in
    let w : k.0 < length nodes = queued k.0 k.1 in
    omega (arith, w, u.place)
