-- Numbers of nodes that are put into groups.
use Rattle.std.proofs.Common.{Bool, ◌≡◌, ◌⊎◌, ◌≢◌, ℕ, zero, suc, ◌+◌, ◌<◌, ◌≤◌, List, [], ◌∷◌, ◌++◌, length, map, take, set, get_or, sym, ◌∙◌, ap, inl, inr, arith, refl, subst}
use Rattle.std.specs.Prelude.{◌↔◌}
use Rattle.std.specs.List.{All, Contains}
use Rattle.std.proofs.lemmas.Bool.{cases_eq}
use Rattle.std.proofs.lemmas.List.{length-append, length-set, length-map, map-set, get_or-map, get_or-set_same, get_or-set_other, take_more, take_all}
use Rattle.std.proofs.lemmas.List.Elements.{Contains-append_left, Contains-push, Contains-push_cases}
use Rattle.walk_tables.specs.Table.{step_at, next_at, next_cells, slot_below, IsNode, IsLinked, AreLinked, AreNodes}
use Rattle.cmm_walks.specs.Groups.{members, Added, NamesSlot, HasSlotAdded, AreBefore, AreMentions}
use Rattle.cmm_walks.specs.declared.groups.NodeGroup as group
use Rattle.walk_tables.specs.declared.node.Step.{Step}
use Rattle.walk_tables.specs.declared.node.Step.TheVariants as step
use Rattle.walk_tables.specs.declared.node.Node as node
use Rattle.walk_tables.proofs.Elements.{no_element}

pub members_same : (gs : List group.NodeGroup) (k : ℕ) (g : group.NodeGroup) → k < length gs → members (set gs k g) k ≡ g.members.items
members_same gs k g within =
    let f : group.NodeGroup → List ℕ = λ x. x.members.items in
    let w : k < length (map f gs) = omega (arith, length-map gs f, within) in
    ap (λ (l : List (List ℕ)). get_or l k []) (map-set f gs k g) ∙ get_or-set_same (map f gs) k (f g) [] w

pub members_other : (gs : List group.NodeGroup) (k j : ℕ) (g : group.NodeGroup) → j ≢ k → members (set gs k g) j ≡ members gs j
members_other gs k j g ne =
    let f : group.NodeGroup → List ℕ = λ x. x.members.items in
    ap (λ (l : List (List ℕ)). get_or l j []) (map-set f gs k g) ∙ get_or-set_other (map f gs) k j (f g) [] ne

pub members_read : (gs : List group.NodeGroup) (k : ℕ) (g : group.NodeGroup) → k < length gs → g ≡ get_or gs k g → members gs k ≡ g.members.items
members_read gs k g within read =
    let f : group.NodeGroup → List ℕ = λ x. x.members.items in
    get_or-map f gs k g [] within ∙ ap f (sym read)

pub members_empty : (gs : List group.NodeGroup) (g : group.NodeGroup) → g.members.items ≡ [] → ((k : ℕ) → members gs k ≡ []) → (k : ℕ) → members (gs ++ g ∷ []) k ≡ []
members_empty [] g none all zero = none
members_empty [] g none all (suc k) = refl
members_empty (h ∷ gs) g none all zero = all zero
members_empty (h ∷ gs) g none all (suc k) = members_empty gs g none (λ j. all (suc j)) k

pub added : (old new : List group.NodeGroup) (k member : ℕ) (g g' : group.NodeGroup) → k < length old → g ≡ get_or old k g → g'.members.items ≡ g.members.items ++ member ∷ [] → new ≡ set old k g'
    → Added old new k member
added old new k member g g' within read more is = record {
  len = ap length is ∙ length-set old k g';
  exact = λ j x.
      let here : members new k ≡ members old k ++ member ∷ [] =
      ap (λ (l : List group.NodeGroup). members l k) is ∙ (members_same old k g' within ∙ (more ∙ ap (λ (l : List ℕ). l ++ member ∷ []) (sym (members_read old k g within read)))) in
      let other : (j ≢ k) → members new j ≡ members old j = λ ne. ap (λ (l : List group.NodeGroup). members l j) is ∙ members_other old k j g' ne in
      let C : List ℕ → Type 0 = λ l. Contains l x in
      let O : ℕ → Type 0 = λ n. Contains (members old n) x in
      let N : ℕ → Type 0 = λ n. Contains (members new n) x in (
        λ h. elim (cases_eq j k) [
          | inl e ↦ elim (Contains-push_cases (members old k) member x (subst C here (subst N e h))) [
            | inl before ↦ inl (subst O (sym e) before)
            | inr it ↦ inr (e, it)
          ]
          | inr ne ↦ inl (subst C (other ne) h)
        ],
        λ h. elim h [
          | inl before ↦ elim (cases_eq j k) [
            | inl e ↦ subst N (sym e) (subst C (sym here) (Contains-append_left (members old k) (member ∷ []) x (subst O e before)))
            | inr ne ↦ subst C (sym (other ne)) before
          ]
          | inr (e, it) ↦
              let P : ℕ → Type 0 = λ n. Contains (members new k) n in
              subst N (sym e) (subst P it (let D : List ℕ → Type 0 = λ l. Contains l member in subst D (sym here) (Contains-push (members old k) member)))
        ],
      );
}

-- ---- a member of several groups

pub record AddingToAll (old now : List group.NodeGroup) (member : ℕ) (tried : List ℕ) : Type 0 where
  pub len : length now ≡ length old
  pub exact : (j x : ℕ) → Contains (members now j) x ↔ (Contains (members old j) x ⊎ (Contains tried j × (member ≡ x)))

pub adding_none : (old : List group.NodeGroup) (member : ℕ) (tried : List ℕ) → AddingToAll old old member (take 0 tried)
adding_none old member tried = record {
  len = refl;
  exact = λ j x. (λ h. inl h, λ h. elim h [ inl before ↦ before | inr (none, e) ↦ absurd (no_element j none) ]);
}

pub adding_more : (old now new : List group.NodeGroup) (member : ℕ) (targets : List ℕ) (i k : ℕ) → i < length targets → k ≡ get_or targets i 0
    → AddingToAll old now member (take i targets) → Added now new k member → AddingToAll old new member (take (i + 1) targets)
adding_more old now new member targets i k below read a b = record {
  len = b.len ∙ a.len;
  exact = λ j x.
      let C : List ℕ → Type 0 = λ l. Contains l j in
      let grown : take (i + 1) targets ≡ take i targets ++ get_or targets i 0 ∷ [] = take_more targets i 0 below in
      let back : Contains (take (i + 1) targets) j → Contains (take i targets) j ⊎ (j ≡ k) = λ h.
      elim (Contains-push_cases (take i targets) (get_or targets i 0) j (subst C grown h)) [ inl before ↦ inl before | inr e ↦ inr (sym (read ∙ e)) ] in
      let here : (j ≡ k) → Contains (take (i + 1) targets) j = λ e.
      let P : ℕ → Type 0 = λ n. Contains (take i targets ++ get_or targets i 0 ∷ []) n in
      subst C (sym grown) (subst P (sym (e ∙ read)) (Contains-push (take i targets) (get_or targets i 0))) in
      let keep : Contains (take i targets) j → Contains (take (i + 1) targets) j = λ h. subst C (sym grown) (Contains-append_left (take i targets) (get_or targets i 0 ∷ []) j h) in (
        λ h. elim ((b.exact j x).0 h) [
          | inl before ↦ elim ((a.exact j x).0 before) [
            | inl first ↦ inl first
            | inr (among, e) ↦ inr (keep among, e)
          ]
          | inr (at, e) ↦ inr (here at, e)
        ],
        λ h. elim h [
          | inl first ↦ (b.exact j x).1 (inl ((a.exact j x).1 (inl first)))
          | inr (among, e) ↦ elim (back among) [
            | inl before ↦ (b.exact j x).1 (inl ((a.exact j x).1 (inr (before, e))))
            | inr at ↦ (b.exact j x).1 (inr (at, e))
          ]
        ],
      );
}

pub adding_all : (old now : List group.NodeGroup) (member : ℕ) (targets : List ℕ) (i : ℕ) → length targets ≤ i → AddingToAll old now member (take i targets)
    → (j x : ℕ) → Contains (members now j) x ↔ (Contains (members old j) x ⊎ (Contains targets j × (member ≡ x)))
adding_all old now member targets i done a =
    let P : List ℕ → Type 0 = λ l. AddingToAll old now member l in
    (subst P (take_all i targets done) a).exact

-- ---- the nodes before each node

pub next_within : (nodes : List node.Node) (q p : ℕ) → Contains (next_at nodes q) p → q < length nodes
next_within [] q p c = absurd (no_element p c)
next_within (n ∷ nodes) zero p c = omega arith
next_within (n ∷ nodes) (suc q) p c = let r : q < length nodes = next_within nodes q p c in omega (arith, r)

less_than : (a b : ℕ) → a < b + 1 → (a ≢ b) → a < b
less_than a b h ne = grind arith

pub next_read : (nodes : List node.Node) (i : ℕ) (n : node.Node) → i < length nodes → n ≡ get_or nodes i n → next_at nodes i ≡ next_cells n.next
next_read nodes i n within read = let f : node.Node → List ℕ = λ x. next_cells x.next in get_or-map f nodes i n [] within ∙ ap f (sym read)

pub step_read : (nodes : List node.Node) (i : ℕ) (n : node.Node) → i < length nodes → n ≡ get_or nodes i n → step_at nodes i ≡ n.step
step_read nodes i n within read = let f : node.Node → Step = λ x. x.step in get_or-map f nodes i n step.Quiet within ∙ ap f (sym read)

pub next_all : (nodes : List node.Node) (i count : ℕ) (n : node.Node) (items : List ℕ) → AreLinked nodes → i < length nodes → n ≡ get_or nodes i n → items ≡ next_cells n.next → count ≡ length nodes → All (λ (q : ℕ). q < count) items
next_all nodes i count n items links within read listed len =
    let here : IsLinked (length nodes) (get_or nodes i n) = links i n within in
    let P : node.Node → Type 0 = λ m. All (λ (q : ℕ). q < length nodes) (next_cells m.next) in
    let Q : List ℕ → Type 0 = λ l. All (λ (q : ℕ). q < length nodes) l in
    let R : ℕ → Type 0 = λ k. All (λ (q : ℕ). q < k) items in
    subst R (sym len) (subst Q (sym listed) (subst P (sym read) here.next))

pub slot_here : (nodes : List node.Node) (bound i count : ℕ) (n : node.Node) → AreNodes bound nodes → i < length nodes → n ≡ get_or nodes i n → count ≡ bound → slot_below count n.step
slot_here nodes bound i count n are within read len =
    let here : IsNode (length nodes) bound (get_or nodes i n) = are i n within in
    let P : node.Node → Type 0 = λ m. slot_below bound m.step in
    let R : ℕ → Type 0 = λ k. slot_below k n.step in
    subst R (sym len) (subst P (sym read) here.slot)

pub record Turning (nodes : List node.Node) (i number : ℕ) (now : List group.NodeGroup) : Type 0 where
  pub numbered : number ≡ i
  pub len : length now ≡ length nodes
  pub exact : (p q : ℕ) → Contains (members now p) q ↔ ((q < i) × Contains (next_at nodes q) p)

pub turning_none : (nodes : List node.Node) (now : List group.NodeGroup) → length now ≡ length nodes → ((k : ℕ) → members now k ≡ []) → Turning nodes 0 0 now
turning_none nodes now len empty = record {
  numbered = refl;
  len = len;
  exact = λ p q.
      let C : List ℕ → Type 0 = λ l. Contains l q in
      (λ h. absurd (no_element q (subst C (empty p) h)), λ h. absurd (omega (arith, h.0)));
}

pub turning_more : (nodes : List node.Node) (i number number' : ℕ) (n : node.Node) (now new : List group.NodeGroup) (next : List ℕ) → i < length nodes → n ≡ get_or nodes i n → number' ≡ suc number
    → next ≡ next_cells n.next
    → Turning nodes i number now → length new ≡ length now → ((j x : ℕ) → Contains (members new j) x ↔ (Contains (members now j) x ⊎ (Contains next j × (number ≡ x))))
    → Turning nodes (i + 1) number' new
turning_more nodes i number number' n now new next within read up listed t len ex = record {
  numbered = omega (arith, up, t.numbered);
  len = len ∙ t.len;
  exact = λ p q.
      let is : next ≡ next_at nodes i = listed ∙ sym (next_read nodes i n within read) in
      let C : List ℕ → Type 0 = λ l. Contains l p in
      let N : ℕ → Type 0 = λ k. Contains (next_at nodes k) p in (
        λ h. elim ((ex p q).0 h) [
          | inl before ↦ let old = (t.exact p q).0 before in (omega (arith, old.0), old.1)
          | inr (among, e) ↦ let at : i ≡ q = sym t.numbered ∙ e in (omega (arith, at), subst N at (subst C is among))
        ],
        λ h. elim (cases_eq q i) [
          | inl e ↦ (ex p q).1 (inr (subst C (sym is) (subst N e h.1), t.numbered ∙ sym e))
          | inr ne ↦ (ex p q).1 (inl ((t.exact p q).1 (less_than q i h.0 ne, h.1)))
        ],
      );
}

pub turned : (nodes : List node.Node) (i number : ℕ) (now : List group.NodeGroup) → length nodes ≤ i → Turning nodes i number now → AreBefore nodes now
turned nodes i number now done t = record {
  len = t.len;
  exact = λ p q. (λ h. ((t.exact p q).0 h).1, λ h. (t.exact p q).1 (let w : q < length nodes = next_within nodes q p h in omega (arith, w, done), h));
}

-- ---- the nodes of each slot

pub step_within : (nodes : List node.Node) (slot p : ℕ) → NamesSlot slot (step_at nodes p) → p < length nodes
step_within [] slot p h = absurd h
step_within (n ∷ nodes) slot zero h = omega arith
step_within (n ∷ nodes) slot (suc p) h = let r : p < length nodes = step_within nodes slot p h in omega (arith, r)

pub record Sorting (nodes : List node.Node) (bound i number : ℕ) (now : List group.NodeGroup) : Type 0 where
  pub numbered : number ≡ i
  pub len : length now ≡ bound
  pub named : (slot p : ℕ) → p < i → NamesSlot slot (step_at nodes p) → Contains (members now slot) p

pub sorting_none : (nodes : List node.Node) (bound : ℕ) (now : List group.NodeGroup) → length now ≡ bound → Sorting nodes bound 0 0 now
sorting_none nodes bound now len = record { numbered = refl; len = len; named = λ slot p less h. absurd (omega (arith, less)) }

pub sorting_more : (nodes : List node.Node) (bound i number number' : ℕ) (n : node.Node) (now new : List group.NodeGroup) → i < length nodes → n ≡ get_or nodes i n → number' ≡ suc number
    → Sorting nodes bound i number now → HasSlotAdded now new n.step number → Sorting nodes bound (i + 1) number' new
sorting_more nodes bound i number number' n now new within read up t a = record {
  numbered = omega (arith, up, t.numbered);
  len = a.len ∙ t.len;
  named = λ slot p less h. elim (cases_eq p i) [
    | inl e ↦
        let P : ℕ → Type 0 = λ k. NamesSlot slot (step_at nodes k) in
        let S : Step → Type 0 = λ st. NamesSlot slot st in
        let C : ℕ → Type 0 = λ k. Contains (members new slot) k in
        subst C (t.numbered ∙ sym e) (a.here slot (subst S (step_read nodes i n within read) (subst P e h)))
    | inr ne ↦ a.kept slot p (t.named slot p (less_than p i less ne) h)
  ];
}

pub sorted_out : (nodes : List node.Node) (bound i number : ℕ) (now : List group.NodeGroup) → length nodes ≤ i → Sorting nodes bound i number now → AreMentions nodes now
sorted_out nodes bound i number now done t = record { named = λ slot p h. t.named slot p (let w : p < length nodes = step_within nodes slot p h in omega (arith, w, done)) h }

pub one_longer : (old new : List group.NodeGroup) (g : group.NodeGroup) (n : ℕ) → length old ≡ n → new ≡ old ++ (g ∷ []) → length new ≡ suc n
one_longer old new g n len is = omega (arith, len, ap length is, length-append old (g ∷ []))

pub slot_added : (old new : List group.NodeGroup) (slot at number : ℕ) (address : Bool) → Added old new slot number → HasSlotAdded old new (step.Binds slot address at) number
slot_added old new slot at number address a = record {
  len = a.len;
  kept = λ j x h. (a.exact j x).1 (inl h);
  here = λ other e. (a.exact other number).1 (inr (sym e, refl));
}

pub use_added : (old new : List group.NodeGroup) (slot at number : ℕ) → Added old new slot number → HasSlotAdded old new (step.Uses slot at) number
use_added old new slot at number a = record {
  len = a.len;
  kept = λ j x h. (a.exact j x).1 (inl h);
  here = λ other e. (a.exact other number).1 (inr (sym e, refl));
}
