-- Labels that are passed on from node to node.
use Rattle.std.proofs.Common.{Vec, Global, Bool, true, false, ◌≡◌, ◌⊎◌, ◌≢◌, ℕ, ◌+◌, ◌-◌, ◌<◌, ◌≤◌, List, [], ◌∷◌, ◌++◌, length, take, drop, set, get_or, sym, ◌∙◌, ap, inl, inr, arith, refl, subst, append_assoc}
use Rattle.std.specs.List.{All, Contains, sum}
use Rattle.std.specs.Prelude.{◌==◌}
use Rattle.std.proofs.lemmas.Bool.{cases_eq, eqb-true, eq-eqb}
use Rattle.std.proofs.lemmas.List.{length-set, get_or-set_same, get_or-set_other, drop_all, drop-append-le, drop_more, take_more, take_all, length-append, length_push, get_or_append_left, append-nil, get_or_read, get_or_default}
use Rattle.std.proofs.lemmas.List.Elements.{All-push, Contains-append_left, Contains-push, Contains-push_cases, Contains-get_or, All-get_or}
use Rattle.std.proofs.lemmas.List.Sums.{sum_by-set}
use Rattle.std.specs.List.Sorted.{IsPermutation}
use Rattle.std.proofs.lemmas.List.Sorted.{IsPermutation-sym, Contains-permutation, All-permutation}
use Rattle.walk_tables.specs.Walks.{Event}
use Rattle.walk_tables.specs.Walks as event
use Rattle.walk_tables.specs.AddrLive.{Unbound}
use Rattle.walk_tables.specs.Table.{shown, step_at, next_at, Trail, here, goes}
use Rattle.cmm_walks.specs.Groups.{members, AreBefore}
use Rattle.cmm_walks.specs.Labels.{unlabelled, label_at, binds_slot, Leads, LeadsToSeed, IsUnlabelled, HasLabelledQueue, Lowered, IsSpreading, LabelsFall, weight, LowersBefore, Settles, FirstLabels}
use Rattle.walk_tables.specs.declared.node.Step.{Step}
use Rattle.walk_tables.specs.declared.node.Step.TheVariants as step
use Rattle.walk_tables.specs.declared.node.Node as node
use Rattle.cmm_walks.specs.declared.groups.NodeGroup as group
use Rattle.cmm_walks.specs.declared.labels.Seed.{Seed}
use Rattle.cmm_walks.specs.declared.labels.NodeLabels.{NodeLabels}
use Rattle.cmm_walks.proofs.Grouped.{next_within}
use Rattle.walk_tables.proofs.Elements.{no_element, only, itself, unbound_none, unbound_both, unbound_first, unbound_rest, first_or_rest}

-- ---- ways

pub leads_here : (nodes : List node.Node) (slot p : ℕ) → Leads nodes slot p p
leads_here nodes slot p = record { events = []; way = here p; unbound = unbound_none slot }

pub leads_on : (nodes : List node.Node) (slot q p r : ℕ) → Contains (next_at nodes q) p → Unbound slot (shown (step_at nodes q)) → Leads nodes slot p r → Leads nodes slot q r
leads_on nodes slot q p r next free l = record {
  events = shown (step_at nodes q) ++ l.events;
  way = goes q p r l.events next l.way;
  unbound = unbound_both slot (shown (step_at nodes q)) l.events free l.unbound;
}

pub to_seed_on : (nodes : List node.Node) (slot : ℕ) (seeds : List Seed) (q p label : ℕ) → Contains (next_at nodes q) p → Unbound slot (shown (step_at nodes q)) → LeadsToSeed nodes slot seeds p label → LeadsToSeed nodes slot seeds q label
to_seed_on nodes slot seeds q p label next free l = record { seed = l.seed; among = l.among; leads = leads_on nodes slot q p l.seed.place next free l.leads; is = l.is }

-- ---- whether a node binds the slot

binds_same : (own slot : ℕ) (a a' : Bool) (at at' : ℕ) → event.Binds own a at ≡ event.Binds slot a' at' → own ≡ slot
binds_same own slot a a' at at' e = cc

pub free_from : (slot : ℕ) (st : Step) → binds_slot slot st ≡ false → Unbound slot (shown st)
free_from slot step.Quiet e = unbound_none slot
free_from slot (step.Binds own address at) e = λ address' at' h.
    let same : own ≡ slot = binds_same own slot address address' at at' (only (event.Binds own address at) (event.Binds slot address' at') h) in
    absurd (let t : (own == slot) ≡ true = eq-eqb own slot same in cc)
free_from slot (step.Uses own at) e = λ address' at' h. let f : event.Uses own at ≡ event.Binds slot address' at' = only (event.Uses own at) (event.Binds slot address' at') h in cc
free_from slot (step.Passes at) e = λ address' at' h. let f : event.Passes at ≡ event.Binds slot address' at' = only (event.Passes at) (event.Binds slot address' at') h in cc

pub bound_from : (slot : ℕ) (st : Step) → binds_slot slot st ≡ true → Unbound slot (shown st) → ⊥
bound_from slot step.Quiet e u = absurd (let f : false ≡ true = e in cc)
bound_from slot (step.Binds own address at) e u =
    let P : ℕ → Type 0 = λ n. Contains (event.Binds own address at ∷ []) (event.Binds n address at) in
    u address at (subst P (eqb-true own slot e) (itself (event.Binds own address at)))
bound_from slot (step.Uses own at) e u = absurd (let f : false ≡ true = e in cc)
bound_from slot (step.Passes at) e u = absurd (let f : false ≡ true = e in cc)

-- ---- a label that is lowered

pub lowered_falls : (old new : NodeLabels) (place label : ℕ) → place < length old.of.items → Lowered old new place label → (p : ℕ) → label_at new.of.items p ≤ label_at old.of.items p
lowered_falls old new place label within (inl (less, of, queue, done)) p =
    elim (cases_eq p place) [
      | inl e ↦
          let at : label_at new.of.items place ≡ label = ap (λ (l : List ℕ). label_at l place) of ∙ get_or-set_same old.of.items place label unlabelled within in
          let P : ℕ → Type 0 = λ n. label_at new.of.items n ≤ label_at old.of.items n in
          subst P (sym e) (omega (arith, at, less))
      | inr ne ↦
          let at : label_at new.of.items p ≡ label_at old.of.items p = ap (λ (l : List ℕ). label_at l p) of ∙ get_or-set_other old.of.items place p label unlabelled ne in
          omega (arith, at)
    ]
lowered_falls old new place label within (inr (most, same)) p =
    let at : label_at new.of.items p ≡ label_at old.of.items p = ap (λ (l : NodeLabels). label_at l.of.items p) same in
    omega (arith, at)

pub lowered_here : (old new : NodeLabels) (place label : ℕ) → place < length old.of.items → Lowered old new place label → label_at new.of.items place ≤ label
lowered_here old new place label within (inl (less, of, queue, done)) =
    let at : label_at new.of.items place ≡ label = ap (λ (l : List ℕ). label_at l place) of ∙ get_or-set_same old.of.items place label unlabelled within in
    omega (arith, at)
lowered_here old new place label within (inr (most, same)) =
    let at : label_at new.of.items place ≡ label_at old.of.items place = ap (λ (l : NodeLabels). label_at l.of.items place) same in
    omega (arith, at, most)

-- a label that is new is this one, at this node
pub lowered_cases : (old new : NodeLabels) (place label : ℕ) → place < length old.of.items → Lowered old new place label → (p : ℕ) → (label_at new.of.items p ≡ label_at old.of.items p) ⊎ ((p ≡ place) × (label_at new.of.items p ≡ label) × (label < label_at old.of.items place))
lowered_cases old new place label within (inl (less, of, queue, done)) p =
    elim (cases_eq p place) [
      | inl e ↦
          let at : label_at new.of.items place ≡ label = ap (λ (l : List ℕ). label_at l place) of ∙ get_or-set_same old.of.items place label unlabelled within in
          inr (e, ap (λ (n : ℕ). label_at new.of.items n) e ∙ at, less)
      | inr ne ↦ inl (ap (λ (l : List ℕ). label_at l p) of ∙ get_or-set_other old.of.items place p label unlabelled ne)
    ]
lowered_cases old new place label within (inr (most, same)) p = inl (ap (λ (l : NodeLabels). label_at l.of.items p) same)

pub lowered_from : (nodes : List node.Node) (slot : ℕ) (seeds : List Seed) (old new : NodeLabels) (place label : ℕ) → place < length old.of.items → Lowered old new place label
    → ((p : ℕ) → label_at old.of.items p < unlabelled → LeadsToSeed nodes slot seeds p (label_at old.of.items p))
    → (label < unlabelled → LeadsToSeed nodes slot seeds place label)
    → (p : ℕ) → label_at new.of.items p < unlabelled → LeadsToSeed nodes slot seeds p (label_at new.of.items p)
lowered_from nodes slot seeds old new place label within l are comes p less =
    let P : ℕ → Type 0 = λ n. LeadsToSeed nodes slot seeds p n in
    let Q : ℕ → Type 0 = λ n. LeadsToSeed nodes slot seeds n label in
    elim (lowered_cases old new place label within l p) [
      | inl same ↦ subst P (sym same) (are p (omega (arith, same, less)))
      | inr (at, is, under) ↦ subst P (sym is) (subst Q (sym at) (comes (omega (arith, is, less))))
    ]

pub lowered_fell : (nodes : List node.Node) (slot : ℕ) (old new : NodeLabels) (place label : ℕ) → place < length old.of.items → Lowered old new place label
    → ((seeds : List Seed) → ((p : ℕ) → label_at old.of.items p < unlabelled → LeadsToSeed nodes slot seeds p (label_at old.of.items p)) → label < unlabelled → LeadsToSeed nodes slot seeds place label)
    → LabelsFall nodes slot old new
lowered_fell nodes slot old new place label within l comes = record {
  falls = lowered_falls old new place label within l;
  from = λ seeds are. lowered_from nodes slot seeds old new place label within l are (comes seeds are);
}

lowered_len : (old new : NodeLabels) (place label : ℕ) → Lowered old new place label → length new.of.items ≡ length old.of.items
lowered_len old new place label (inl (less, of, queue, done)) = ap length of ∙ length-set old.of.items place label
lowered_len old new place label (inr (most, same)) = ap (λ (l : NodeLabels). length l.of.items) same

lowered_kept : (old new : NodeLabels) (place label : ℕ) → place < length old.of.items → Lowered old new place label → HasLabelledQueue old → HasLabelledQueue new
lowered_kept old new place label within (inr (most, same)) k = subst HasLabelledQueue (sym same) k
lowered_kept old new place label within (inl (less, of, queue, done)) k =
    let l : Lowered old new place label = inl (less, of, queue, done) in
    let len : length new.of.items ≡ length old.of.items = lowered_len old new place label l in
    let W : ℕ → ℕ → Type 0 = λ n p. p < n in
    let A : ℕ → Type 0 = λ n. All (W n) new.queue.items in
    let Q : List ℕ → Type 0 = λ xs. All (W (length old.of.items)) xs in
    record {
      most = λ p. let f : label_at new.of.items p ≤ label_at old.of.items p = lowered_falls old new place label within l p in omega (arith, f, k.most p);
      within = subst A (sym len) (subst Q (sym queue) (All-push (W (length old.of.items)) old.queue.items place k.within within));
      kept = λ p labelled.
          let C : List ℕ → Type 0 = λ xs. Contains xs p in
          subst C (sym queue)
          (elim (lowered_cases old new place label within l p) [
            | inl e ↦ Contains-append_left old.queue.items (place ∷ []) p (k.kept p (omega (arith, e, labelled)))
            | inr (at, is, under) ↦ let D : ℕ → Type 0 = λ n. Contains (old.queue.items ++ place ∷ []) n in subst D (sym at) (Contains-push old.queue.items place)
          ]);
    }

pub lowered_spreading : (nodes : List node.Node) (slot : ℕ) (old new : NodeLabels) (place label : ℕ) → place < length old.of.items → Lowered old new place label → IsSpreading nodes slot old → IsSpreading nodes slot new
lowered_spreading nodes slot old new place label within (inr (most, same)) s = let P : NodeLabels → Type 0 = λ l. IsSpreading nodes slot l in subst P (sym same) s
lowered_spreading nodes slot old new place label within (inl (less, of, queue, done)) s =
    let l : Lowered old new place label = inl (less, of, queue, done) in
    let rest : drop new.done new.queue.items ≡ drop old.done old.queue.items ++ place ∷ [] =
    ap (λ (n : ℕ). drop n new.queue.items) done ∙ (ap (λ (xs : List ℕ). drop old.done xs) queue ∙ drop-append-le old.done old.queue.items (place ∷ []) s.done) in
    let queued : length new.queue.items ≡ length old.queue.items + 1 = ap length queue ∙ length_push old.queue.items place in
    record {
      len = lowered_len old new place label l ∙ s.len;
      kept = lowered_kept old new place label within l s.kept;
      done = omega (arith, done, queued, s.done);
      passed = λ q p next free.
          let C : List ℕ → Type 0 = λ xs. Contains xs p in
          let fq : label_at new.of.items q ≤ label_at old.of.items q = lowered_falls old new place label within l q in
          elim (s.passed q p next free) [
            | inl waits ↦ inl (subst C (sym rest) (Contains-append_left (drop old.done old.queue.items) (place ∷ []) p waits))
            | inr under ↦ elim (lowered_cases old new place label within l p) [
              | inl same ↦ inr (omega (arith, same, under, fq))
              | inr (at, is, less') ↦
                  let D : ℕ → Type 0 = λ n. Contains (drop old.done old.queue.items ++ place ∷ []) n in
                  inl (subst C (sym rest) (subst D (sym at) (Contains-push (drop old.done old.queue.items) place)))
            ]
          ];
    }

pub lowered_weight : (old new : NodeLabels) (place label : ℕ) → place < length old.of.items → Lowered old new place label → weight new ≤ weight old
lowered_weight old new place label within (inl (less, of, queue, done)) =
    let sums : sum (set old.of.items place label) + label_at old.of.items place ≡ sum old.of.items + label = sum_by-set (λ x. x) old.of.items place label unlabelled within in
    let s : sum new.of.items ≡ sum (set old.of.items place label) = ap sum of in
    let queued : length new.queue.items ≡ length old.queue.items + 1 = ap length queue ∙ length_push old.queue.items place in
    omega (arith, sums, s, queued, less)
lowered_weight old new place label within (inr (most, same)) = let e : weight new ≡ weight old = ap weight same in omega (arith, e)

-- ---- falling

pub fell_none : (nodes : List node.Node) (slot : ℕ) (l : NodeLabels) → LabelsFall nodes slot l l
fell_none nodes slot l = record { falls = λ p. omega arith; from = λ seeds are p less. are p less }

pub fell_then : (nodes : List node.Node) (slot : ℕ) (a b c : NodeLabels) → LabelsFall nodes slot a b → LabelsFall nodes slot b c → LabelsFall nodes slot a c
fell_then nodes slot a b c f g = record {
  falls = λ p. omega (arith, f.falls p, g.falls p);
  from = λ seeds are p less. g.from seeds (f.from seeds are) p less;
}

-- ---- one node

pub record Passing (nodes : List node.Node) (slot place : ℕ) (old now : NodeLabels) (tried : List ℕ) : Type 0 where
  pub spreading : IsSpreading nodes slot now
  pub fell : LabelsFall nodes slot old now
  pub done : now.done ≡ old.done
  pub more : List ℕ
  pub queue : now.queue.items ≡ old.queue.items ++ more
  pub same : label_at now.of.items place ≡ label_at old.of.items place
  pub passed : (q : ℕ) → Contains tried q → Unbound slot (shown (step_at nodes q)) → label_at now.of.items q ≤ label_at old.of.items place
  pub weight : weight now ≤ weight old

pub passing_none : (nodes : List node.Node) (slot place : ℕ) (l : NodeLabels) (tried : List ℕ) → IsSpreading nodes slot l → Passing nodes slot place l l (take 0 tried)
passing_none nodes slot place l tried s = record {
  spreading = s;
  fell = fell_none nodes slot l;
  done = refl;
  more = [];
  queue = sym (append-nil l.queue.items);
  same = refl;
  passed = λ q none free. absurd (no_element q none);
  weight = omega arith;
}

-- what was tried, and one more
tried_cases : (members : List ℕ) (i q : ℕ) → i < length members → Contains (take (i + 1) members) q → Contains (take i members) q ⊎ (get_or members i 0 ≡ q)
tried_cases members i q below c =
    let C : List ℕ → Type 0 = λ xs. Contains xs q in
    Contains-push_cases (take i members) (get_or members i 0) q (subst C (take_more members i 0 below) c)

pub passing_skip : (nodes : List node.Node) (slot place : ℕ) (old now : NodeLabels) (members : List ℕ) (i q : ℕ) → i < length members → q ≡ get_or members i 0
    → (Unbound slot (shown (step_at nodes q)) → ⊥) → Passing nodes slot place old now (take i members) → Passing nodes slot place old now (take (i + 1) members)
passing_skip nodes slot place old now members i q below is bound p = record {
  spreading = p.spreading;
  fell = p.fell;
  done = p.done;
  more = p.more;
  queue = p.queue;
  same = p.same;
  passed = λ r c free.
      elim (tried_cases members i r below c) [
        | inl before ↦ p.passed r before free
        | inr at ↦ let P : ℕ → Type 0 = λ n. Unbound slot (shown (step_at nodes n)) in absurd (bound (subst P (sym (is ∙ at)) free))
      ];
  weight = p.weight;
}

lowered_queue : (old new : NodeLabels) (place label : ℕ) → Lowered old new place label → (more : List ℕ) × (new.queue.items ≡ old.queue.items ++ more)
lowered_queue old new place label (inl (less, of, queue, done)) = (place ∷ [], queue)
lowered_queue old new place label (inr (most, same)) = ([], ap (λ (l : NodeLabels). l.queue.items) same ∙ sym (append-nil old.queue.items))

lowered_done : (old new : NodeLabels) (place label : ℕ) → Lowered old new place label → new.done ≡ old.done
lowered_done old new place label (inl (less, of, queue, done)) = done
lowered_done old new place label (inr (most, same)) = ap (λ (l : NodeLabels). l.done) same

pub passing_more : (nodes : List node.Node) (slot place : ℕ) (old now new : NodeLabels) (members : List ℕ) (i q : ℕ) → i < length members → q ≡ get_or members i 0
    → Contains (next_at nodes q) place → Unbound slot (shown (step_at nodes q)) → Lowered now new q (label_at old.of.items place)
    → Passing nodes slot place old now (take i members) → Passing nodes slot place old new (take (i + 1) members)
passing_more nodes slot place old now new members i q below is next free l p =
    let label : ℕ = label_at old.of.items place in
    let within : q < length now.of.items = omega (arith, next_within nodes q place next, p.spreading.len) in
    let falls : (r : ℕ) → label_at new.of.items r ≤ label_at now.of.items r = lowered_falls now new q label within l in
    let w : weight new ≤ weight now = lowered_weight now new q label within l in
    let more = lowered_queue now new q label l in
    record {
      spreading = lowered_spreading nodes slot now new q label within l p.spreading;
      fell = fell_then nodes slot old now new p.fell
          (lowered_fell nodes slot now new q label within l
          (λ seeds are less.
          let P : ℕ → Type 0 = λ n. LeadsToSeed nodes slot seeds place n in
          to_seed_on nodes slot seeds q place label next free (subst P p.same (are place (omega (arith, p.same, less))))));
      done = lowered_done now new q label l ∙ p.done;
      more = p.more ++ more.0;
      queue = more.1 ∙ (ap (λ (xs : List ℕ). xs ++ more.0) p.queue ∙ append_assoc old.queue.items p.more more.0);
      same = elim (lowered_cases now new q label within l place) [
        | inl e ↦ e ∙ p.same
        | inr (at, is', less) ↦
            let P : ℕ → Type 0 = λ n. label < label_at now.of.items n in
            let less' : label < label_at now.of.items place = subst P (sym at) less in
            absurd (omega (arith, less', p.same))
      ];
      passed = λ r c free'.
          elim (tried_cases members i r below c) [
            | inl before ↦ omega (arith, p.passed r before free', falls r)
            | inr at ↦
                let P : ℕ → Type 0 = λ n. label_at new.of.items n ≤ label in
                subst P (is ∙ at) (lowered_here now new q label within l)
          ];
      weight = omega (arith, w, p.weight);
    }

pub passing_all : (nodes : List node.Node) (before : List group.NodeGroup) (slot place : ℕ) (old now : NodeLabels) (i : ℕ) → AreBefore nodes before → length (members before place) ≤ i
    → Passing nodes slot place old now (take i (members before place)) → LowersBefore nodes slot place old now
passing_all nodes before slot place old now i are done p = record {
  spreading = p.spreading;
  fell = p.fell;
  done = p.done;
  more = p.more;
  queue = p.queue;
  passed = λ q next free.
      let C : List ℕ → Type 0 = λ xs. Contains xs q in
      let among : Contains (take i (members before place)) q = subst C (sym (take_all i (members before place) done)) ((are.exact place q).1 next) in
      let h : label_at now.of.items q ≤ label_at old.of.items place = p.passed q among free in
      omega (arith, h, p.same);
  weight = p.weight;
}

-- ---- all nodes

pub record Settling (nodes : List node.Node) (slot : ℕ) (old now : NodeLabels) : Type 0 where
  pub spreading : IsSpreading nodes slot now
  pub fell : LabelsFall nodes slot old now

pub settling_none : (nodes : List node.Node) (slot : ℕ) (l : NodeLabels) → IsSpreading nodes slot l → Settling nodes slot l l
settling_none nodes slot l s = record { spreading = s; fell = fell_none nodes slot l }

-- one node more has passed its label on
pub done_more : (nodes : List node.Node) (slot place : ℕ) (now next new : NodeLabels) → now.done < length now.queue.items → place ≡ get_or now.queue.items now.done 0
    → LowersBefore nodes slot place now next → new.of.items ≡ next.of.items → new.queue.items ≡ next.queue.items → new.done ≡ next.done + 1
    → IsSpreading nodes slot new × (weight new - new.done < weight now - now.done)
done_more nodes slot place now next new below is l of queue done =
    let d : next.done ≡ now.done = l.done in
    let lq : length next.queue.items ≡ length now.queue.items + length l.more = ap length l.queue ∙ length-append now.queue.items l.more in
    let at : get_or next.queue.items next.done 0 ≡ place =
    ap (λ (n : ℕ). get_or next.queue.items n 0) d ∙ (ap (λ (xs : List ℕ). get_or xs now.done 0) l.queue ∙ (get_or_append_left now.queue.items l.more 0 now.done below ∙ sym is)) in
    let within : next.done < length next.queue.items = omega (arith, d, lq, below) in
    let rest : drop next.done next.queue.items ≡ get_or next.queue.items next.done 0 ∷ drop (next.done + 1) next.queue.items = drop_more next.queue.items next.done 0 within in
    let nd : new.done ≡ next.done + 1 = done in
    let nq : length new.queue.items ≡ length next.queue.items = ap length queue in
    let ns : sum new.of.items ≡ sum next.of.items = ap sum of in
    let s = l.spreading in
    let w = l.weight in (
      record {
        len = ap length of ∙ s.len;
        kept = record {
          most = λ p. let P : List ℕ → Type 0 = λ xs. label_at xs p ≤ unlabelled in subst P (sym of) (s.kept.most p);
          within =
              let P : List ℕ → Type 0 = λ xs. All (λ p. p < length xs) next.queue.items in
              let Q : List ℕ → Type 0 = λ xs. All (λ p. p < length new.of.items) xs in
              subst Q (sym queue) (subst P (sym of) s.kept.within);
          kept = λ p labelled.
              let P : List ℕ → Type 0 = λ xs. Contains xs p in
              let Q : List ℕ → Type 0 = λ xs. label_at xs p < unlabelled in
              subst P (sym queue) (s.kept.kept p (subst Q of labelled));
        };
        done = omega (arith, nd, nq, within);
        passed = λ q p next' free.
            let L : List ℕ → Type 0 = λ xs. label_at xs q ≤ label_at xs p in
            let C : List ℕ → Type 0 = λ xs. Contains xs p in
            elim (s.passed q p next' free) [
              | inl waits ↦ elim (first_or_rest (get_or next.queue.items next.done 0) (drop (next.done + 1) next.queue.items) p (subst C rest waits)) [
                | inl e ↦
                    let N : ℕ → Type 0 = λ n. label_at next.of.items q ≤ label_at next.of.items n in
                    let E : ℕ → Type 0 = λ n. Contains (next_at nodes q) n in
                    inr (subst L (sym of) (subst N (sym at ∙ e) (l.passed q (subst E (sym (sym at ∙ e)) next') free)))
                | inr later ↦
                    let D : drop new.done new.queue.items ≡ drop (next.done + 1) next.queue.items = ap (λ (n : ℕ). drop n new.queue.items) done ∙ ap (λ (xs : List ℕ). drop (next.done + 1) xs) queue in
                    inl (subst C (sym D) later)
              ]
              | inr under ↦ inr (subst L (sym of) under)
            ];
      },
      omega (arith, nd, nq, ns, w, d, below),
    )

pub settling_more : (nodes : List node.Node) (slot place : ℕ) (old now next new : NodeLabels) → now.done < length now.queue.items → place ≡ get_or now.queue.items now.done 0
    → Settling nodes slot old now → LowersBefore nodes slot place now next → new.of.items ≡ next.of.items → new.queue.items ≡ next.queue.items → new.done ≡ next.done + 1
    → Settling nodes slot old new
settling_more nodes slot place old now next new below is s l of queue done = record {
  spreading = (done_more nodes slot place now next new below is l of queue done).0;
  fell = fell_then nodes slot old now new s.fell
      (fell_then nodes slot now next new l.fell (record {
        falls = λ p. let e : label_at new.of.items p ≡ label_at next.of.items p = ap (λ (xs : List ℕ). label_at xs p) of in omega (arith, e);
        from = λ seeds are p less.
            let P : List ℕ → Type 0 = λ xs. label_at xs p < unlabelled → LeadsToSeed nodes slot seeds p (label_at xs p) in
            subst P (sym of) (are p) less;
      }));
}

-- ---- all seeds

pub record Filling (nodes : List node.Node) (slot : ℕ) (seeds : List Seed) (i : ℕ) (l : NodeLabels) : Type 0 where
  pub spreading : IsSpreading nodes slot l
  pub settled : length l.queue.items ≤ l.done
  pub from : (p : ℕ) → label_at l.of.items p < unlabelled → LeadsToSeed nodes slot seeds p (label_at l.of.items p)
  pub least : (s : Seed) → Contains (take i seeds) s → label_at l.of.items s.place ≤ s.label

unlabelled_spreading : (nodes : List node.Node) (slot : ℕ) (l : NodeLabels) → IsUnlabelled (length nodes) l → IsSpreading nodes slot l
unlabelled_spreading nodes slot l u = record {
  len = u.len;
  kept = record {
    most = λ p. let e = u.none p in omega (arith, e);
    within = let P : List ℕ → Type 0 = λ xs. All (λ p. p < length l.of.items) xs in subst P (sym u.queue) (λ k d below. absurd (omega (arith, below)));
    kept = λ p less. let e = u.none p in absurd (omega (arith, e, less));
  };
  done = omega (arith, u.done);
  passed = λ q p next free. let e = u.none q in let e' = u.none p in inr (omega (arith, e, e'));
}

pub filling_none : (nodes : List node.Node) (slot : ℕ) (seeds : List Seed) (l : NodeLabels) → IsUnlabelled (length nodes) l → Filling nodes slot seeds 0 l
filling_none nodes slot seeds l u = record {
  spreading = unlabelled_spreading nodes slot l u;
  settled = let e : length l.queue.items ≡ 0 = ap length u.queue in omega (arith, e);
  from = λ p less. let e = u.none p in absurd (omega (arith, e, less));
  least = λ s c. absurd (no_element s c);
}

pub filling_more : (nodes : List node.Node) (slot : ℕ) (seeds : List Seed) (i : ℕ) (s : Seed) (now next new : NodeLabels) → i < length seeds → s ≡ get_or seeds i s → s.place < length nodes
    → Filling nodes slot seeds i now → Lowered now next s.place s.label → Settles nodes slot next new → Filling nodes slot seeds (i + 1) new
filling_more nodes slot seeds i s now next new below is within f l set =
    let here : s.place < length now.of.items = omega (arith, within, f.spreading.len) in
    let C : Seed → Type 0 = λ x. Contains seeds x in
    let among : Contains seeds s = subst C (sym is) (Contains-get_or seeds i s below) in
    let itself : LeadsToSeed nodes slot seeds s.place s.label = record { seed = s; among = among; leads = leads_here nodes slot s.place; is = refl } in
    let are = lowered_from nodes slot seeds now next s.place s.label here l f.from (λ less. itself) in
    record {
      spreading = set.spreading;
      settled = set.done;
      from = set.fell.from seeds are;
      least = λ t c.
          let T : List Seed → Type 0 = λ xs. Contains xs t in
          let before : Contains (take i seeds ++ s ∷ []) t = let S : Seed → Type 0 = λ x. Contains (take i seeds ++ x ∷ []) t in subst S (sym is) (subst T (take_more seeds i s below) c) in
          elim (Contains-push_cases (take i seeds) s t before) [
            | inl earlier ↦
                let a : label_at now.of.items t.place ≤ t.label = f.least t earlier in
                let b : label_at next.of.items t.place ≤ label_at now.of.items t.place = lowered_falls now next s.place s.label here l t.place in
                let d : label_at new.of.items t.place ≤ label_at next.of.items t.place = set.fell.falls t.place in
                omega (arith, a, b, d)
            | inr e ↦
                let L : Seed → Type 0 = λ x. label_at new.of.items x.place ≤ x.label in
                let a : label_at next.of.items s.place ≤ s.label = lowered_here now next s.place s.label here l in
                let d : label_at new.of.items s.place ≤ label_at next.of.items s.place = set.fell.falls s.place in
                subst L e (omega (arith, a, d))
          ];
    }

-- with all labels passed on, none is above one that a way leads to
closed : (nodes : List node.Node) (slot : ℕ) (l : NodeLabels) → IsSpreading nodes slot l → length l.queue.items ≤ l.done
    → (p q : ℕ) (events : List Event) → Trail nodes p events q → Unbound slot events → label_at l.of.items p ≤ label_at l.of.items q
closed nodes slot l s done _ _ _ (here p) u = omega arith
closed nodes slot l s done _ _ _ (goes p m q events next way) u =
    let rest : label_at l.of.items m ≤ label_at l.of.items q = closed nodes slot l s done m q events way (unbound_rest slot (shown (step_at nodes p)) events u) in
    elim (s.passed p m next (unbound_first slot (shown (step_at nodes p)) events u)) [
      | inl waits ↦
          let C : List ℕ → Type 0 = λ xs. Contains xs m in
          absurd (no_element m (subst C (drop_all l.done l.queue.items done) waits))
      | inr under ↦ omega (arith, under, rest)
    ]

pub filling_all : (nodes : List node.Node) (slot : ℕ) (old seeds : List Seed) (i : ℕ) (l : NodeLabels) → length seeds ≤ i → IsPermutation old seeds
    → Filling nodes slot seeds i l → FirstLabels nodes slot old l
filling_all nodes slot old seeds i l done sorted f = record {
  len = f.spreading.len;
  kept = f.spreading.kept;
  from = λ p less.
      let r = f.from p less in
      record { seed = r.seed; among = Contains-permutation seeds old r.seed (IsPermutation-sym old seeds sorted) r.among; leads = r.leads; is = r.is };
  least = λ s c p leads.
      let T : List Seed → Type 0 = λ xs. Contains xs s in
      let among : Contains (take i seeds) s = subst T (sym (take_all i seeds done)) (Contains-permutation old seeds s sorted c) in
      let a : label_at l.of.items s.place ≤ s.label = f.least s among in
      let b : label_at l.of.items p ≤ label_at l.of.items s.place = closed nodes slot l f.spreading f.settled p s.place leads.events leads.way leads.unbound in
      omega (arith, a, b);
}

-- ---- taking labels off

pub record Clearing (old now : NodeLabels) (i : ℕ) : Type 0 where
  pub len : length now.of.items ≡ length old.of.items
  pub most : (p : ℕ) → label_at now.of.items p ≤ unlabelled
  pub left : (p : ℕ) → label_at now.of.items p < unlabelled → Contains (drop i old.queue.items) p
  pub queue : now.queue ≡ old.queue

least_of : (n : ℕ) → n ≤ unlabelled → (n < unlabelled → ⊥) → n ≡ unlabelled
least_of n m h = grind arith

pub clearing_none : (l : NodeLabels) → HasLabelledQueue l → Clearing l l 0
clearing_none l k = record { len = refl; most = k.most; left = k.kept; queue = refl }

pub clearing_more : (old now new : NodeLabels) (i place : ℕ) → i < length old.queue.items → place ≡ get_or old.queue.items i 0 → place < length now.of.items
    → new.of.items ≡ set now.of.items place unlabelled → new.queue ≡ now.queue → Clearing old now i → Clearing old new (i + 1)
clearing_more old now new i place below is within of queue k =
    let rest : drop i old.queue.items ≡ get_or old.queue.items i 0 ∷ drop (i + 1) old.queue.items = drop_more old.queue.items i 0 below in
    let at : label_at new.of.items place ≡ unlabelled = ap (λ (l : List ℕ). label_at l place) of ∙ get_or-set_same now.of.items place unlabelled unlabelled within in
    let other : (p : ℕ) → (p ≢ place) → label_at new.of.items p ≡ label_at now.of.items p = λ p ne. ap (λ (l : List ℕ). label_at l p) of ∙ get_or-set_other now.of.items place p unlabelled unlabelled ne in
    record {
      len = ap length of ∙ (length-set now.of.items place unlabelled ∙ k.len);
      most = λ p. elim (cases_eq p place) [
        | inl e ↦ let P : ℕ → Type 0 = λ n. label_at new.of.items n ≤ unlabelled in subst P (sym e) (omega (arith, at))
        | inr ne ↦ let o = other p ne in omega (arith, o, k.most p)
      ];
      left = λ p less. elim (cases_eq p place) [
        | inl e ↦ let P : ℕ → Type 0 = λ n. label_at new.of.items n < unlabelled in let l : label_at new.of.items place < unlabelled = subst P e less in absurd (omega (arith, at, l))
        | inr ne ↦
            let o = other p ne in
            let C : List ℕ → Type 0 = λ xs. Contains xs p in
            elim (first_or_rest (get_or old.queue.items i 0) (drop (i + 1) old.queue.items) p (subst C rest (k.left p (omega (arith, o, less))))) [
              | inl e ↦ absurd (ne (sym (is ∙ e)))
              | inr later ↦ later
            ]
      ];
      queue = queue ∙ k.queue;
    }

pub clearing_all : (old now new : NodeLabels) (i count : ℕ) → length old.of.items ≡ count → length old.queue.items ≤ i → Clearing old now i → new.of.items ≡ now.of.items → new.queue.items ≡ [] → new.done ≡ 0
    → IsUnlabelled count new
clearing_all old now new i count counted done k of queue start = record {
  len = ap length of ∙ (k.len ∙ counted);
  none = λ p.
      let e : label_at new.of.items p ≡ label_at now.of.items p = ap (λ (l : List ℕ). label_at l p) of in
      let C : List ℕ → Type 0 = λ xs. Contains xs p in
      let all : label_at now.of.items p < unlabelled → ⊥ = λ less. no_element p (subst C (drop_all i old.queue.items done) (k.left p less)) in
      let m : label_at now.of.items p ≤ unlabelled = k.most p in
      e ∙ least_of (label_at now.of.items p) m all;
  queue = queue;
  done = start;
}

-- ---- as the code has them

pub tried_skip : (nodes : List node.Node) (before : List group.NodeGroup) (slot place : ℕ) (old now : NodeLabels) (items : List ℕ) (i : ℕ) (st : Step) (b : Bool) → items ≡ members before place → i < length items
    → b ≡ binds_slot slot st → st ≡ step_at nodes (get_or items i 0) → b ≡ true
    → Passing nodes slot place old now (take i (members before place)) → Passing nodes slot place old now (take (i + 1) (members before place))
tried_skip nodes before slot place old now items i st b same below bs sts t p =
    let P : List ℕ → Type 0 = λ l. Passing nodes slot place old now (take i l) in
    let Q : List ℕ → Type 0 = λ l. Passing nodes slot place old now (take (i + 1) l) in
    let binds : binds_slot slot (step_at nodes (get_or items i 0)) ≡ true = ap (binds_slot slot) (sym sts) ∙ (sym bs ∙ t) in
    subst Q same (passing_skip nodes slot place old now items i (get_or items i 0) below refl (bound_from slot (step_at nodes (get_or items i 0)) binds) (subst P (sym same) p))

tried_next : (nodes : List node.Node) (before : List group.NodeGroup) (place : ℕ) (items : List ℕ) (i : ℕ) → AreBefore nodes before → items ≡ members before place → i < length items → Contains (next_at nodes (get_or items i 0)) place
tried_next nodes before place items i are same below =
    let C : List ℕ → Type 0 = λ l. Contains l (get_or items i 0) in
    (are.exact place (get_or items i 0)).0 (subst C same (Contains-get_or items i 0 below))

pub tried_within : (nodes : List node.Node) (before : List group.NodeGroup) (place : ℕ) (items : List ℕ) (i : ℕ) → AreBefore nodes before → items ≡ members before place → i < length items → get_or items i 0 < length nodes
tried_within nodes before place items i are same below = next_within nodes (get_or items i 0) place (tried_next nodes before place items i are same below)

pub tried_more : (nodes : List node.Node) (before : List group.NodeGroup) (slot place label : ℕ) (old now new : NodeLabels) (items : List ℕ) (i : ℕ) (st : Step) (b : Bool) → AreBefore nodes before → items ≡ members before place → i < length items
    → b ≡ binds_slot slot st → st ≡ step_at nodes (get_or items i 0) → b ≡ false → label ≡ label_at old.of.items place → Lowered now new (get_or items i 0) label
    → Passing nodes slot place old now (take i (members before place)) → Passing nodes slot place old new (take (i + 1) (members before place))
tried_more nodes before slot place label old now new items i st b are same below bs sts t is l p =
    let P : List ℕ → Type 0 = λ x. Passing nodes slot place old now (take i x) in
    let Q : List ℕ → Type 0 = λ x. Passing nodes slot place old new (take (i + 1) x) in
    let L : ℕ → Type 0 = λ n. Lowered now new (get_or items i 0) n in
    let binds : binds_slot slot (step_at nodes (get_or items i 0)) ≡ false = ap (binds_slot slot) (sym sts) ∙ (sym bs ∙ t) in
    subst Q same
    (passing_more nodes slot place old now new items i (get_or items i 0) below refl (tried_next nodes before place items i are same below) (free_from slot (step_at nodes (get_or items i 0)) binds)
    (subst L is l) (subst P (sym same) p))

pub cleared_step : (old now new : NodeLabels) (i place : ℕ) → i < length old.queue.items → place ≡ get_or now.queue.items i place → HasLabelledQueue old
    → new.of.items ≡ set now.of.items place unlabelled → new.queue ≡ now.queue → Clearing old now i → Clearing old new (i + 1)
cleared_step old now new i place below read kept of queue k =
    let q : now.queue.items ≡ old.queue.items = ap (λ (v : Vec ℕ Global). v.items) k.queue in
    let less : i < length now.queue.items = let e : length now.queue.items ≡ length old.queue.items = ap length q in omega (arith, e, below) in
    let is : place ≡ get_or old.queue.items i 0 = get_or_read now.queue.items i place less read 0 ∙ ap (λ (l : List ℕ). get_or l i 0) q in
    let w : get_or old.queue.items i 0 < length old.of.items = All-get_or (λ (p : ℕ). p < length old.of.items) old.queue.items i 0 below kept.within in
    clearing_more old now new i place below is (omega (arith, w, is, k.len)) of queue k

pub seed_within : (nodes : List node.Node) (old seeds items : List Seed) (i : ℕ) (d : Seed) → All (λ s. s.place < length nodes) old → IsPermutation old seeds → items ≡ seeds → i < length items → (get_or items i d).place < length nodes
seed_within nodes old seeds items i d all sorted is below =
    let P : Seed → Type 0 = λ s. s.place < length nodes in
    let A : List Seed → Type 0 = λ l. All P l in
    All-get_or P items i d below (subst A (sym is) (All-permutation P old seeds sorted all))

pub filling_step : (nodes : List node.Node) (slot : ℕ) (seeds : List Seed) (i label : ℕ) (d : Seed) (now next new : NodeLabels) → i < length seeds → (get_or seeds i d).place < length nodes
    → label ≡ (get_or seeds i d).label
    → Filling nodes slot seeds i now → Lowered now next (get_or seeds i d).place label → Settles nodes slot next new → Filling nodes slot seeds (i + 1) new
filling_step nodes slot seeds i label d now next new below within is f l set =
    let s : Seed = get_or seeds i d in
    let L : ℕ → Type 0 = λ n. Lowered now next s.place n in
    filling_more nodes slot seeds i s now next new below (get_or_default seeds i d s below) within f (subst L is l) set
