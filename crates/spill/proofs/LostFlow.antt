-- What reaches a place in the graph of lost registers is what is lost there.
use Rattle.std.proofs.Common.{◌≡◌, ℕ, zero, suc, ◌<◌, ◌≤◌, Bool, ◌⊎◌, inl, inr, ⊎_elim, List, [], ◌∷◌, ◌++◌, map, length, drop, refl, sym, ap, ◌∙◌, subst, arith}
use Rattle.std.proofs.lemmas.List.Elements.{Contains-append_left, Contains-append_right, All-contains, All-nil, Contains-append_cases}
use Rattle.std.specs.List.{All, Contains}
use Rattle.std.specs.Prelude.{slice_index_or}
use Rattle.bs_words.specs.Contents.{contents}
use Rattle.bs_words.proofs.Lists.{none_in}
use Rattle.dataflow.specs.Flow.{Graph, graph, IsPlace}
use Rattle.dataflow.specs.Flow as flows
use Rattle.dataflow.specs.Reach.{ComesIn, ComesTo, IsReaching}
use Rattle.dataflow.specs.declared.flow.Flow as flow
use Rattle.dataflow.specs.declared.flow.Place as place
use Rattle.mach_ir.specs.Acts.{Target, On}
use Rattle.mach_ir.specs.Graph.{IsLiveMap}
use Rattle.mach_ir.specs.Meaning.{Everything, destroyed_by, code_at, registers_written}
use Rattle.mach_ir.specs.Walks.{OneOf, targets, goes, WalkStep, Live, Writes, StandsAsInstr}
use Rattle.mach_ir.specs.declared.graph.LiveMap.{LiveMap}
use Rattle.mach_ir.specs.declared.mach.Instr.{Instr}
use Rattle.mach_ir.specs.declared.mach.Mach.{Mach}
use Rattle.mach_laws.specs.Expand.{Ending}
use Rattle.mach_laws.specs.Graph.{code_index, numbers_of_registers, next_places, numbers_read, numbers_written, IsFlowOf}
use Rattle.mach_laws.proofs.Places.{ending_next, stands_of, ending_of}
use Rattle.mach_laws.proofs.Walking.{place_is, among_numbers, in_numbers, place_back, place_within, ending_place, ending_leads}
use Rattle.spill_rules.specs.Chosen.{lives, Lost, over, still}
use Rattle.spill.specs.Graphs.{IsMadeBefore, IsLostNode, AreLostNodes, at_end, before}
use Rattle.spill.specs.Tables.{AreLost}
use Rattle.liveness.proofs.Steps.{each, destroys_on, Steps, steps_of, steps_to, IsWithin, next_within, reads_small, writes_small, live_small}

module _ (m : Mach) (live : LiveMap) (exact : IsLiveMap m live) (old : flow.Flow) (is : IsFlowOf m old) (formed : flows.IsFlowFormed old) where
  abbrev rows : List (List Bool)
  rows = live.before.rows.items

  abbrev Nodes : List Instr → List place.Place → Type 0
  Nodes = AreLostNodes m rows old.bound

  -- ---- a node

  record At (rest : List Instr) (nodes : List place.Place) (p : ℕ) : Type 0 where
    node : place.Place
    is_node : IsLostNode m rows old.bound (drop p rest) node
    item : (d : place.Place) → slice_index_or nodes p d ≡ node
    part : (f : place.Place → List ℕ) → slice_index_or (map f nodes) p [] ≡ f node

  at_place : {rest : List Instr} {nodes : List place.Place} → Nodes rest nodes → (p : ℕ) → p ≤ length rest → At rest nodes p
  at_place (at_end {node = node} n) zero le = record { node = node; is_node = n; item = λ d. refl; part = λ f. refl }
  at_place (at_end n) (suc p) le = absurd (omega (arith, le))
  at_place (before {node = node} n ns) zero le = record { node = node; is_node = n; item = λ d. refl; part = λ f. refl }
  at_place (before n ns) (suc p) le =
      let a = at_place ns p (omega (arith, le)) in
      record { node = a.node; is_node = a.is_node; item = a.item; part = a.part }

  past : {rest : List Instr} {nodes : List place.Place} → Nodes rest nodes → (p : ℕ) → length rest < p → (f : place.Place → List ℕ) →
      slice_index_or (map f nodes) p [] ≡ []
  past (at_end n) zero lt f = absurd (omega (arith, lt))
  past (at_end n) (suc p) lt f = refl
  past (before n ns) zero lt f = absurd (omega (arith, lt))
  past (before n ns) (suc p) lt f = past ns p (omega (arith, lt)) f

  count : {rest : List Instr} {nodes : List place.Place} → Nodes rest nodes → length nodes ≡ suc (length rest)
  count (at_end n) = refl
  count (before n ns) = ap suc (count ns)

  within_or : (p k : ℕ) → (p ≤ k) ⊎ (k < p)
  within_or zero k = inl (omega arith)
  within_or (suc p) zero = inr (omega arith)
  within_or (suc p) (suc k) = ⊎_elim (λ h. inl (omega (arith, h))) (λ h. inr (omega (arith, h))) (within_or p k)

  module _ (f : flow.Flow) (nodes : Nodes m.code (contents f.places)) (bound : f.bound ≡ old.bound) where
    abbrev g : Graph
    g = graph f

    at : (p : ℕ) → p ≤ length m.code → At m.code (contents f.places) p
    at p le = at_place nodes p le

    inside : (part : place.Place → List ℕ) (p q : ℕ) → Contains (slice_index_or (map part (contents f.places)) p []) q → p ≤ length m.code
    inside part p q c =
        ⊎_elim (λ le. le) (λ lt. absurd (none_in q (subst (λ xs. Contains xs q) (past nodes p lt part) c))) (within_or p (length m.code))

    -- ---- from the graph

    step_of : (o q : ℕ) (le : o ≤ length m.code) → Contains (g.next o) q → Steps m o q
    step_of o q le c =
        let a = at o le in
        steps_of m o q (drop o m.code) refl
        (subst (λ xs. Contains xs q) (a.part (λ x. contents x.next) ∙ (a.is_node).next) c)

    no_aside : (o q : ℕ) → Contains (g.aside o) q → ⊥
    no_aside o q c =
        let le = inside (λ x. contents x.aside) o q c in
        let a = at o le in
        none_in q (subst (λ xs. Contains xs q) (a.part (λ x. contents x.aside) ∙ (a.is_node).aside) c)

    turned : {i : Instr} {next : List Instr} (n : ℕ) (t : Target) → t ≡ On → StandsAsInstr i next m.code → destroyed_by i.op ≡ Everything →
        (Writes m i n → ⊥) → OneOf t (targets i.op) → Live m n next → Lost m n (code_at m.code next t)
    turned {i} {next} n t e s d w o v =
        subst (λ t. Lost m n (code_at m.code next t)) (sym e)
        (over (lives s d w (goes On (subst (λ t. OneOf t (targets i.op)) e o)) v))

    made : (n o q : ℕ) → o ≤ length m.code → Steps m o q → IsMadeBefore m rows old.bound (drop o m.code) n → Lost m n (drop q m.code)
    made n o q le s h =
        let i = s.instr in
        let next = s.next in
        let x = subst (λ rest. IsMadeBefore m rows old.bound rest n) s.is h in
        let ending = ending_place m o s.is in
        subst (Lost m n) (sym s.to)
        (turned n s.target (destroys_on i.op s.target x.0 s.one) (stands_of ending) x.0
        (λ a. (x.1).1.unwritten (in_numbers a)) s.one
        (subst (Live m n) (place_is m (ending_next ending)) ((exact.exact (code_index m next) n).0 (x.1).1.live)))

    kept : (n o q : ℕ) → o ≤ length m.code → Steps m o q → (Contains (g.writes o) n → ⊥) → Lost m n (drop o m.code) → Lost m n (drop q m.code)
    kept n o q le s w h =
        let i = s.instr in
        let next = s.next in
        let a = at o le in
        let ends : g.writes o ≡ numbers_of_registers i.args ++ numbers_of_registers (registers_written m i) =
        a.part (λ x. contents x.writes) ∙ (a.is_node).writes ∙ ap (λ rest. numbers_read rest ++ numbers_written m rest) s.is in
        let out : Contains (numbers_of_registers i.args ++ numbers_of_registers (registers_written m i)) n → ⊥ = λ c. w (subst (λ xs. Contains xs n) (sym ends) c) in
        subst (Lost m n) (sym s.to)
        (still (subst (Lost m n) s.is h) (λ z. out (Contains-append_left (numbers_of_registers i.args) (numbers_of_registers (registers_written m i)) n (in_numbers z)))
        (λ z. out (Contains-append_right (numbers_of_registers i.args) (numbers_of_registers (registers_written m i)) n (in_numbers z))) (goes s.target s.one))

    stepped : (k n o p : ℕ) → ((q : ℕ) → q ≤ length m.code → ComesIn g n k q → Lost m n (drop q m.code)) → Contains (g.next o) p →
        Contains (g.reads o) n ⊎ ((Contains (g.writes o) n → ⊥) × ComesIn g n k o) → Lost m n (drop p m.code)
    stepped k n o p known c h =
        let within = inside (λ x. contents x.next) o p c in
        let a = at o within in
        let s = step_of o p within c in
        ⊎_elim
        (λ r. made n o p within s (((a.is_node).reads n).0 (subst (λ xs. Contains xs n) (a.part (λ x. contents x.reads)) r)))
        (λ r. kept n o p within s r.0 (known o within r.1)) h

    to_lost : (k n p : ℕ) → p ≤ length m.code → ComesIn g n k p → Lost m n (drop p m.code)
    to_lost zero n p le h = absurd h
    to_lost (suc k) n p le h = ⊎_elim (λ s. stepped k n s.0 p (to_lost k n) s.1 s.2) (λ s. absurd (no_aside s.0 p s.1)) h

    -- ---- and back

    lost_ends : {n : ℕ} {rest : List Instr} → Lost m n rest → Ending rest m.code
    lost_ends (over (lives s d w l v)) = ending_leads l (ending_of s)
    lost_ends (still h a w l) = ending_leads l (lost_ends h)

    goes_to : {i : Instr} {next to : List Instr} (p : ℕ) → Ending (i ∷ next) m.code → WalkStep m i next to → p ≤ length m.code → drop p m.code ≡ to →
        Contains (g.next (code_index m (i ∷ next))) p
    goes_to {i} {next} {to} p e l le h =
        let o = code_index m (i ∷ next) in
        let a = at o (place_within m (i ∷ next)) in
        subst (λ xs. Contains xs p) (sym (a.part (λ x. contents x.next) ∙ (a.is_node).next ∙ ap (next_places m) (place_is m e)))
        (subst (Contains (next_places m (i ∷ next))) (place_back m p to le h) (steps_to m l))

    next_live : {i : Instr} {next to : List Instr} {n : ℕ} → destroyed_by i.op ≡ Everything → WalkStep m i next to → Live m n to → Live m n next
    next_live {i} {next} {n = n} d (goes t o) v = subst (λ t. Live m n (code_at m.code next t)) (destroys_on i.op t d o) v

    comes_to : {n : ℕ} {rest : List Instr} → Lost m n rest → (p : ℕ) → p ≤ length m.code → drop p m.code ≡ rest → ComesTo g p n
    comes_to {n} (over {i = i} {next = next} (lives s d w l v)) p le e =
        let ending = ending_of s in
        let o = code_index m (i ∷ next) in
        let a = at o (place_within m (i ∷ next)) in
        let after = next_live d l v in
        let made : IsMadeBefore m rows old.bound (i ∷ next) n = (
          d,
          (
            live_small m old is formed after (ending_next ending),
            record {
              live = (exact.exact (code_index m next) n).1 (subst (Live m n) (sym (place_is m (ending_next ending))) after);
              unwritten = λ c. w (among_numbers n (registers_written m i) c);
            },
          ),
        ) in (
          1,
          inl (
            o,
            goes_to p ending l le e,
            inl (subst (λ xs. Contains xs n) (sym (a.part (λ x. contents x.reads)))
                (((a.is_node).reads n).1 (subst (λ rest. IsMadeBefore m rows old.bound rest n) (sym (place_is m ending)) made))),
          ),
        )
    comes_to {n} (still {i = i} {next = next} h r w l) p le e =
        let ending = lost_ends h in
        let o = code_index m (i ∷ next) in
        let a = at o (place_within m (i ∷ next)) in
        let b = comes_to h o (place_within m (i ∷ next)) (place_is m ending) in
        let ends : g.writes o ≡ numbers_of_registers i.args ++ numbers_of_registers (registers_written m i) =
        a.part (λ x. contents x.writes) ∙ (a.is_node).writes ∙ ap (λ rest. numbers_read rest ++ numbers_written m rest) (place_is m ending) in (
          suc b.0,
          inl (
            o,
            goes_to p ending l le e,
            inr (
              λ c.
                  ⊎_elim (λ z. r (among_numbers n i.args z)) (λ z. w (among_numbers n (registers_written m i) z))
                  (Contains-append_cases (numbers_of_registers i.args) (numbers_of_registers (registers_written m i)) n (subst (λ xs. Contains xs n) ends c)),
              b.1,
            ),
          ),
        )

    pub are_lost : (found : List (List Bool)) → IsReaching f found → AreLost m found
    are_lost found h =
        record {
          exact = λ p n le. (
            λ e. let x = (h.exact p n).0 e in to_lost x.0 n p le x.1,
            λ l. (h.exact p n).1 (comes_to l p le refl),
          );
        }

    -- ---- the graph is one

    pub lost_formed : flows.IsFlowFormed f
    lost_formed = λ k d lt. subst (IsPlace (length (contents f.places)) f.bound) (sym ((at k (inner k lt)).item d)) (fits k (inner k lt))
      where
        inner : (k : ℕ) → k < length (contents f.places) → k ≤ length m.code
        inner k lt = let c = count nodes in omega (arith, lt, c)

        same_count : length (contents old.places) ≡ length (contents f.places)
        same_count = is.places ∙ sym (count nodes)

        fits : (k : ℕ) (le : k ≤ length m.code) → IsPlace (length (contents f.places)) f.bound (at k le).node
        fits k le =
            let a = at k le in
            let n = a.is_node in
            record {
              next = subst (λ c. All (λ q. q < c) (contents (a.node).next)) same_count
                  (subst (IsWithin m old is formed) (sym n.next) (next_within m old is formed k));
              aside = subst (All (λ q. q < length (contents f.places))) (sym n.aside) (All-nil (λ q. q < length (contents f.places)));
              reads = subst (λ b. All (λ r. r < b) (contents (a.node).reads)) (sym bound)
                  (each (λ r. r < old.bound) (contents (a.node).reads) (λ r c. small (drop k m.code) r ((n.reads r).0 c)));
              writes = subst (λ b. All (λ r. r < b) (contents (a.node).writes)) (sym bound)
                  (subst (All (λ r. r < old.bound)) (sym n.writes)
                  (each (λ r. r < old.bound) (numbers_read (drop k m.code) ++ numbers_written m (drop k m.code))
                  (λ r c.
                  ⊎_elim (All-contains (λ r. r < old.bound) (numbers_read (drop k m.code)) r (reads_small m old is formed k))
                  (All-contains (λ r. r < old.bound) (numbers_written m (drop k m.code)) r (writes_small m old is formed k))
                  (Contains-append_cases (numbers_read (drop k m.code)) (numbers_written m (drop k m.code)) r c))));
            }
          where
            small : (rest : List Instr) (r : ℕ) → IsMadeBefore m rows old.bound rest r → r < old.bound
            small [] r h = absurd h
            small (i ∷ next) r h = (h.1).0
