-- What reaches a place in the graph of what is stale is what is stale there.
use Rattle.std.proofs.Common.{◌≡◌, ℕ, suc, ◌<◌, ◌≤◌, Bool, ◌⊎◌, inl, ⊎_elim, List, [], ◌∷◌, map, length, drop, refl, sym, ap, ◌∙◌, subst, arith}
use Rattle.std.specs.List.{All, Contains}
use Rattle.std.specs.Prelude.{slice_index_or}
use Rattle.std.proofs.lemmas.List.Elements.{All-nil, All-cons}
use Rattle.bs_words.specs.Contents.{contents}
use Rattle.bs_words.proofs.Lists.{none_in, first_in, in_cons, drop_none}
use Rattle.dataflow.specs.Flow.{Graph, graph, IsPlace}
use Rattle.dataflow.specs.Flow as flows
use Rattle.dataflow.specs.Reach.{ComesIn, ComesTo, IsReaching}
use Rattle.dataflow.specs.declared.flow.Flow as flow
use Rattle.dataflow.specs.declared.flow.Place as place
use Rattle.mach_ir.specs.Graph.{IsLiveMap}
use Rattle.mach_ir.specs.Meaning.{registers_written}
use Rattle.mach_ir.specs.Walks.{AmongRegisters, Live, Writes}
use Rattle.mach_ir.specs.Walks as walks
use Rattle.mach_ir.specs.declared.graph.LiveMap.{LiveMap}
use Rattle.mach_ir.specs.declared.mach.Instr.{Instr}
use Rattle.mach_ir.specs.declared.mach.Mach.{Mach}
use Rattle.mach_laws.specs.Expand.{Ending, all}
use Rattle.mach_laws.specs.Graph.{code_index, numbers_of_registers, next_places, raise_places, IsFlowOf}
use Rattle.mach_laws.proofs.Places.{ending_next, stands_of, ending_of}
use Rattle.mach_laws.proofs.Walking.{place_is, among_numbers, in_numbers, place_back, ending_place, ending_leads, ending_raises}
use Rattle.sink_rules.specs.Walks.{Stale, at_entry, over, on, aside}
use Rattle.sink.specs.Graphs.{LivesAt, IsOver, IsSinkEntry, IsStaleNode, AreStaleNodes}
use Rattle.sink.specs.Tables.{AreStale}
use Rattle.sink.proofs.Held.{held_destroys}
use Rattle.sink.proofs.Graph.{Where, inner, final, beyond, at, none_past, lead, of}
use Rattle.sink.proofs.Nodes.{At, AtEnd, count}
use Rattle.liveness.proofs.Steps.{each}
use Rattle.sink.proofs.Reaching as reaching
use Rattle.sink.proofs.Reaching.{next_live, is_held}

module _ (m : Mach) (live : LiveMap) (exact : IsLiveMap m live) where
  abbrev rows : List (List Bool)
  rows = live.before.rows.items

  abbrev E : place.Place → Type 0
  E = IsSinkEntry m rows

  abbrev N : Instr → List Instr → place.Place → Type 0
  N = IsStaleNode m rows

  next_of : (i : Instr) (next : List Instr) (x : place.Place) → N i next x → contents x.next ≡ next_places m (i ∷ next)
  next_of i next x h = h.next_is

  aside_of : (i : Instr) (next : List Instr) (x : place.Place) → N i next x → contents x.aside ≡ raise_places m (i ∷ next)
  aside_of i next x h = h.aside

  module _ (f : flow.Flow) (nodes : AreStaleNodes m rows m.code (contents f.places)) where
    abbrev g : Graph
    g = graph f

    abbrev The : ℕ → Type 0
    The o = At E N m.code (contents f.places) o

    abbrev last : AtEnd E N m.code (contents f.places)
    last = reaching.last m E N next_of aside_of f nodes

    within : (o : ℕ) → o < length m.code → o ≤ length m.code
    within = reaching.within m E N next_of aside_of f nodes

    abbrev Known : ℕ → ℕ → Type 0
    Known n k = reaching.Known m E N next_of aside_of f nodes n (Stale m n) k

    -- ---- from the graph

    at_instr : (k n o p : ℕ) → Known n k → Live m n (drop p m.code) → o < length m.code → The o → Contains (g.next o) p →
        Contains (g.reads o) n ⊎ ((Contains (g.writes o) n → ⊥) × ComesIn g n k o) → Stale m n (drop p m.code)
    at_instr k n o p known v lt a c h =
        let i = a.instr in
        let next = a.next in
        let leads = lead m E N next_of aside_of f nodes o p a c in
        ⊎_elim
        (λ r.
        let x = ((a.is_node).reads n).0 (subst (λ xs. Contains xs n) (a.part (λ x. contents x.reads)) r) in
        over (stands_of (ending_place m o a.is)) (held_destroys i.op x.0) (λ w. (x.1).other (in_numbers w)) leads)
        (λ r.
        let w : Writes m i n → ⊥ =
        λ z. r.0 (subst (λ xs. Contains xs n) (sym (a.part (λ x. contents x.writes) ∙ (a.is_node).writes)) (in_numbers z)) in
        on (subst (Stale m n) a.is (known o (within o lt) (subst (Live m n) (sym a.is) (walks.on w leads v)) r.1)) w leads) h

    at_the_end : (k n o p : ℕ) → Live m n (drop p m.code) → o ≡ length m.code → Contains (g.next o) p →
        Contains (g.reads o) n ⊎ ((Contains (g.writes o) n → ⊥) × ComesIn g n k o) → Stale m n (drop p m.code)
    at_the_end k n o p v e c h =
        let same : (part : place.Place → List ℕ) → slice_index_or (map part (contents f.places)) o [] ≡ part last.node =
        λ part. ap (λ o. slice_index_or (map part (contents f.places)) o []) e ∙ last.part part in
        let zero_is : 0 ≡ p =
        ⊎_elim (λ e. e) (λ d. absurd (none_in p d))
        (in_cons 0 p [] (subst (λ xs. Contains xs p) (same (λ x. contents x.next) ∙ (last.is_end).next) c)) in
        let v0 : Live m n (drop 0 m.code) = subst (λ p. Live m n (drop p m.code)) (sym zero_is) v in
        subst (λ p. Stale m n (drop p m.code)) zero_is
        (subst (Stale m n) (sym (drop_none m.code))
        (⊎_elim
        (λ r.
        let x = ((last.is_end).reads n).0 (subst (λ xs. Contains xs n) (same (λ x. contents x.reads)) r) in
        at_entry (λ a. x.other (in_numbers a)))
        (λ r.
        absurd
        (r.0
        (subst (λ xs. Contains xs n) (sym (same (λ x. contents x.writes)))
        (((last.is_end).writes n).1 (record { live = (exact.exact 0 n).1 v0; other = λ z. none_in n z }))))) h))

    module _ (k n p : ℕ) (known : Known n k) (v : Live m n (drop p m.code)) where
      by_next : (o : ℕ) → Contains (g.next o) p → Contains (g.reads o) n ⊎ ((Contains (g.writes o) n → ⊥) × ComesIn g n k o) →
          Where (length m.code) o → Stale m n (drop p m.code)
      by_next o c h (inner lt) = at_instr k n o p known v lt (at m E N next_of aside_of f nodes o lt) c h
      by_next o c h (final e) = at_the_end k n o p v e c h
      by_next o c h (beyond lt) = absurd (none_past m E N next_of aside_of f nodes (λ x. contents x.next) o p lt c)

    to_stale : (n k : ℕ) → Known n k
    to_stale n =
        reaching.comes_from m E N next_of aside_of f nodes n (Stale m n) (last.is_end).aside (λ i next to h r. aside h r)
        (λ k o p known v c h w. by_next k n p known v o c h w)

    -- ---- and back

    stale_ends : {n : ℕ} {rest : List Instr} → Stale m n rest → Ending rest m.code
    stale_ends (at_entry a) = all
    stale_ends (over s d w l) = ending_leads l (ending_of s)
    stale_ends (on h w l) = ending_leads l (stale_ends h)
    stale_ends (aside h r) = ending_raises r

    begins : (n p : ℕ) → p ≤ length m.code → drop p m.code ≡ m.code → (AmongRegisters n m.params → ⊥) → Live m n m.code → ComesTo g p n
    begins n p le e a v =
        let zero_is : p ≡ 0 = by (place_back m p m.code le e) in
        let end = length m.code in (
          1,
          inl (
            end,
            subst (λ p. Contains (g.next end) p) (sym zero_is)
                (subst (λ xs. Contains xs 0) (sym (last.part (λ x. contents x.next) ∙ (last.is_end).next)) (first_in 0 [])),
            inl (subst (λ xs. Contains xs n) (sym (last.part (λ x. contents x.reads)))
                (((last.is_end).reads n).1
                (record {
                  live = (exact.exact 0 n).1 (subst (Live m n) (sym (drop_none m.code)) v);
                  other = λ c. a (among_numbers n m.params c);
                }))),
          ),
        )
      where
        by : code_index m m.code ≡ p → p ≡ 0
        by h = omega (arith, h)

    comes_to : {n : ℕ} {rest : List Instr} → Stale m n rest → Live m n rest → (p : ℕ) → p ≤ length m.code → drop p m.code ≡ rest → ComesTo g p n
    comes_to {n} (at_entry a) v p le e = begins n p le e a v
    comes_to {n} (over {i = i} {next = next} s d w l) v p le e =
        let ending = ending_of s in
        let x = of m E N next_of aside_of f nodes ending in
        let after = next_live m d l v in
        let made : IsOver rows (code_index m next) i.op (numbers_of_registers (registers_written m i)) n = (
          is_held m d l,
          record {
            live = (exact.exact (code_index m next) n).1 (subst (Live m n) (sym (place_is m (ending_next ending))) after);
            other = λ c. w (among_numbers n (registers_written m i) c);
          },
        ) in
        reaching.made_there m E N next_of aside_of f nodes p x l le e
        (subst (λ xs. Contains xs n) (sym (x.part (λ x. contents x.reads))) (((x.is_node).reads n).1 made))
    comes_to {n} (on {i = i} {next = next} h w l) v p le e =
        let x = of m E N next_of aside_of f nodes (stale_ends h) in
        reaching.goes_over m E N next_of aside_of f nodes p x l le e
        (λ c. w (among_numbers n (registers_written m i) (subst (λ xs. Contains xs n) (x.part (λ x. contents x.writes) ∙ (x.is_node).writes) c)))
        (comes_to h (walks.on w l v) x.number (within x.number x.small) x.is)
    comes_to {n} (aside {i = i} {next = next} h r) v p le e =
        let x = of m E N next_of aside_of f nodes (stale_ends h) in
        reaching.goes_aside m E N next_of aside_of f nodes p x r le e
        (comes_to h (walks.aside r v) x.number (within x.number x.small) x.is)

    pub are_stale : (found : List (List Bool)) → IsReaching f found → AreStale m found
    are_stale found h =
        record {
          exact = λ p n le v. (
            λ e. let x = (h.exact p n).0 e in to_stale n x.0 p le v x.1,
            λ s. (h.exact p n).1 (comes_to s v p le refl),
          );
        }

    -- ---- the graph is one

    module _ (old : flow.Flow) (is : IsFlowOf m old) (formed : flows.IsFlowFormed old) (bound : f.bound ≡ old.bound) where
      small : (p : ℕ) (except : List ℕ) (n : ℕ) → LivesAt rows p except n → n < f.bound
      small = reaching.small m E N next_of aside_of f nodes old is formed bound live exact

      abbrev Fits : place.Place → Type 0
      Fits = IsPlace (length (contents f.places)) f.bound

      fits_instr : (k : ℕ) (a : The k) → Fits a.node
      fits_instr k a =
          let n = a.is_node in
          record {
            next = reaching.next_fits m E N next_of aside_of f nodes old is formed bound k a;
            aside = reaching.aside_fits m E N next_of aside_of f nodes old is formed bound k a;
            reads = each (λ r. r < f.bound) (contents (a.node).reads)
                (λ r c. small (code_index m a.next) (numbers_of_registers (registers_written m a.instr)) r ((n.reads r).0 c).1);
            writes = reaching.written_fit m E N next_of aside_of f nodes old is formed bound k a (contents (a.node).writes) n.writes;
          }

      fits_end : Fits last.node
      fits_end =
          let n = last.is_end in
          let some : length (contents f.places) ≡ suc (length m.code) = count E N nodes in
          record {
            next = subst (All (λ q. q < length (contents f.places))) (sym n.next)
                (All-cons (λ q. q < length (contents f.places)) 0 [] (omega (arith, some)) (All-nil (λ q. q < length (contents f.places))));
            aside = subst (All (λ q. q < length (contents f.places))) (sym n.aside) (All-nil (λ q. q < length (contents f.places)));
            reads = each (λ r. r < f.bound) (contents (last.node).reads) (λ r c. small 0 (numbers_of_registers m.params) r ((n.reads r).0 c));
            writes = each (λ r. r < f.bound) (contents (last.node).writes) (λ r c. small 0 [] r ((n.writes r).0 c));
          }

      pub stale_formed : flows.IsFlowFormed f
      stale_formed = reaching.flow_formed m E N next_of aside_of f nodes old is formed bound fits_instr fits_end
