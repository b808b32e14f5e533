-- What reaches a place in the graph of what is fresh is what is fresh there.
use Rattle.std.proofs.Common.{◌≡◌, ℕ, ◌<◌, ◌≤◌, Bool, ◌⊎◌, ⊎_elim, List, ◌∷◌, length, drop, refl, sym, ◌∙◌, subst}
use Rattle.std.specs.List.{All, Contains}
use Rattle.std.proofs.lemmas.List.Elements.{All-nil}
use Rattle.bs_words.specs.Contents.{contents}
use Rattle.dataflow.specs.Flow.{Graph, graph, IsPlace, IsBare}
use Rattle.dataflow.specs.Flow as flows
use Rattle.dataflow.specs.Reach.{ComesIn, ComesTo, IsReaching}
use Rattle.dataflow.specs.declared.flow.Flow as flow
use Rattle.dataflow.specs.declared.flow.Place as place
use Rattle.mach_ir.specs.Graph.{IsLiveMap}
use Rattle.mach_ir.specs.Meaning.{registers_written as written_by}
use Rattle.mach_ir.specs.Walks.{WalkStep, Live, Writes}
use Rattle.mach_ir.specs.Walks as walks
use Rattle.mach_ir.specs.declared.graph.LiveMap.{LiveMap}
use Rattle.mach_ir.specs.declared.mach.Instr.{Instr}
use Rattle.mach_ir.specs.declared.mach.Mach.{Mach}
use Rattle.mach_laws.specs.Expand.{Ending}
use Rattle.mach_laws.specs.Graph.{code_index, numbers_of_registers, next_places, raise_places, IsFlowOf}
use Rattle.mach_laws.proofs.Places.{ending_next, stands_of, ending_of}
use Rattle.mach_laws.proofs.Walking.{place_is, among_numbers, in_numbers, ending_place, ending_leads, ending_raises}
use Rattle.sink_rules.specs.Walks.{Fresh, written, on, aside}
use Rattle.sink.specs.Graphs.{LivesAt, IsFreshNode, AreFreshNodes}
use Rattle.sink.specs.Tables.{AreFresh}
use Rattle.sink.proofs.Held.{held_destroys}
use Rattle.sink.proofs.Graph.{Where, inner, final, beyond, at, none_past, lead, of}
use Rattle.sink.proofs.Reaching as reaching
use Rattle.sink.proofs.Reaching.{next_live, is_held}
use Rattle.sink.proofs.Living.{decide_in}
use Rattle.sink.proofs.Nodes.{At, AtEnd}
use Rattle.liveness.proofs.Steps.{each}

module _ (m : Mach) (live : LiveMap) (exact : IsLiveMap m live) where
  abbrev rows : List (List Bool)
  rows = live.before.rows.items

  abbrev E : place.Place → Type 0
  E = IsBare

  abbrev N : Instr → List Instr → place.Place → Type 0
  N = IsFreshNode m rows

  next_of : (i : Instr) (next : List Instr) (x : place.Place) → N i next x → contents x.next ≡ next_places m (i ∷ next)
  next_of i next x h = h.next_is

  aside_of : (i : Instr) (next : List Instr) (x : place.Place) → N i next x → contents x.aside ≡ raise_places m (i ∷ next)
  aside_of i next x h = h.aside

  module _ (f : flow.Flow) (nodes : AreFreshNodes m rows m.code (contents f.places)) where
    abbrev g : Graph
    g = graph f

    abbrev The : ℕ → Type 0
    The o = At E N m.code (contents f.places) o

    abbrev last : AtEnd E N m.code (contents f.places)
    last = reaching.last m E N next_of aside_of f nodes

    within : (o : ℕ) → o < length m.code → o ≤ length m.code
    within = reaching.within m E N next_of aside_of f nodes

    abbrev Known : ℕ → ℕ → Type 0
    Known n k = reaching.Known m E N next_of aside_of f nodes n (Fresh m n) k

    -- ---- from the graph

    module _ (k n p : ℕ) (known : Known n k) (v : Live m n (drop p m.code)) where
      -- what is live after the place and comes over it, is not what lives over a call
      kept : (o : ℕ) → o < length m.code → (a : The o) → WalkStep m a.instr a.next (drop p m.code) → (Contains (g.writes o) n → ⊥) →
          ComesIn g n k o → Fresh m n (drop p m.code)
      kept o lt a leads out h =
          let i = a.instr in
          let next = a.next in
          ⊎_elim (λ w. written (stands_of (ending_place m o a.is)) (among_numbers n (written_by m i) w) leads)
          (λ w.
          let unwritten : Writes m i n → ⊥ = λ z. w (in_numbers z) in
          on (subst (Fresh m n) a.is (known o (within o lt) (subst (Live m n) (sym a.is) (walks.on unwritten leads v)) h))
          (λ d.
          let after = next_live m d leads v in
          out
          (subst (λ xs. Contains xs n) (sym (a.part (λ x. contents x.writes)))
          (((a.is_node).writes n).1 (
            is_held m d leads,
            record {
              live = (exact.exact (code_index m next) n).1
                  (subst (Live m n) (sym (place_is m (ending_next (ending_place m o a.is)))) after);
              other = w;
            },
          )))) leads)
          (decide_in n (numbers_of_registers (written_by m i)))

      by_next : (o : ℕ) → Contains (g.next o) p → Contains (g.reads o) n ⊎ ((Contains (g.writes o) n → ⊥) × ComesIn g n k o) →
          Where (length m.code) o → Fresh m n (drop p m.code)
      by_next o c h (inner lt) =
          let a = at m E N next_of aside_of f nodes o lt in
          let leads = lead m E N next_of aside_of f nodes o p a c in
          ⊎_elim
          (λ r.
          written (stands_of (ending_place m o a.is))
          (among_numbers n (written_by m a.instr)
          (subst (λ xs. Contains xs n) (a.part (λ x. contents x.reads) ∙ (a.is_node).reads) r)) leads)
          (λ r. kept o lt a leads r.0 r.1) h
      by_next o c h (final e) = absurd (reaching.end_part m E N next_of aside_of f nodes (λ x. contents x.next) o p e (last.is_end).next c)
      by_next o c h (beyond lt) = absurd (none_past m E N next_of aside_of f nodes (λ x. contents x.next) o p lt c)

    to_fresh : (n k : ℕ) → Known n k
    to_fresh n =
        reaching.comes_from m E N next_of aside_of f nodes n (Fresh m n) (last.is_end).aside (λ i next to h r. aside h r)
        (λ k o p known v c h w. by_next k n p known v o c h w)

    -- ---- and back

    fresh_ends : {n : ℕ} {rest : List Instr} → Fresh m n rest → Ending rest m.code
    fresh_ends (written s w l) = ending_leads l (ending_of s)
    fresh_ends (on h d l) = ending_leads l (fresh_ends h)
    fresh_ends (aside h r) = ending_raises r

    comes_to : {n : ℕ} {rest : List Instr} → Fresh m n rest → (p : ℕ) → p ≤ length m.code → drop p m.code ≡ rest → ComesTo g p n
    comes_to {n} (written {i = i} {next = next} s w l) p le e =
        let x = of m E N next_of aside_of f nodes (ending_of s) in
        reaching.made_there m E N next_of aside_of f nodes p x l le e
        (subst (λ xs. Contains xs n) (sym (x.part (λ x. contents x.reads) ∙ (x.is_node).reads)) (in_numbers w))
    comes_to {n} (on {i = i} {next = next} h d l) p le e =
        let x = of m E N next_of aside_of f nodes (fresh_ends h) in
        reaching.goes_over m E N next_of aside_of f nodes p x l le e
        (λ c.
        d
        (held_destroys i.op (((x.is_node).writes n).0 (subst (λ xs. Contains xs n) (x.part (λ x. contents x.writes)) c)).0))
        (comes_to h x.number (within x.number x.small) x.is)
    comes_to {n} (aside {i = i} {next = next} h r) p le e =
        let x = of m E N next_of aside_of f nodes (fresh_ends h) in
        reaching.goes_aside m E N next_of aside_of f nodes p x r le e (comes_to h x.number (within x.number x.small) x.is)

    pub are_fresh : (found : List (List Bool)) → IsReaching f found → AreFresh m found
    are_fresh found h =
        record {
          exact = λ p n le v. (
            λ e. let x = (h.exact p n).0 e in to_fresh n x.0 p le v x.1,
            λ s. (h.exact p n).1 (comes_to s p le refl),
          );
        }

    -- ---- the graph is one

    module _ (old : flow.Flow) (is : IsFlowOf m old) (formed : flows.IsFlowFormed old) (bound : f.bound ≡ old.bound) where
      small : (p : ℕ) (except : List ℕ) (n : ℕ) → LivesAt rows p except n → n < f.bound
      small = reaching.small m E N next_of aside_of f nodes old is formed bound live exact

      abbrev Fits : place.Place → Type 0
      Fits = IsPlace (length (contents f.places)) f.bound

      fits_instr : (k : ℕ) (a : The k) → Fits a.node
      fits_instr k a =
          let n = a.is_node in
          record {
            next = reaching.next_fits m E N next_of aside_of f nodes old is formed bound k a;
            aside = reaching.aside_fits m E N next_of aside_of f nodes old is formed bound k a;
            reads = reaching.written_fit m E N next_of aside_of f nodes old is formed bound k a (contents (a.node).reads) n.reads;
            writes = each (λ r. r < f.bound) (contents (a.node).writes)
                (λ r c. small (code_index m a.next) (numbers_of_registers (written_by m a.instr)) r ((n.writes r).0 c).1);
          }

      fits_end : Fits last.node
      fits_end =
          let n = last.is_end in
          record {
            next = subst (All (λ q. q < length (contents f.places))) (sym n.next) (All-nil (λ q. q < length (contents f.places)));
            aside = subst (All (λ q. q < length (contents f.places))) (sym n.aside) (All-nil (λ q. q < length (contents f.places)));
            reads = subst (All (λ r. r < f.bound)) (sym n.reads) (All-nil (λ r. r < f.bound));
            writes = subst (All (λ r. r < f.bound)) (sym n.writes) (All-nil (λ r. r < f.bound));
          }

      pub fresh_formed : flows.IsFlowFormed f
      fresh_formed = reaching.flow_formed m E N next_of aside_of f nodes old is formed bound fits_instr fits_end
