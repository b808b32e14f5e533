-- What reaches a place in a graph with the edges of a function, and that such a graph is one, whatever its nodes read and
-- write.
use Rattle.std.proofs.Common.{◌≡◌, ℕ, zero, suc, ◌<◌, ◌≤◌, true, ◌⊎◌, inl, inr, ⊎_elim, List, [], ◌∷◌, map, length, drop, sym, ap, ◌∙◌, subst, arith}
use Rattle.std.specs.List.{All, Contains}
use Rattle.std.specs.Prelude.{slice_index_or}
use Rattle.bs_words.specs.Contents.{contents}
use Rattle.bs_words.proofs.Lists.{none_in}
use Rattle.dataflow.specs.Flow.{Graph, graph, IsPlace}
use Rattle.dataflow.specs.Flow as flows
use Rattle.dataflow.specs.Reach.{ComesIn, ComesTo}
use Rattle.dataflow.specs.declared.flow.Flow as flow
use Rattle.dataflow.specs.declared.flow.Place as place
use Rattle.mach_ir.specs.Graph.{IsLiveMap}
use Rattle.mach_ir.specs.Meaning.{Everything, destroyed_by, code_at, registers_written}
use Rattle.mach_ir.specs.Walks.{goes, WalkStep, Raises, Live}
use Rattle.mach_ir.specs.Walks as walks
use Rattle.mach_ir.specs.declared.graph.LiveMap.{LiveMap}
use Rattle.mach_ir.specs.declared.mach.Instr.{Instr}
use Rattle.mach_ir.specs.declared.mach.Mach.{Mach}
use Rattle.mach_laws.specs.Graph.{numbers_of_registers, next_places, raise_places, numbers_written, IsFlowOf}
use Rattle.mach_laws.proofs.Walking.{ending_drop}
use Rattle.sink.specs.Graphs.{destroys_colours, LivesAt, AreCodeNodes}
use Rattle.sink.proofs.Held.{held_of}
use Rattle.sink.proofs.Graph.{Where, inner, final, beyond, where_is, at, none_past, rise, Of, goes_to, rises_to}
use Rattle.sink.proofs.Nodes.{At, AtEnd, at_last, count}
use Rattle.liveness.proofs.Steps.{destroys_on, IsWithin, next_within, aside_within, writes_small, live_small}

-- ---- what destroys every colour and goes on

module _ (m : Mach) where
  pub next_live : {i : Instr} {next to : List Instr} {n : ℕ} → destroyed_by i.op ≡ Everything → WalkStep m i next to → Live m n to → Live m n next
  next_live {i} {next} {n = n} d (goes t o) v = subst (λ t. Live m n (code_at m.code next t)) (destroys_on i.op t d o) v

  pub is_held : {i : Instr} {next to : List Instr} → destroyed_by i.op ≡ Everything → WalkStep m i next to → destroys_colours i.op ≡ true
  is_held {i} d (goes t o) = held_of i.op t d o

module _ (m : Mach) (E : place.Place → Type 0) (N : Instr → List Instr → place.Place → Type 0)
    (next_of : (i : Instr) (next : List Instr) (x : place.Place) → N i next x → contents x.next ≡ next_places m (i ∷ next))
    (aside_of : (i : Instr) (next : List Instr) (x : place.Place) → N i next x → contents x.aside ≡ raise_places m (i ∷ next))
    (f : flow.Flow) (nodes : AreCodeNodes E N m.code (contents f.places)) where
  abbrev pub g : Graph
  g = graph f

  abbrev pub The : ℕ → Type 0
  The o = At E N m.code (contents f.places) o

  pub last : AtEnd E N m.code (contents f.places)
  last = at_last E N nodes

  -- ---- from the graph

  pub within : (o : ℕ) → o < length m.code → o ≤ length m.code
  within o lt = omega (arith, lt)

  pub end_part : (part : place.Place → List ℕ) (o q : ℕ) → o ≡ length m.code → part (last).node ≡ [] →
      Contains (slice_index_or (map part (contents f.places)) o []) q → ⊥
  end_part part o q e none c =
      none_in q
      (subst (λ xs. Contains xs q) (ap (λ o. slice_index_or (map part (contents f.places)) o []) e ∙ (last).part part ∙ none) c)

  module _ (n : ℕ) (Holds : List Instr → Type 0) where
    -- it holds where the number comes to in so many steps, and is live
    abbrev pub Known : ℕ → Type 0
    Known k = (q : ℕ) → q ≤ length m.code → Live m n (drop q m.code) → ComesIn g n k q → Holds (drop q m.code)

    module _ (bare : contents ((last).node).aside ≡ [])
        (on_aside : (i : Instr) (next to : List Instr) → Holds (i ∷ next) → Raises m i next to → Holds to)
        (on_next : (k o p : ℕ) → Known k → Live m n (drop p m.code) → Contains (g.next o) p →
        Contains (g.reads o) n ⊎ ((Contains (g.writes o) n → ⊥) × ComesIn g n k o) → Where (length m.code) o → Holds (drop p m.code)) where
      by_aside : (k o p : ℕ) → Known k → Live m n (drop p m.code) → Contains (g.aside o) p → ComesIn g n k o → Where (length m.code) o →
          Holds (drop p m.code)
      by_aside k o p known v c h (inner lt) =
          let a = at m E N next_of aside_of f nodes o lt in
          let r = rise m E N next_of aside_of f nodes o p a c in
          on_aside a.instr a.next (drop p m.code)
          (subst Holds a.is (known o (within o lt) (subst (Live m n) (sym a.is) (walks.aside r v)) h)) r
      by_aside k o p known v c h (final e) = absurd (end_part (λ x. contents x.aside) o p e bare c)
      by_aside k o p known v c h (beyond lt) = absurd (none_past m E N next_of aside_of f nodes (λ x. contents x.aside) o p lt c)

      pub comes_from : (k : ℕ) → Known k
      comes_from zero p le v h = absurd h
      comes_from (suc k) p le v h =
          ⊎_elim (λ s. on_next k s.0 p (comes_from k) v s.1 s.2 (where_is (length m.code) s.0))
          (λ s. by_aside k s.0 p (comes_from k) v s.1 s.2 (where_is (length m.code) s.0)) h

  -- ---- and back

  abbrev pub Place : Instr → List Instr → Type 0
  Place = Of m E N next_of aside_of f nodes

  pub made_there : {i : Instr} {next to : List Instr} {n : ℕ} (p : ℕ) (x : Place i next) → WalkStep m i next to → p ≤ length m.code →
      drop p m.code ≡ to → Contains (g.reads x.number) n → ComesTo g p n
  made_there p x l le e r = (1, inl (x.number, goes_to m E N next_of aside_of f nodes p x l le e, inl r))

  pub goes_over : {i : Instr} {next to : List Instr} {n : ℕ} (p : ℕ) (x : Place i next) → WalkStep m i next to → p ≤ length m.code →
      drop p m.code ≡ to → (Contains (g.writes x.number) n → ⊥) → ComesTo g x.number n → ComesTo g p n
  goes_over p x l le e w b = (suc b.0, inl (x.number, goes_to m E N next_of aside_of f nodes p x l le e, inr (w, b.1)))

  pub goes_aside : {i : Instr} {next to : List Instr} {n : ℕ} (p : ℕ) (x : Place i next) → Raises m i next to → p ≤ length m.code →
      drop p m.code ≡ to → ComesTo g x.number n → ComesTo g p n
  goes_aside p x r le e b = (suc b.0, inr (x.number, rises_to m E N next_of aside_of f nodes p x r le e, b.1))

  -- ---- the graph is one

  module _ (old : flow.Flow) (is : IsFlowOf m old) (formed : flows.IsFlowFormed old) (bound : f.bound ≡ old.bound) where
    same_count : length (contents old.places) ≡ length (contents f.places)
    same_count = is.places ∙ sym (count E N nodes)

    pub next_fits : (k : ℕ) (a : The k) → All (λ q. q < length (contents f.places)) (contents (a.node).next)
    next_fits k a =
        subst (λ c. All (λ q. q < c) (contents (a.node).next)) same_count
        (subst (IsWithin m old is formed) (ap (next_places m) a.is ∙ sym (next_of a.instr a.next a.node a.is_node))
        (next_within m old is formed k))

    pub aside_fits : (k : ℕ) (a : The k) → All (λ q. q < length (contents f.places)) (contents (a.node).aside)
    aside_fits k a =
        subst (λ c. All (λ q. q < c) (contents (a.node).aside)) same_count
        (subst (IsWithin m old is formed) (ap (raise_places m) a.is ∙ sym (aside_of a.instr a.next a.node a.is_node))
        (aside_within m old is formed k))

    pub written_fit : (k : ℕ) (a : The k) (ns : List ℕ) → ns ≡ numbers_of_registers (registers_written m a.instr) → All (λ r. r < f.bound) ns
    written_fit k a ns e =
        subst (λ b. All (λ r. r < b) ns) (sym bound)
        (subst (All (λ r. r < old.bound)) (ap (numbers_written m) a.is ∙ sym e) (writes_small m old is formed k))

    pub small : (live : LiveMap) → IsLiveMap m live → (p : ℕ) (except : List ℕ) (n : ℕ) → LivesAt live.before.rows.items p except n →
        n < f.bound
    small live exact p except n h =
        subst (λ b. n < b) (sym bound) (live_small m old is formed ((exact.exact p n).0 h.live) (ending_drop p m.code))

    pub flow_formed : ((k : ℕ) (a : The k) → IsPlace (length (contents f.places)) f.bound a.node) →
        IsPlace (length (contents f.places)) f.bound (last).node → flows.IsFlowFormed f
    flow_formed fits_instr fits_end = λ k d lt. by k d lt (where_is (length m.code) k)
      where
        Fits : place.Place → Type 0
        Fits = IsPlace (length (contents f.places)) f.bound

        by : (k : ℕ) (d : place.Place) → k < length (contents f.places) → Where (length m.code) k → Fits (slice_index_or (contents f.places) k d)
        by k d lt (inner short) = let a = at m E N next_of aside_of f nodes k short in subst Fits (sym (a.item d)) (fits_instr k a)
        by k d lt (final e) =
            subst (λ k. Fits (slice_index_or (contents f.places) k d)) (sym e) (subst Fits (sym ((last).item d)) fits_end)
        by k d lt (beyond far) = let c = count E N nodes in absurd (omega (arith, lt, far, c))
