-- What is live by the flow graph of a function is what is live by its walks.
use Rattle.std.proofs.Common.{◌≡◌, ◌↔◌, ℕ, zero, suc, ◌<◌, Bool, true, false, inl, inr, ⊎_elim, List, [], ◌∷◌, Some, length, map, drop, refl, sym, ap, ◌∙◌, subst, arith}
use Rattle.std.proofs.lemmas.Option.{slice_get_within}
use Rattle.std.specs.List.{Contains}
use Rattle.std.specs.Prelude.{slice_get}
use Rattle.bs_words.specs.Contents.{contents}
use Rattle.bs_words.specs.declared.types.Comp.TheVariants as comp
use Rattle.bs_words.proofs.Lists.{none_in, first_in, later_in, in_cons, got}
use Rattle.dataflow.specs.Flow.{Graph, graph, ReadsIn, LiveBefore}
use Rattle.dataflow.specs.declared.flow.Flow as flow
use Rattle.dataflow.specs.declared.flow.Place as place
use Rattle.lin_ir.specs.Known.{Target, OneOf, this, other}
use Rattle.lin_ir.specs.Meaning.{after_label}
use Rattle.lin_ir.specs.Walks.{targets, may_raise, tries_after, goes, raises, Writes, Live, read, on, aside, LiveAcross, across_step, across_raise, LiveAt, Traps}
use Rattle.lin_ir.specs.declared.lin.Line.{Line}
use Rattle.lin_ir.specs.declared.lin.Lin.{Lin}
use Rattle.lin_laws.proofs.Places.{table_at, number_is, number_all, place_target, place_is, ends_label}
use Rattle.lin_laws.specs.Graph.{location_of_number, line_index, place_at, position, steps, steps_at, landing, raises_at, raise_steps, ReadsAt, WritesAt, IsNodeAfterPoint, IsGraphOf}
use Rattle.lin_laws.specs.declared.position.Position.{Position}

module _ (m : Lin) where
  -- ---- one step

  pub step_is : (p : ℕ) (tries : List ℕ) (ts : List Target) (y : Position) →
      Contains (map (λ t. position (place_at m p t) tries) ts) y →
      (t : Target) × OneOf t ts × (position (place_at m p t) tries ≡ y)
  step_is p tries [] y c = absurd (none_in y c)
  step_is p tries (t ∷ ts) y c =
      ⊎_elim (λ e. (t, this, e)) (λ d. let g = step_is p tries ts y d in (g.0, other g.1, g.2))
      (in_cons (position (place_at m p t) tries) y (map (λ t. position (place_at m p t) tries) ts) c)

  pub in_steps : (p : ℕ) (tries : List ℕ) {t : Target} {ts : List Target} → OneOf t ts →
      Contains (map (λ t. position (place_at m p t) tries) ts) (position (place_at m p t) tries)
  in_steps p tries {t} (this {ts = ts}) = first_in (position (place_at m p t) tries) _
  in_steps p tries {t} (other {u = u} {ts = ts} o) =
      later_in (position (place_at m p u) tries) (position (place_at m p t) tries) _ (in_steps p tries o)

  pub landing_is : (b : Bool) (tries : List ℕ) (y : Position) → Contains (landing m b tries) y →
      (h : ℕ) × (others : List ℕ) × (b ≡ true) × (tries ≡ h ∷ others) × (position (line_index m (after_label h m.code)) others ≡ y)
  landing_is false tries y c = absurd (none_in y c)
  landing_is true [] y c = absurd (none_in y c)
  landing_is true (h ∷ tries) y c =
      ⊎_elim (λ e. (h, tries, refl, refl, e)) (λ d. absurd (none_in y d))
      (in_cons (position (line_index m (after_label h m.code)) tries) y [] c)

  pub in_landing : (b : Bool) (h : ℕ) (others : List ℕ) → b ≡ true →
      Contains (landing m b (h ∷ others)) (position (line_index m (after_label h m.code)) others)
  in_landing b h others e =
      subst (λ b. Contains (landing m b (h ∷ others)) (position (line_index m (after_label h m.code)) others)) (sym e)
      (first_in (position (line_index m (after_label h m.code)) others) [])

  -- ---- walks

  module _ (all : List Position) (f : flow.Flow) (is : IsGraphOf m all f) (r : ℕ) where
    abbrev g : Graph
    g = graph f

    node_at : (q : ℕ) (x : Position) → slice_get all q ≡ Some x → (node : place.Place) × (slice_get (contents f.places) q ≡ Some node)
    node_at q x e =
        let lt : q < length all = slice_get_within all q x e in got (contents f.places) q (omega (arith, lt, is.len))

    next_at : (q : ℕ) (node : place.Place) → slice_get (contents f.places) q ≡ Some node → g.next q ≡ contents node.next
    next_at q node e = table_at (λ (x : place.Place). contents x.next) (contents f.places) q node [] e

    aside_at : (q : ℕ) (node : place.Place) → slice_get (contents f.places) q ≡ Some node → g.aside q ≡ contents node.aside
    aside_at q node e = table_at (λ (x : place.Place). contents x.aside) (contents f.places) q node [] e

    reads_at : (q : ℕ) (node : place.Place) → slice_get (contents f.places) q ≡ Some node → g.reads q ≡ contents node.reads
    reads_at q node e = table_at (λ (x : place.Place). contents x.reads) (contents f.places) q node [] e

    writes_at : (q : ℕ) (node : place.Place) → slice_get (contents f.places) q ≡ Some node → g.writes q ≡ contents node.writes
    writes_at q node e = table_at (λ (x : place.Place). contents x.writes) (contents f.places) q node [] e

    -- live at a position
    abbrev LiveIn : Position → Type 0
    LiveIn y = Live m (location_of_number r) comp.Val (drop y.place m.code) y.tries

    -- a walk of n steps from each position, given to what goes one step before it
    abbrev Known : ℕ → Type 0
    Known n = (q : ℕ) (x : Position) → slice_get all q ≡ Some x → ReadsIn g r n q → LiveIn x

    read_live : (rest : List Line) (tries : List ℕ) → ReadsAt (location_of_number r) comp.Val rest → Live m (location_of_number r) comp.Val rest tries
    read_live [] tries h = absurd h
    read_live (i ∷ next) tries h = read h

    stepped : (p : ℕ) (tries : List ℕ) (rest : List Line) → drop p m.code ≡ rest → (WritesAt (location_of_number r) rest → ⊥) → (y : Position) →
        Contains (steps_at m p rest tries) y → LiveIn y → Live m (location_of_number r) comp.Val rest tries
    stepped p tries [] e w y c h = absurd (none_in y c)
    stepped p tries (i ∷ next) e w y c h =
        let t = step_is p (tries_after i.op tries) (targets i.op) y c in
        let live : LiveIn (position (place_at m p t.0) (tries_after i.op tries)) = subst LiveIn (sym t.2) h in
        on w (goes t.0 t.1)
        (subst (λ xs. Live m (location_of_number r) comp.Val xs (tries_after i.op tries)) (place_target m p i next t.0 e) live)

    raised : (tries : List ℕ) (rest : List Line) → (y : Position) → Contains (raises_at m rest tries) y → LiveIn y →
        Live m (location_of_number r) comp.Val rest tries
    raised tries [] y c h = absurd (none_in y c)
    raised tries (i ∷ next) y c h =
        let t = landing_is (may_raise i.op) tries y c in
        let live : LiveIn (position (line_index m (after_label t.0 m.code)) t.1) = subst LiveIn (sym t.4) h in
        subst (λ ts. Live m (location_of_number r) comp.Val (i ∷ next) ts) (sym t.3)
        (aside (raises {h = t.0} {tries = t.1} t.2)
        (subst (λ xs. Live m (location_of_number r) comp.Val xs t.1) (place_is m (ends_label t.0 m.code)) live))

    pub to_live : (n : ℕ) → Known n
    to_live zero = λ q x e h.
        let node = node_at q x e in
        let n = is.nodes q x node.0 e node.1 in
        read_live (drop x.place m.code) x.tries ((n.reads.exact r).0 (subst (λ xs. Contains xs r) (reads_at q node.0 node.1) h))
    to_live (suc n) = λ q x e h.
        let node = node_at q x e in
        let k = is.nodes q x node.0 e node.1 in
        ⊎_elim
        (λ s.
        let to = number_is all (contents node.0.next) (steps m x) (s.1).0 k.next
        (subst (λ xs. Contains xs (s.1).0) (next_at q node.0 node.1) (s.1).1) in
        stepped x.place x.tries (drop x.place m.code) refl
        (λ w. s.0 (subst (λ xs. Contains xs r) (sym (writes_at q node.0 node.1)) ((k.writes.exact r).1 w))) to.0 to.1
        (to_live n (s.1).0 to.0 to.2 (s.1).2))
        (λ s.
        let to = number_is all (contents node.0.aside) (raise_steps m x) s.0 k.aside
        (subst (λ xs. Contains xs s.0) (aside_at q node.0 node.1) s.1) in
        raised x.tries (drop x.place m.code) to.0 to.1 (to_live n s.0 to.0 to.2 s.2)) h

    pub from_live : {rest : List Line} {tries : List ℕ} → Live m (location_of_number r) comp.Val rest tries → (q : ℕ) (x : Position) →
        slice_get all q ≡ Some x → drop x.place m.code ≡ rest → x.tries ≡ tries → LiveBefore g q r
    from_live (read a) q x e d t =
        let node = node_at q x e in
        let k = is.nodes q x node.0 e node.1 in (
          0,
          subst (λ xs. Contains xs r) (sym (reads_at q node.0 node.1))
              ((k.reads.exact r).1 (subst (λ xs. ReadsAt (location_of_number r) comp.Val xs) (sym d) a)),
        )
    from_live (on {i = i} {next = next} w (goes to o) l) q x e d t =
        let node = node_at q x e in
        let k = is.nodes q x node.0 e node.1 in
        let y : Position = position (place_at m x.place to) (tries_after i.op x.tries) in
        let c : Contains (steps m x) y =
        subst (λ xs. Contains (steps_at m x.place xs x.tries) y) (sym d) (in_steps x.place (tries_after i.op x.tries) o) in
        let n = number_all all (contents node.0.next) (steps m x) y k.next c in
        let h = from_live l n.0 y n.2 (place_target m x.place i next to d) (ap (tries_after i.op) t) in (
          suc h.0,
          inl (
            λ c. w (subst (λ xs. WritesAt (location_of_number r) xs) d ((k.writes.exact r).0 (subst (λ xs. Contains xs r) (writes_at q node.0 node.1) c))),
            (n.0, subst (λ xs. Contains xs n.0) (sym (next_at q node.0 node.1)) n.1, h.1),
          ),
        )
    from_live (aside {i = i} {next = next} (raises {h = l} {tries = tries} b) live) q x e d t =
        let node = node_at q x e in
        let k = is.nodes q x node.0 e node.1 in
        let y : Position = position (line_index m (after_label l m.code)) tries in
        let c : Contains (raise_steps m x) y =
        subst (λ xs. Contains (raises_at m xs x.tries) y) (sym d)
        (subst (λ ts. Contains (landing m (may_raise i.op) ts) y) (sym t) (in_landing (may_raise i.op) l tries b)) in
        let n = number_all all (contents node.0.aside) (raise_steps m x) y k.aside c in
        let h = from_live live n.0 y n.2 (place_is m (ends_label l m.code)) refl in (
          suc h.0,
          inr (n.0, subst (λ xs. Contains xs n.0) (sym (aside_at q node.0 node.1)) n.1, h.1),
        )

    -- What is live before a position by the graph is what some walk from there reads before it
    -- writes it.
    pub live_by_graph : (q : ℕ) (x : Position) → slice_get all q ≡ Some x →
        LiveBefore (graph f) q r ↔ Live m (location_of_number r) comp.Val (drop x.place m.code) x.tries
    live_by_graph q x e = (λ h. to_live h.0 q x e h.1, λ l. from_live l q x e refl refl)

    -- ---- frame points

    module _ (p : ℕ) (i : Line) (next : List Line) (at : drop p m.code ≡ i ∷ next) (q : ℕ) (node : place.Place)
        (here : slice_get (contents f.places) q ≡ Some node) (after : IsNodeAfterPoint m f.bound all p node) where
      trapped : {tries : List ℕ} → Traps m (drop p m.code) tries → Traps m (i ∷ next) tries
      trapped {tries} t = subst (λ xs. Traps m xs tries) at t

      across_on : (tries : List ℕ) → (Writes i (location_of_number r) → ⊥) → (y : Position) → Contains (steps_at m p (i ∷ next) tries) y → LiveIn y →
          LiveAcross m (location_of_number r) comp.Val i next tries
      across_on tries w y c h =
          let t = step_is p (tries_after i.op tries) (targets i.op) y c in
          let live : LiveIn (position (place_at m p t.0) (tries_after i.op tries)) = subst LiveIn (sym t.2) h in
          across_step w (goes t.0 t.1)
          (subst (λ xs. Live m (location_of_number r) comp.Val xs (tries_after i.op tries)) (place_target m p i next t.0 at) live)

      across_aside : (tries : List ℕ) → (y : Position) → Contains (raises_at m (i ∷ next) tries) y → LiveIn y →
          LiveAcross m (location_of_number r) comp.Val i next tries
      across_aside tries y c h =
          let t = landing_is (may_raise i.op) tries y c in
          let live : LiveIn (position (line_index m (after_label t.0 m.code)) t.1) = subst LiveIn (sym t.4) h in
          subst (λ ts. LiveAcross m (location_of_number r) comp.Val i next ts) (sym t.3)
          (across_raise (raises {h = t.0} {tries = t.1} t.2)
          (subst (λ xs. Live m (location_of_number r) comp.Val xs t.1) (place_is m (ends_label t.0 m.code)) live))

      to_across : (n : ℕ) → ReadsIn g r n q → LiveAt m (location_of_number r) comp.Val i next
      to_across zero h = absurd (none_in r (subst (λ xs. Contains xs r) (reads_at q node here ∙ after.reads) h))
      to_across (suc n) h =
          ⊎_elim
          (λ s.
          let to = after.next_is (s.1).0 (subst (λ xs. Contains xs (s.1).0) (next_at q node here) (s.1).1) in
          record {
            tries = to.0;
            traps = trapped to.1;
            across = across_on to.0
                (λ w. s.0 (subst (λ xs. Contains xs r) (sym (writes_at q node here))
                ((after.writes.exact r).1 (subst (λ xs. WritesAt (location_of_number r) xs) (sym at) w)))) (to.2).0
                (subst (λ xs. Contains (steps_at m p xs to.0) (to.2).0) at (to.2).1) (to_live n (s.1).0 (to.2).0 (to.2).2 (s.1).2);
          })
          (λ s.
          let to = after.aside_is s.0 (subst (λ xs. Contains xs s.0) (aside_at q node here) s.1) in
          record {
            tries = to.0;
            traps = trapped to.1;
            across = across_aside to.0 (to.2).0 (subst (λ xs. Contains (raises_at m xs to.0) (to.2).0) at (to.2).1)
                (to_live n s.0 (to.2).0 (to.2).2 s.2);
          }) h

      from_across : (tries : List ℕ) → Traps m (i ∷ next) tries → LiveAcross m (location_of_number r) comp.Val i next tries → LiveBefore g q r
      from_across tries traps (across_step w (goes to o) l) =
          let y : Position = position (place_at m p to) (tries_after i.op tries) in
          let c : Contains (steps m (position p tries)) y =
          subst (λ xs. Contains (steps_at m p xs tries) y) (sym at) (in_steps p (tries_after i.op tries) o) in
          let n = after.next_all tries (subst (λ xs. Traps m xs tries) (sym at) traps) y c in
          let h = from_live l n.0 y n.2 (place_target m p i next to at) refl in (
            suc h.0,
            inl (
              λ c. w (subst (λ xs. WritesAt (location_of_number r) xs) at ((after.writes.exact r).0 (subst (λ xs. Contains xs r) (writes_at q node here) c))),
              (n.0, subst (λ xs. Contains xs n.0) (sym (next_at q node here)) n.1, h.1),
            ),
          )
      from_across tries traps (across_raise (raises {h = l} {tries = others} b) live) =
          let y : Position = position (line_index m (after_label l m.code)) others in
          let c : Contains (raise_steps m (position p (l ∷ others))) y =
          subst (λ xs. Contains (raises_at m xs (l ∷ others)) y) (sym at) (in_landing (may_raise i.op) l others b) in
          let n = after.aside_all (l ∷ others) (subst (λ xs. Traps m xs (l ∷ others)) (sym at) traps) y c in
          let h = from_live live n.0 y n.2 (place_is m (ends_label l m.code)) refl in (
            suc h.0,
            inr (n.0, subst (λ xs. Contains xs n.0) (sym (aside_at q node here)) n.1, h.1),
          )

      -- What is live before the place of a frame point by the graph is what is live after it.
      pub live_at_by_graph : LiveBefore (graph f) q r ↔ LiveAt m (location_of_number r) comp.Val i next
      live_at_by_graph = (λ h. to_across h.0 h.1, λ l. from_across l.tries l.traps l.across)
