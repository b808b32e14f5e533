-- A graph that has the entry, and wherever control goes from each of its positions, has all that walks come to.
use Rattle.std.proofs.Common.{◌≡◌, ℕ, ◌<◌, ◌≤◌, List, [], ◌∷◌, Some, length, drop, refl, sym, ap, ◌∙◌, subst, arith}
use Rattle.std.proofs.lemmas.Option.{slice_get_within}
use Rattle.std.specs.List.{Contains}
use Rattle.std.specs.Prelude.{slice_get}
use Rattle.bs_words.specs.Contents.{contents}
use Rattle.bs_words.proofs.Lists.{none_in, got, drop_none}
use Rattle.dataflow.specs.declared.flow.Place as place
use Rattle.lin_ir.specs.Meaning.{after_label}
use Rattle.lin_ir.specs.Walks.{targets, may_raise, tries_after, goes, raises, Reached, at_entry, by_step, by_raise}
use Rattle.lin_ir.specs.declared.lin.Line.{Line}
use Rattle.lin_ir.specs.declared.lin.Lin.{Lin}
use Rattle.lin_laws.proofs.Places.{Ends, number_all, place_target, place_is, place_of_target, target_ends, ends_label}
use Rattle.lin_laws.proofs.Walking.{step_is, in_steps, landing_is, in_landing}
use Rattle.lin_laws.specs.Graph.{line_index, place_at, position, steps, steps_at, raises_at, raise_steps, ArePositionNodes}
use Rattle.lin_laws.specs.declared.position.Position.{Position}

module _ (m : Lin) where
  pub reached_ends : {rest : List Line} {tries : List ℕ} → Reached m rest tries → Ends m.code rest
  reached_ends at_entry = record { at = 0; within = omega arith; is = drop_none m.code }
  reached_ends (by_step r (goes t o)) = target_ends m t (reached_ends r)
  reached_ends (by_raise r (raises {h = h} b)) = ends_label h m.code

  -- ---- from a position to the next

  abbrev IsReached : Position → Type 0
  IsReached y = Reached m (drop y.place m.code) y.tries

  step_from : (p : ℕ) (tries : List ℕ) (rest : List Line) → drop p m.code ≡ rest → Reached m rest tries → (y : Position) →
      Contains (steps_at m p rest tries) y → IsReached y
  step_from p tries [] e h y c = absurd (none_in y c)
  step_from p tries (i ∷ next) e h y c =
      let t = step_is m p (tries_after i.op tries) (targets i.op) y c in
      subst IsReached t.2
      (subst (λ xs. Reached m xs (tries_after i.op tries)) (sym (place_target m p i next t.0 e)) (by_step h (goes t.0 t.1)))

  raise_from : (tries : List ℕ) (rest : List Line) → Reached m rest tries → (y : Position) → Contains (raises_at m rest tries) y →
      IsReached y
  raise_from tries [] h y c = absurd (none_in y c)
  raise_from tries (i ∷ next) h y c =
      let t = landing_is m (may_raise i.op) tries y c in
      subst IsReached t.4
      (subst (λ xs. Reached m xs t.1) (sym (place_is m (ends_label t.0 m.code)))
      (by_raise (subst (λ ts. Reached m (i ∷ next) ts) t.3 h) (raises {h = t.0} {tries = t.1} t.2)))

  pub steps_reached : (x : Position) → Reached m (drop x.place m.code) x.tries → (y : Position) → Contains (steps m x) y →
      Reached m (drop y.place m.code) y.tries
  steps_reached x h y c = step_from x.place x.tries (drop x.place m.code) refl h y c

  pub raises_reached : (x : Position) → Reached m (drop x.place m.code) x.tries → (y : Position) → Contains (raise_steps m x) y →
      Reached m (drop y.place m.code) y.tries
  raises_reached x h y c = raise_from x.tries (drop x.place m.code) h y c

  -- ---- all that is reached

  module _ (bound : ℕ) (all : List Position) (nodes : List place.Place) (len : length all ≤ length nodes)
      (is : ArePositionNodes m bound all nodes) (entry : (q : ℕ) × (slice_get all q ≡ Some (position 0 []))) where
    node_at : (q : ℕ) (x : Position) → slice_get all q ≡ Some x → (node : place.Place) × (slice_get nodes q ≡ Some node)
    node_at q x e = let lt : q < length all = slice_get_within all q x e in got nodes q (omega (arith, lt, len))

    pub all_reached : {rest : List Line} {tries : List ℕ} → Reached m rest tries →
        (q : ℕ) × (slice_get all q ≡ Some (position (line_index m rest) tries))
    all_reached at_entry =
        let none : 0 ≡ line_index m m.code = omega arith in
        (entry.0, entry.1 ∙ ap (λ k. Some (position k [])) none)
    all_reached (by_step {i = i} {next = next} {tries = tries} r (goes t o)) =
        let h = all_reached r in
        let e = reached_ends r in
        let x : Position = position (line_index m (i ∷ next)) tries in
        let y : Position = position (place_at m x.place t) (tries_after i.op tries) in
        let node = node_at h.0 x h.1 in
        let k = is h.0 x node.0 h.1 node.1 in
        let c : Contains (steps m x) y =
        subst (λ xs. Contains (steps_at m x.place xs tries) y) (sym (place_is m e)) (in_steps m x.place (tries_after i.op tries) o) in
        let n = number_all all (contents node.0.next) (steps m x) y k.next c in
        (n.0, n.2 ∙ ap (λ k. Some (position k (tries_after i.op tries))) (sym (place_of_target m i next t e)))
    all_reached (by_raise {i = i} {next = next} r (raises {h = l} {tries = tries} b)) =
        let h = all_reached r in
        let e = reached_ends r in
        let x : Position = position (line_index m (i ∷ next)) (l ∷ tries) in
        let y : Position = position (line_index m (after_label l m.code)) tries in
        let node = node_at h.0 x h.1 in
        let k = is h.0 x node.0 h.1 node.1 in
        let c : Contains (raise_steps m x) y =
        subst (λ xs. Contains (raises_at m xs (l ∷ tries)) y) (sym (place_is m e)) (in_landing m (may_raise i.op) l tries b) in
        let n = number_all all (contents node.0.aside) (raise_steps m x) y k.aside c in
        (n.0, n.2)
