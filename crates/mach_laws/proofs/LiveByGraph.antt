-- What is live by the flow graph of a function is what is live by its walks.
use Rattle.std.proofs.Common.{◌≡◌, ◌↔◌, ℕ, zero, suc, inl, inr, ⊎_elim, List, [], ◌∷◌, drop, refl, sym, ◌∙◌, subst}
use Rattle.std.specs.List.{Contains}
use Rattle.mach_ir.specs.Known.{Graph, graph, ReadsIn, LiveBefore, IsLiveness, Flow}
use Rattle.mach_ir.specs.Graph.{IsLiveMap}
use Rattle.mach_ir.specs.Meaning.{code_at, from_handler, tries_at, registers_written}
use Rattle.mach_ir.specs.Walks.{targets, may_raise, goes, raises, Live, read, on, aside}
use Rattle.mach_ir.specs.declared.graph.LiveMap.{LiveMap}
use Rattle.mach_ir.specs.declared.mach.Instr.{Instr}
use Rattle.mach_ir.specs.declared.mach.Mach.{Mach}
use Rattle.bs_words.proofs.Lists.{none_in}
use Rattle.mach_laws.specs.Graph.{code_index, next_places, raise_places, numbers_read, numbers_written, flow_graph, IsFlowOf}
use Rattle.mach_laws.proofs.Places.{ending_from_handler}
use Rattle.mach_laws.proofs.Walking.{among_numbers, in_numbers, ending_at, place_is, place_at, ending_place, target_of, in_targets, handler_of, in_handlers}

module _ (m : Mach) where
  -- ---- walks

  abbrev g : Graph
  g = flow_graph m

  -- a walk of n steps from each place, given to what goes one step before it
  abbrev Known : ℕ → ℕ → Type 0
  Known r n = (p : ℕ) (rest : List Instr) → drop p m.code ≡ rest → ReadsIn g r n p → Live m r rest

  read_live : (r : ℕ) (rest : List Instr) → Contains (numbers_read rest) r → Live m r rest
  read_live r [] c = absurd (none_in r c)
  read_live r (i ∷ next) c = read (among_numbers r i.args c)

  stepped : (r n p : ℕ) → Known r n → (rest : List Instr) → drop p m.code ≡ rest →
      (Contains (numbers_written m rest) r → ⊥) → (q : ℕ) → Contains (next_places m rest) q → ReadsIn g r n q →
      Live m r rest
  stepped r n p ih [] e w q c h = absurd (none_in q c)
  stepped r n p ih (i ∷ next) e w q c h =
      let t = target_of m next (targets i.op) q c in
      on (λ a. w (in_numbers a)) (goes t.0 t.1)
      (ih q (code_at m.code next t.0) (place_at m (ending_at t.0 (ending_place m p e)) t.2) h)

  raised : (r n p : ℕ) → Known r n → (rest : List Instr) → drop p m.code ≡ rest → (q : ℕ) →
      Contains (raise_places m rest) q → ReadsIn g r n q → Live m r rest
  raised r n p ih [] e q c h = absurd (none_in q c)
  raised r n p ih (i ∷ next) e q c h =
      let t = handler_of m (may_raise i.op) (tries_at (i ∷ next)) q c in
      aside (raises t.2 t.3)
      (ih q (from_handler t.0 m.code) (place_at m (ending_from_handler t.0 m.code) t.4) h)

  to_live : (r n : ℕ) → Known r n
  to_live r zero = λ p rest e h. read_live r rest (subst (λ xs. Contains (numbers_read xs) r) e h)
  to_live r (suc n) = λ p rest e h.
      ⊎_elim
      (λ s.
      let q = (s.1).0 in
      stepped r n p (to_live r n) rest e (subst (λ xs. Contains (numbers_written m xs) r → ⊥) e s.0) q
      (subst (λ xs. Contains (next_places m xs) q) e (s.1).1) (s.1).2)
      (λ s. raised r n p (to_live r n) rest e s.0 (subst (λ xs. Contains (raise_places m xs) s.0) e s.1) s.2) h

  from_live : {r : ℕ} {rest : List Instr} → Live m r rest → (p : ℕ) → drop p m.code ≡ rest → LiveBefore g p r
  from_live {r} (read {i = i} {next = next} a) p e =
      (0, subst (λ xs. Contains (numbers_read xs) r) (sym e) (in_numbers a))
  from_live {r} (on {i = i} {next = next} w (goes t o) l) p e =
      let to = code_at m.code next t in
      let h = from_live l (code_index m to) (place_is m (ending_at t (ending_place m p e))) in (
        suc h.0,
        inl (
          subst (λ xs. Contains (numbers_written m xs) r → ⊥) (sym e) (λ c. w (among_numbers r (registers_written m i) c)),
          (code_index m to, subst (λ xs. Contains (next_places m xs) (code_index m to)) (sym e) (in_targets m next o), h.1),
        ),
      )
  from_live {r} (aside {i = i} {next = next} (raises {l = l} {tries = tries} b t) live) p e =
      let to = from_handler l m.code in
      let h = from_live live (code_index m to) (place_is m (ending_from_handler l m.code)) in (
        suc h.0,
        inr (
          code_index m to,
          subst (λ xs. Contains (raise_places m xs) (code_index m to)) (sym e)
              (in_handlers m (may_raise i.op) (tries_at (i ∷ next)) l tries b t),
          h.1,
        ),
      )

  -- What is live before a place by the graph is what some walk from there reads before it writes it.
  pub live_by_graph : (p r : ℕ) → LiveBefore (flow_graph m) p r ↔ Live m r (drop p m.code)
  live_by_graph p r = (λ h. to_live r h.0 p (drop p m.code) refl h.1, λ l. from_live l p refl)

  -- ---- tables

  module _ (f : Flow) (is : IsFlowOf m f) (r : ℕ) where
    to_graph : (n p : ℕ) → ReadsIn (graph f) r n p → ReadsIn g r n p
    to_graph zero p h = subst (λ xs. Contains xs r) (is.reads p) h
    to_graph (suc n) p h =
        ⊎_elim
        (λ s.
        inl (
          subst (λ xs. Contains xs r → ⊥) (is.writes p) s.0,
          ((s.1).0, subst (λ xs. Contains xs (s.1).0) (is.next p) (s.1).1, to_graph n (s.1).0 (s.1).2),
        ))
        (λ s. inr (s.0, subst (λ xs. Contains xs s.0) (is.aside p) s.1, to_graph n s.0 s.2)) h

    from_graph : (n p : ℕ) → ReadsIn g r n p → ReadsIn (graph f) r n p
    from_graph zero p h = subst (λ xs. Contains xs r) (sym (is.reads p)) h
    from_graph (suc n) p h =
        ⊎_elim
        (λ s.
        inl (
          subst (λ xs. Contains xs r → ⊥) (sym (is.writes p)) s.0,
          ((s.1).0, subst (λ xs. Contains xs (s.1).0) (sym (is.next p)) (s.1).1, from_graph n (s.1).0 (s.1).2),
        ))
        (λ s. inr (s.0, subst (λ xs. Contains xs s.0) (sym (is.aside p)) s.1, from_graph n s.0 s.2)) h

  -- The answer of liveness on the table of a function is its live map.
  pub live_map : (f : Flow) → IsFlowOf m f → (live : LiveMap) → IsLiveness f live.before.rows.items → IsLiveMap m live
  live_map f is live h =
      record {
        len = h.len ∙ is.places;
        exact = λ p r.
            let x = h.exact p r in let y = live_by_graph p r in (
              λ e. let s = x.0 e in y.0 (s.0, to_graph f is r s.0 p s.1),
              λ l. let s = y.1 l in x.1 (s.0, from_graph f is r s.0 p s.1),
            );
      }
