-- What is used by the flow graph of a function is what is used by its walks.
use Rattle.std.proofs.Common.{◌≡◌, ℕ, zero, suc, Bool, true, ⊎_elim, List, [], ◌∷◌, drop, refl, sym, ap, ◌∙◌, subst}
use Rattle.std.specs.List.{Contains}
use Rattle.dataflow.specs.Flow.{graph}
use Rattle.dataflow.specs.declared.flow.Flow as flow
use Rattle.mach_ir.specs.Meaning.{code_at, from_handler, tries_at, killed, registers_written}
use Rattle.mach_ir.specs.Walks.{AmongRegisters, targets, may_raise, goes, raises}
use Rattle.mach_ir.specs.declared.mach.Instr.{Instr}
use Rattle.mach_ir.specs.declared.mach.Mach.{Mach}
use Rattle.mach_laws.specs.Graph.{code_index, next_places, raise_places, numbers_read, numbers_written, IsFlowOf}
use Rattle.mach_laws.proofs.Places.{ending_next, ending_from_handler}
use Rattle.mach_laws.proofs.Walking.{among_numbers, in_numbers, ending_at, place_is, place_at, ending_place, target_of, in_targets, handler_of, in_handlers}
use Rattle.mach_laws.proofs.Among.{none_among, left_among, split_among}
use Rattle.deadcode_rules.specs.Dropped as dropped
use Rattle.deadcode_rules.specs.Dropped.{may_go, IsUsed}
use Rattle.deadcode_rules.proofs.Text.{pure_of, pure_on, pure_only, pure_kills}
use Rattle.bs_words.proofs.Lists.{none_in, head_same, none_there}
use Rattle.cse_deadcode.specs.Flows as flows
use Rattle.cse_deadcode.specs.Flows.{UsedBefore, AreUsed}
use Rattle.cse_deadcode.specs.Uses.{goes_at, AreUses}

-- the instruction at a place
at_place : (code : List Instr) (p : ℕ) (i : Instr) (next : List Instr) → drop p code ≡ i ∷ next → goes_at code p ≡ may_go i.op
at_place [] zero i next e = absurd (none_there e)
at_place [] (suc p) i next e = absurd (none_there e)
at_place (x ∷ xs) zero i next e = ap (λ (x : Instr). may_go x.op) (head_same e)
at_place (x ∷ xs) (suc p) i next e = at_place xs p i next e

module _ (m : Mach) where
  -- what may go writes its results alone
  result_of : (i : Instr) (n : ℕ) → may_go i.op ≡ true → AmongRegisters n (registers_written m i) → AmongRegisters n i.results
  result_of i n e a =
      ⊎_elim (λ r. r)
      (λ k. none_among (subst (AmongRegisters n) (pure_kills m.colours i.results (pure_of i.op e)) k))
      (split_among n i.results (killed m i) a)

  module _ (f : flow.Flow) (is : IsFlowOf m f) where
    abbrev Used : ℕ → ℕ → Type 0
    Used = UsedBefore (graph f) (goes_at m.code)

    reads_at : (p : ℕ) {rest : List Instr} → drop p m.code ≡ rest → (graph f).reads p ≡ numbers_read rest
    reads_at p d = is.reads p ∙ ap numbers_read d

    writes_at : (p : ℕ) {rest : List Instr} → drop p m.code ≡ rest → (graph f).writes p ≡ numbers_written m rest
    writes_at p d = is.writes p ∙ ap (numbers_written m) d

    next_at : (p : ℕ) {rest : List Instr} → drop p m.code ≡ rest → (graph f).next p ≡ next_places m rest
    next_at p d = is.next p ∙ ap (next_places m) d

    aside_at : (p : ℕ) {rest : List Instr} → drop p m.code ≡ rest → (graph f).aside p ≡ raise_places m rest
    aside_at p d = is.aside p ∙ ap (raise_places m) d

    to_used : {p r : ℕ} → Used p r → (rest : List Instr) → drop p m.code ≡ rest → IsUsed m r rest
    to_used {r = r} (flows.read {p = p} e c) [] d = absurd (none_in r (subst (λ xs. Contains xs r) (reads_at p d) c))
    to_used {r = r} (flows.read {p = p} e c) (i ∷ next) d =
        dropped.read (sym (at_place m.code p i next d) ∙ e)
        (among_numbers r i.args (subst (λ xs. Contains xs r) (reads_at p d) c))
    to_used {r = r} (flows.read_for {p = p} {q = q} {k = k} e c w n u) [] d =
        absurd (none_in r (subst (λ xs. Contains xs r) (reads_at p d) c))
    to_used {r = r} (flows.read_for {p = p} {q = q} {k = k} e c w n u) (i ∷ next) d =
        let g = sym (at_place m.code p i next d) ∙ e in
        let t = target_of m next (targets i.op) q (subst (λ xs. Contains xs q) (next_at p d) n) in
        dropped.read_for g (among_numbers r i.args (subst (λ xs. Contains xs r) (reads_at p d) c))
        (result_of i k g (among_numbers k (registers_written m i) (subst (λ xs. Contains xs k) (writes_at p d) w)))
        (subst (λ t. IsUsed m k (code_at m.code next t)) (pure_only (pure_of i.op g) t.1)
        (to_used u (code_at m.code next t.0) (place_at m (ending_at t.0 (ending_place m p d)) t.2)))
    to_used {r = r} (flows.on {p = p} {q = q} free n u) [] d =
        absurd (none_in q (subst (λ xs. Contains xs q) (next_at p d) n))
    to_used {r = r} (flows.on {p = p} {q = q} free n u) (i ∷ next) d =
        let t = target_of m next (targets i.op) q (subst (λ xs. Contains xs q) (next_at p d) n) in
        dropped.on (λ a. free (subst (λ xs. Contains xs r) (sym (writes_at p d)) (in_numbers a))) (goes t.0 t.1)
        (to_used u (code_at m.code next t.0) (place_at m (ending_at t.0 (ending_place m p d)) t.2))
    to_used {r = r} (flows.aside {p = p} {q = q} n u) [] d =
        absurd (none_in q (subst (λ xs. Contains xs q) (aside_at p d) n))
    to_used {r = r} (flows.aside {p = p} {q = q} n u) (i ∷ next) d =
        let t = handler_of m (may_raise i.op) (tries_at (i ∷ next)) q (subst (λ xs. Contains xs q) (aside_at p d) n) in
        dropped.aside (raises t.2 t.3)
        (to_used u (from_handler t.0 m.code) (place_at m (ending_from_handler t.0 m.code) t.4))

    from_used : {r : ℕ} {rest : List Instr} → IsUsed m r rest → (p : ℕ) → drop p m.code ≡ rest → Used p r
    from_used {r} (dropped.read {i = i} {next = next} e a) p d =
        flows.read (at_place m.code p i next d ∙ e) (subst (λ xs. Contains xs r) (sym (reads_at p d)) (in_numbers a))
    from_used {r} (dropped.read_for {k = k} {i = i} {next = next} e a w u) p d =
        let to = code_index m next in
        flows.read_for (at_place m.code p i next d ∙ e) (subst (λ xs. Contains xs r) (sym (reads_at p d)) (in_numbers a))
        (subst (λ xs. Contains xs k) (sym (writes_at p d)) (in_numbers (left_among i.results (killed m i) w)))
        (subst (λ xs. Contains xs to) (sym (next_at p d)) (in_targets m next (pure_on (pure_of i.op e))))
        (from_used u to (place_is m (ending_next (ending_place m p d))))
    from_used {r} (dropped.on {i = i} {next = next} free (goes t o) u) p d =
        let to = code_index m (code_at m.code next t) in
        flows.on (λ c. free (among_numbers r (registers_written m i) (subst (λ xs. Contains xs r) (writes_at p d) c)))
        (subst (λ xs. Contains xs to) (sym (next_at p d)) (in_targets m next o))
        (from_used u to (place_is m (ending_at t (ending_place m p d))))
    from_used {r} (dropped.aside {i = i} {next = next} (raises {l = l} {tries = tries} b h) u) p d =
        let to = code_index m (from_handler l m.code) in
        flows.aside
        (subst (λ xs. Contains xs to) (sym (aside_at p d)) (in_handlers m (may_raise i.op) (tries_at (i ∷ next)) l tries b h))
        (from_used u to (place_is m (ending_from_handler l m.code)))

pub are_uses : (m : Mach) (f : flow.Flow) → IsFlowOf m f → (rows : List (List Bool)) → AreUsed f (goes_at m.code) rows → AreUses m rows
are_uses m f is rows h =
    record {
      exact = λ p n.
          let x = h.exact p n in (
            λ e. to_used m f is (x.0 e) (drop p m.code) refl,
            λ u. x.1 (from_used m f is u p refl),
          );
    }
