use Rattle.std.proofs.Common.{inl, inr, List, [], ◌≡◌, refl, sym, ap, ◌∙◌, Some, ◌<◌, arith}
use Rattle.walk_tables.specs.Cells.{cells, scope_at, scope_in}
use Rattle.walk_tables.specs.Found.{found_in}
use Rattle.walk_tables.specs.Walks.{Slotted}
use Rattle.walk_tables.specs.declared.items.Item.{Item}
use Rattle.walk_tables.proofs.Arena.{item-within}
use Rattle.walk_tables.proofs.Names.{found-same, found-other, cell-scope, no-cell}
use Rattle.walk_tables.proofs.items.Cells.+find.Goals as goal

pub find-returns-in-None : goal.find-returns-in-None
find-returns-in-None t c = λ s sound scope. absurd (no-cell (cells c.args.self.now) c.args.scope s scope (sym c.get.ensures ∙ c.in-None.is))

pub find_in-returns-then-same : goal.find_in-returns-then-same
find_in-returns-then-same t c = λ s sound scope e.
    let n = cell-scope (cells c.args.self.now) c.args.scope _ s sound scope (e ∙ ap Some c.in-Named.is) in
    sym (ap (λ (l : List Slotted). found_in l c.args.name.now) n ∙ found-same _ _ c.args.name.now (c.same.ensures.0 c.if-same.true))

pub find_in-returns-then-outer-scope : goal.find_in-returns-then-outer-scope
find_in-returns-then-outer-scope t c = λ s sound scope e.
    let h = e ∙ ap Some c.in-Named.is in
    let n = cell-scope (cells c.args.self.now) c.args.scope _ s sound scope h in
    let b = sound.below c.args.scope _ h in
    let w = item-within (cells c.args.self.now) c.args.scope _ h in
    c.find.ensures (scope_at (cells c.args.self.now) c.in-Named.outer) sound (record { within = omega (arith, b, w); is = refl })
    ∙ sym (ap (λ (l : List Slotted). found_in l c.args.name.now) n ∙ found-other _ _ c.args.name.now (λ q. cc (c.same.ensures.1 q, c.if-same.false)))

pub find_in-returns-else-outer-scope : goal.find_in-returns-else-outer-scope
find_in-returns-else-outer-scope t c = λ s sound scope e.
    let b : c.in-Named.outer < c.args.scope = sound.below c.args.scope _ (e ∙ ap Some c.in-Named.is) in
    absurd (omega (arith, c.if-outer-scope.false))

pub find_in-returns-in-Empty : goal.find_in-returns-in-Empty
find_in-returns-in-Empty t c = λ s sound scope e.
    let n : scope_in (scope_at (cells c.args.self.now)) c.args.item ≡ [] = elim c.in-Empty.is [
      | inl e ↦ ap (λ (x : Item). scope_in (scope_at (cells c.args.self.now)) x) e
      | inr (inl (_, _, e)) ↦ ap (λ (x : Item). scope_in (scope_at (cells c.args.self.now)) x) e
      | inr (inr (inl (_, _, _, _, e))) ↦ ap (λ (x : Item). scope_in (scope_at (cells c.args.self.now)) x) e
      | inr (inr (inr (inl (_, _, _, _, _, e)))) ↦ ap (λ (x : Item). scope_in (scope_at (cells c.args.self.now)) x) e
      | inr (inr (inr (inr (inl (_, _, _, _, _, e))))) ↦ ap (λ (x : Item). scope_in (scope_at (cells c.args.self.now)) x) e
      | inr (inr (inr (inr (inr (inl (_, _, _, _, e)))))) ↦ ap (λ (x : Item). scope_in (scope_at (cells c.args.self.now)) x) e
      | inr (inr (inr (inr (inr (inr (inl (_, e))))))) ↦ ap (λ (x : Item). scope_in (scope_at (cells c.args.self.now)) x) e
      | inr (inr (inr (inr (inr (inr (inr (inl (_, e)))))))) ↦ ap (λ (x : Item). scope_in (scope_at (cells c.args.self.now)) x) e
      | inr (inr (inr (inr (inr (inr (inr (inr (inl (_, _, e))))))))) ↦ ap (λ (x : Item). scope_in (scope_at (cells c.args.self.now)) x) e
      | inr (inr (inr (inr (inr (inr (inr (inr (inr (inl (_, _, _, _, _, _, e)))))))))) ↦ ap (λ (x : Item). scope_in (scope_at (cells c.args.self.now)) x) e
      | inr (inr (inr (inr (inr (inr (inr (inr (inr (inr (inl (_, _, _, _, _, _, e))))))))))) ↦ ap (λ (x : Item). scope_in (scope_at (cells c.args.self.now)) x) e
      | inr (inr (inr (inr (inr (inr (inr (inr (inr (inr (inr ((_, _, _, _, _, _, _, e)))))))))))) ↦ ap (λ (x : Item). scope_in (scope_at (cells c.args.self.now)) x) e
    ] in
    sym (ap (λ (l : List Slotted). found_in l c.args.name.now) (cell-scope (cells c.args.self.now) c.args.scope c.args.item s sound scope e ∙ n))
