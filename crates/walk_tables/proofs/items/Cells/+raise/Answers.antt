use Rattle.std.proofs.Common.{inl, inr, ◌≡◌, sym, ap, ◌∙◌, ◌<◌, Some, Bool, true, false, arith}
use Rattle.std.proofs.lemmas.Bool.{false≢true}
use Rattle.walk_tables.specs.Cells.{cells}
use Rattle.walk_tables.specs.declared.items.Item.{Item}
use Rattle.walk_tables.specs.declared.items.Item.TheVariants as item
use Rattle.walk_tables.proofs.Leavings.{raise-past, raise-own, raise-further, rest-within}
use Rattle.walk_tables.proofs.items.Cells.+raise.Goals as goal

-- whether an item is after the body of a try
abbrev is_handles : Item → Bool
is_handles (item.Handles scope slot name_at name handler entry rest) = true
is_handles _ = false

pub raise-returns-in-None : goal.raise-returns-in-None
raise-returns-in-None t c = λ sound. raise-past (cells c.args.self.now) c.args.cell (sym c.get.ensures ∙ c.in-None.is)

pub raise_behind-returns-else-rest-cell : goal.raise_behind-returns-else-rest-cell
raise_behind-returns-else-rest-cell t c = λ sound e.
    let b : c.in-Some.rest < c.args.cell = rest-within (cells c.args.self.now) c.args.cell c.args.item c.in-Some.rest sound e (sym c.rest_of.ensures ∙ c.in-Some.is) in
    absurd (omega (arith, c.if-rest-cell.false))

pub raise_in-returns-in-Handles : goal.raise_in-returns-in-Handles
raise_in-returns-in-Handles t c = λ sound e. raise-own (cells c.args.self.now) c.args.cell _ _ _ _ _ _ _ sound (e ∙ ap Some c.in-Handles.is)

pub raise_in-returns-in-Empty : goal.raise_in-returns-in-Empty
raise_in-returns-in-Empty t c = λ sound e.
    let none : is_handles c.args.item ≡ false = elim c.in-Empty.is [
      | inl i ↦ ap is_handles i
      | inr (inl (_, _, _, _, _, i)) ↦ ap is_handles i
      | inr (inr (inl (_, _, i))) ↦ ap is_handles i
      | inr (inr (inr (inl (_, _, _, _, i)))) ↦ ap is_handles i
      | inr (inr (inr (inr (inl (_, _, _, _, _, i))))) ↦ ap is_handles i
      | inr (inr (inr (inr (inr (inl (_, _, _, _, _, i)))))) ↦ ap is_handles i
      | inr (inr (inr (inr (inr (inr (inl (_, _, _, _, i))))))) ↦ ap is_handles i
      | inr (inr (inr (inr (inr (inr (inr (inl (_, i)))))))) ↦ ap is_handles i
      | inr (inr (inr (inr (inr (inr (inr (inr (inl (_, i))))))))) ↦ ap is_handles i
      | inr (inr (inr (inr (inr (inr (inr (inr (inr (inl (_, _, i)))))))))) ↦ ap is_handles i
      | inr (inr (inr (inr (inr (inr (inr (inr (inr (inr (inl (_, _, _, _, _, _, i))))))))))) ↦ ap is_handles i
      | inr (inr (inr (inr (inr (inr (inr (inr (inr (inr (inr ((_, _, _, _, _, _, i)))))))))))) ↦ ap is_handles i
    ] in
    let other : (scope slot name_at : _) (name handler : _) (entry rest : _) → c.args.item ≡ item.Handles scope slot name_at name handler entry rest → ⊥ =
    λ scope slot name_at name handler entry rest h. false≢true (sym none ∙ ap is_handles h) in
    raise-further (cells c.args.self.now) c.args.cell c.args.item c.raise_behind.result sound e other (c.raise_behind.ensures sound e)
