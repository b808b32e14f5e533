use Rattle.std.proofs.Common.{◌≡◌, Bool, false, ◌↔◌, IsTrue, sym, ◌∙◌}
use Rattle.std.proofs.lemmas.Bool.{both_ways}
use Rattle.command_line.proofs.Tested.{form_then, form_each, form_once}
use Rattle.command_line.proofs.form.has_form.Goals as goal
use Rattle.command_line.proofs.form.has_form.Goals.{then-each_fills, else-each_fills}

-- a test that failed, of words that cannot have the form
failed : (b : Bool) (P : Type 0) → b ≡ false → (P → ⊥) → IsTrue b ↔ P
failed b P e never = ((λ t. absurd (both_ways b e t)), (λ p. absurd (never p)))

pub returns-then-each_once : goal.returns-then-each_once
returns-then-each_once c = elim c.if-each_fills.branch [
  | then-each_fills w ↦
      form_then c.args.command c.args.others.now _ _ _ _ _ _ c.slots.ensures w.slots-then-each_fills.ensures c.wanted.ensures
      c.each_fills.ensures w.each_once.ensures c.each_there.ensures w.if-each_fills.true (sym w.value-is ∙ c.if-each_once.true)
  | else-each_fills w ↦ absurd (both_ways _ (w.value-is ∙ w.if-each_fills.false) c.if-each_once.true)
]

pub returns-else-each_once : goal.returns-else-each_once
returns-else-each_once c = failed _ _ c.if-each_once.false (elim c.if-each_fills.branch [
  | then-each_fills w ↦
      form_once c.args.command c.args.others.now _ _ w.slots-then-each_fills.ensures w.each_once.ensures (sym w.value-is ∙ c.if-each_once.false)
  | else-each_fills w ↦ form_each c.args.command c.args.others.now _ _ c.slots.ensures c.each_fills.ensures w.if-each_fills.false
])
