use Rattle.std.proofs.Common.{◌≡◌, ℕ, zero, suc, refl, ap, ◌∙◌, sym}
use Rattle.rv_machine.specs.Marks.{mark_at}
use Rattle.alloc_service.specs.Forward.{forward, mark_or}
use Rattle.alloc_service.proofs.forward.forward.Goals as goal

none : (m w : ℕ) → m ≡ 0 → w ≡ mark_or m w
none m w e = ap (λ n. mark_or n w) (sym e)

some : (m w : ℕ) → (m ≡ 0 → ⊥) → m ≡ mark_or m w
some zero w h = absurd (h refl)
some (suc m) w h = refl

pub returns-then-mark-eq0 : goal.returns-then-mark-eq0
unfolding forward
returns-then-mark-eq0 c = none (mark_at c.args.table.now c.args.word) c.args.word (sym c.mark_of-mark.ensures ∙ c.if-mark-eq0.true)

pub returns-else-mark-eq0 : goal.returns-else-mark-eq0
unfolding forward
returns-else-mark-eq0 c =
    c.mark_of-mark.ensures ∙ some (mark_at c.args.table.now c.args.word) c.args.word (λ e. c.if-mark-eq0.false (c.mark_of-mark.ensures ∙ e))
