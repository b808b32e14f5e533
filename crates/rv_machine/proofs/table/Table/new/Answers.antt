use Rattle.std.proofs.Common.{ℕ, zero, suc, ◌≡◌, Option, Some, None, List, replicate, slice_index, refl, ◌∙◌, ap}
use Rattle.rv_machine.specs.Marks.{mark_at, mark_by, mark_index}
use Rattle.rv_machine.proofs.table.Table.new.Goals as goal

zeros : (n i : ℕ) → slice_index (replicate n 0) i ≡ 0
zeros zero i = refl
zeros (suc n) zero = refl
zeros (suc n) (suc i) = zeros n i

no_mark : (n : ℕ) (o : Option ℕ) → mark_by (replicate n 0) o ≡ 0
no_mark n None = refl
no_mark n (Some i) = zeros n i

pub returns-clause-clean : goal.returns-clause-clean
unfolding mark_at
returns-clause-clean c = λ address.
    ap (λ (t : List ℕ). mark_by t (mark_index c.args.heap address)) (c.in_ok-marks.ensures.items_if_clones_equal (λ y e. e))
    ∙ no_mark _ (mark_index c.args.heap address)
