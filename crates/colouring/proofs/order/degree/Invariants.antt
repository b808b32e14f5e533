use Rattle.std.proofs.Common.{◌≡◌, ◌+◌, drop, not}
use Rattle.std.specs.Prelude.{count_by}
use Rattle.colouring.specs.Chosen.{is_slot}
use Rattle.colouring.specs.Tables.{places_by}
use Rattle.colouring.proofs.order.degree.Given as goal

abbrev pub invariant-loop-number : goal.invariant-loop-number
invariant-loop-number l =
    l.count + count_by (λ n. not (is_slot (places_by l.places n))) (drop l.number-index l.number-items)
    ≡ count_by (λ n. not (is_slot (places_by l.places n))) l.number-items
