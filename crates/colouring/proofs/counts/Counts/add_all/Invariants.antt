use Rattle.std.proofs.Common.{◌≡◌, ℕ, ◌+◌, ◌<◌, take}
use Rattle.colouring.specs.Chosen.{count_in_colour}
use Rattle.colouring.specs.Tables.{places_by, count_at}
use Rattle.colouring.proofs.counts.Counts.add_all.Given as goal

abbrev pub invariant-loop-number : goal.invariant-loop-number
invariant-loop-number l = (r : ℕ) → r < 32 →
    count_at l.self r ≡ count_at l.fn.self r + count_in_colour (places_by l.places) r (take l.number-index l.numbers)
