use Rattle.std.proofs.Common.{◌≡◌, ℕ, ◌<◌, take}
use Rattle.std.specs.List.{list_any}
use Rattle.colouring.specs.Chosen.{has_colour}
use Rattle.colouring.specs.Tables.{places_by}
use Rattle.linscan.specs.Held.{is_closed_in}
use Rattle.linscan.proofs.closed.Closed.by.Given as goal

abbrev pub invariant-loop-number : goal.invariant-loop-number
invariant-loop-number l = (c : ℕ) → c < 32 →
    is_closed_in l.closed c ≡ list_any (λ n. has_colour c (places_by l.fixed n)) (take l.number-index l.numbers)
