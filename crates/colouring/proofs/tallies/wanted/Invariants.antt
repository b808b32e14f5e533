use Rattle.std.proofs.Common.{◌≡◌, ℕ, ◌*◌, ◌^◌, ◌<◌, ◌≤◌, take}
use Rattle.colouring.specs.Chosen.{wanted_by}
use Rattle.colouring.specs.Tables.{places_by, count_at}
use Rattle.colouring.proofs.tallies.wanted.Given as goal

pub record Wanted (Value Room : Type 0) : Type 0 where
  pub value : Value
  pub room : Room

abbrev pub invariant-loop-number : goal.invariant-loop-number
invariant-loop-number l = Wanted
    ((r : ℕ) → r < 32 → count_at l.counts r ≡ wanted_by l.graph (places_by l.places) r (take l.number-index l.numbers))
    ((r : ℕ) → r < 32 → count_at l.counts r ≤ l.number-index * 2 ^ 64)
