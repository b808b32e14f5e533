-- There are numbers for what a Mach function becomes.
use Rattle.std.proofs.Common.{◌≡◌, ℕ, suc, ◌<◌, ◌≤◌, ◌^◌, List, [], ◌∷◌, All, max, ap, arith}
use Rattle.std.proofs.lemmas.List.Elements.{All-head, All-tail}
use Rattle.mach_ir.specs.Formed as mach_formed
use Rattle.mach_ir.specs.Formed.{WellFormed}
use Rattle.mach_ir.specs.Placed.{FullyPlaced}
use Rattle.mach_ir.specs.Seats.{Seated}
use Rattle.mach_ir.specs.declared.mach.Mach.{Mach}
use Rattle.lin_ir.specs.Formed.{labels_in}
use Rattle.linearise_rules.specs.Lowered.{slots_of_function, limit_above, slot_number, lowered}
use Rattle.linearise_rules.specs.Sizes.{HasLineRoom}
use Rattle.linearise_rules.proofs.Lowering.{lowered_lines, lowered_labels}
use Rattle.linearise_rules.proofs.Slots.{count_within}
use Rattle.lin_tidy.proofs.Known.{lowered_regular, turned_shape, ways_few}
use Rattle.lin_tidy.specs.Sizes.{HasTidyRoom}

-- the first free number is above no more than all labels are below
free_low : (ls : List ℕ) (n : ℕ) → All (λ l. l < n) ls → limit_above ls ≤ n
free_low [] n h = omega arith
free_low (l ∷ ls) n h =
    by (limit_above ls) (All-head (λ l. l < n) l ls h) (free_low ls n (All-tail (λ l. l < n) l ls h))
  where
    by : (k : ℕ) → l < n → k ≤ n → max (suc l) k ≤ n
    by k lt le = omega (arith, lt, le)

module _ (p : Mach) (room : HasLineRoom p) where
  pub slots_room : limit_above (slots_of_function p) < 2 ^ 32
  slots_room = let slots = room.slots in omega (arith, slots)

  pub tidy_room : WellFormed p → FullyPlaced p → Seated p → HasTidyRoom (lowered p)
  tidy_room well placed seated =
      let shape = turned_shape (lowered_regular p well placed seated) in
      let lines = shape.lines in
      let ways = ways_few (slot_number p) p.code in
      let first = lowered_lines p in
      let same : limit_above (labels_in (lowered p).code) ≡ limit_above (mach_formed.labels_in p.code) = ap limit_above (lowered_labels p) in
      let free = free_low (mach_formed.labels_in p.code) p.labels well.labels_below in
      let labels = room.labels in
      let few = count_within p in
      let slots = room.slots in
      record {
        labels = omega (arith, same, free, first, labels);
        lines = omega (arith, lines, ways, first, labels);
        slots = omega (arith, few, slots);
      }
