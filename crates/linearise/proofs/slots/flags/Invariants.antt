use Rattle.std.proofs.Common.{◌≡◌, ℕ, ◌||◌, false, drop, length, slice_index_or}
use Rattle.linearise_rules.specs.Lowered.{is_among_numbers}
use Rattle.linearise.proofs.slots.flags.Given as goal

abbrev pub invariant-loop-slot : goal.invariant-loop-slot
invariant-loop-slot l =
    record {
      len : length l.flags.items ≡ l.limit;
      same : (k : ℕ) → slice_index_or l.flags.items k false || is_among_numbers k (drop l.slot-index l.slots) ≡ is_among_numbers k l.slots;
    }
