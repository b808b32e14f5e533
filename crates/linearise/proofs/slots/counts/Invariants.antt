use Rattle.std.proofs.Common.{◌≡◌, ◌≤◌, ◌++◌, drop}
use Rattle.linearise.specs.Numbers.{running}
use Rattle.linearise.proofs.slots.counts.Given as goal

abbrev pub invariant-loop-flag : goal.invariant-loop-flag
invariant-loop-flag l =
    record {
      few : l.count ≤ l.flag-index;
      made : l.numbers.items ++ running l.count (drop l.flag-index l.flags) ≡ running 0 l.flags;
    }
