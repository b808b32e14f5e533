use Rattle.std.proofs.Common.{ℕ, ◌+◌, ◌-◌, ◌<◌, ◌≤◌, get_or, length}
use Rattle.rv_machine.specs.Memory.{code_start}
use Rattle.alloc_service.proofs.Sorted.{afters}
use Rattle.alloc_service.proofs.stack.descriptor_of.Given as goal

abbrev pub invariant-loop-low : goal.invariant-loop-low
invariant-loop-low l = record {
  order : l.low ≤ l.high;
  within : l.high ≤ length l.rows;
  below : (k : ℕ) → k < l.low → code_start + get_or (afters l.rows) k 0 < l.address;
  above : (k : ℕ) → l.high ≤ k → k < length l.rows → l.address < code_start + get_or (afters l.rows) k 0;
}

abbrev pub decreases-loop-low : goal.decreases-loop-low
decreases-loop-low l = l.high - l.low
