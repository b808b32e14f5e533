use Rattle.std.proofs.Common.{◌≡◌, ℕ, ◌+◌, ◌-◌, ◌*◌, ◌%◌, ◌<◌, ◌≤◌, ◌⊎◌}
use Rattle.rv_machine.specs.Marks.{mark_at}
use Rattle.alloc_service.proofs.claims.claim_block.Given as goal

abbrev pub invariant-loop-at : goal.invariant-loop-at
invariant-loop-at l = record {
  free : (a : ℕ) → a % 8 ≡ 0 → l.start - 8 ≤ a → a < l.at → mark_at l.initial.table a ≡ 0;
  taken : (a : ℕ) → a % 8 ≡ 0 → l.start - 8 ≤ a → a < l.at → mark_at l.table a ≡ 1;
  others : (a : ℕ) → (a < l.start - 8) ⊎ (l.at ≤ a) → mark_at l.table a ≡ mark_at l.initial.table a;
  aligned : l.at % 8 ≡ 0;
  low : l.start - 8 ≤ l.at;
  high : l.at ≤ l.start + 8 * l.words;
  same_heap : l.table.heap ≡ l.initial.table.heap;
}

abbrev pub decreases-loop-at : goal.decreases-loop-at
decreases-loop-at l = l.start + 8 * l.words - l.at
