use Rattle.std.proofs.Common.{◌≡◌, ℕ, [], length}
use Rattle.cmm_walks.specs.Groups.{members}
use Rattle.cmm_walks.proofs.groups.groups.Given as goal

abbrev pub invariant-loop-group : goal.invariant-loop-group
invariant-loop-group l = record { len : length l.groups.items ≡ l._group; empty : (k : ℕ) → members l.groups.items k ≡ [] }
