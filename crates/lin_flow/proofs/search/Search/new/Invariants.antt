use Rattle.std.proofs.Common.{◌≡◌, length}
use Rattle.lin_flow.proofs.search.Search.new.Given as goal

abbrev pub invariant-loop-place : goal.invariant-loop-place
invariant-loop-place l = length l.groups.items ≡ l._place
