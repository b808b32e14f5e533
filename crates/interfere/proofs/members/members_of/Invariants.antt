use Rattle.std.proofs.Common.{◌-◌, ◌≤◌}
use Rattle.interfere.proofs.Listing.{AreMembersBelow}
use Rattle.interfere.proofs.members.members_of.Given as goal

abbrev pub invariant-loop-from : goal.invariant-loop-from
invariant-loop-from l =
    record { end : l.from ≤ l.size; below : AreMembersBelow l.set l.from l.members.items }

abbrev pub decreases-loop-from : goal.decreases-loop-from
decreases-loop-from l = l.size - l.from
