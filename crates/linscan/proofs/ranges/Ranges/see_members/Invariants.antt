use Rattle.std.proofs.Common.{◌-◌, ◌≤◌}
use Rattle.linscan.specs.Seen.{Widens}
use Rattle.linscan.proofs.Widening.{AreMembersBelow}
use Rattle.linscan.proofs.ranges.Ranges.see_members.Given as goal

abbrev pub invariant-loop-from : goal.invariant-loop-from
invariant-loop-from l =
    record { end : l.from ≤ l.size; seen : Widens l.initial.self l.self (AreMembersBelow l.set l.from l.place) }

abbrev pub decreases-loop-from : goal.decreases-loop-from
decreases-loop-from l = l.size - l.from
