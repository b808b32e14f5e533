use Rattle.std.proofs.Common.{◌-◌, ◌≤◌}
use Rattle.rows_code.specs.Points.{AreSlots}
use Rattle.rows_code.proofs.large_pieces.descriptor.Given as goal

abbrev pub invariant-loop-entry : goal.invariant-loop-entry
invariant-loop-entry l = AreSlots l.entry l.offsets.items × (l.entry ≤ l.entries)

abbrev pub decreases-loop-entry : goal.decreases-loop-entry
decreases-loop-entry l = l.entries - l.entry
