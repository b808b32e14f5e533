use Rattle.std.proofs.Common.{length}
use Rattle.walk_tables.proofs.items.Cells.+with_slots.Given as goal

abbrev pub decreases-with_slots : goal.decreases-with_slots
decreases-with_slots l = length l.params.now
