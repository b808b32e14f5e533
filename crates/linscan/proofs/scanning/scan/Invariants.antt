use Rattle.std.proofs.Common.{length}
use Rattle.linscan.proofs.Folding.{Goes}
use Rattle.linscan.proofs.scanning.scan.Given as goal

abbrev pub invariant-loop-next : goal.invariant-loop-next
invariant-loop-next l = Goes l.graph l.next-items (length l.fixed.items) l.next-index l.allotted.places.items l.allotted.active
