use Rattle.linscan.proofs.Visiting.{HasRanges}
use Rattle.linscan.proofs.interval_table.ranges_of.Given as goal

abbrev pub invariant-loop-place : goal.invariant-loop-place
invariant-loop-place l = HasRanges l.mach l.size l.place l.ranges
