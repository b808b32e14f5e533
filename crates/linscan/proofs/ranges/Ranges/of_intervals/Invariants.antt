use Rattle.std.proofs.Common.{None}
use Rattle.bs_words.specs.Contents.{contents}
use Rattle.linscan.proofs.Keyed.{IsFilled, interval_key, interval_value}
use Rattle.linscan.proofs.ranges.Ranges.of_intervals.Given as goal

abbrev pub invariant-loop-interval : goal.invariant-loop-interval
invariant-loop-interval l = IsFilled interval_key interval_value None (contents l.intervals.list) l.interval-index l.items.items
