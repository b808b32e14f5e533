use Rattle.std.proofs.Common.{take}
use Rattle.linscan.specs.Seen.{Widens, SeenAfter}
use Rattle.linscan.proofs.ranges.Ranges.see_next.Given as goal

abbrev pub invariant-loop-after : goal.invariant-loop-after
invariant-loop-after l = Widens l.initial.self l.self (SeenAfter l.live.rows.items (take l.after-index l.next) l.place)
