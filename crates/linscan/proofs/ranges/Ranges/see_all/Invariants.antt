use Rattle.std.proofs.Common.{take}
use Rattle.linscan.specs.Seen.{Widens, AreSights}
use Rattle.linscan.proofs.ranges.Ranges.see_all.Given as goal

abbrev pub invariant-loop-number : goal.invariant-loop-number
invariant-loop-number l = Widens l.initial.self l.self (AreSights (take l.number-index l.numbers) l.place)
