use Rattle.std.proofs.Common.{◌*◌}
use Rattle.bs_bits.proofs.Loops.{NoBitBetween}
use Rattle.bs_bits.proofs.words.next_bit.Given as goal

abbrev pub invariant-loop-i : goal.invariant-loop-i
invariant-loop-i l = NoBitBetween l.words l.from (l.i * 64)
