use Rattle.bs_bits.proofs.Loops.{Adding}
use Rattle.bs_bits.proofs.words.add_bits.Given as goal

abbrev pub invariant-loop-i : goal.invariant-loop-i
invariant-loop-i l = Adding l.initial.words.items l.others l.words.items l.i l.changed
