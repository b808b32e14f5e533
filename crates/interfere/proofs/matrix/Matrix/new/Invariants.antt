use Rattle.std.proofs.Common.{◌≡◌, false, replicate}
use Rattle.interfere.proofs.matrix.Matrix.new.Given as goal

abbrev pub invariant-loop-number : goal.invariant-loop-number
invariant-loop-number l = l.rows.items ≡ replicate l._number (replicate l.size false)
