use Rattle.std.proofs.Common.{◌≡◌, ◌++◌, length}
use Rattle.selection_scope.specs.Row.{regs_in}
use Rattle.selection_scope.proofs.row.Regs.to_seq.Given as goal

abbrev pub invariant-loop-rest : goal.invariant-loop-rest
invariant-loop-rest l = l.regs.items ++ regs_in l.rest ≡ l.fn.self

abbrev pub decreases-loop-rest : goal.decreases-loop-rest
decreases-loop-rest l = length l.rest
