use Rattle.std.proofs.Common.{◌≡◌, ◌++◌, length}
use Rattle.selection_scope.specs.Row.{regs_in}
use Rattle.selection_code.proofs.calls.operands_of.Given as goal

abbrev pub invariant-loop-rest : goal.invariant-loop-rest
invariant-loop-rest l =
    l.all ++ regs_in l.rest ≡ l.initial.all ++ l.fn.args

abbrev pub decreases-loop-rest : goal.decreases-loop-rest
decreases-loop-rest l = length l.rest
