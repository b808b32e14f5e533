use Rattle.std.proofs.Common.{◌≡◌, length}
use Rattle.selection_rules.specs.Select.{moves_all}
use Rattle.selection_scope.specs.Row.{regs_in}
use Rattle.selection_code.proofs.backwards.Backwards.moves_all.Given as goal

abbrev pub invariant-loop-sources : goal.invariant-loop-sources
invariant-loop-sources l =
    moves_all (regs_in l.sources) (regs_in l.targets) l.self ≡ moves_all l.fn.from l.fn.to l.initial.self

abbrev pub decreases-loop-sources : goal.decreases-loop-sources
decreases-loop-sources l = length l.sources
