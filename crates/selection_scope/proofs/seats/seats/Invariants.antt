use Rattle.std.proofs.Common.{◌≡◌, ◌+◌, ◌++◌, length}
use Rattle.selection_rules.specs.Select.{seats}
use Rattle.selection_scope.specs.Row.{regs_in}
use Rattle.selection_scope.proofs.seats.seats.Given as goal

abbrev pub invariant-loop-rest : goal.invariant-loop-rest
invariant-loop-rest l =
    record {
      made : l.made ++ seats l.position l.next (regs_in l.rest) ≡ seats 0 l.fn.number l.fn.regs;
      position : l.next ≡ l.fn.number + l.position;
      room : l.position + length l.rest ≡ length l.fn.regs;
    }

abbrev pub decreases-loop-rest : goal.decreases-loop-rest
decreases-loop-rest l = length l.rest
