use Rattle.std.proofs.Common.{◌≡◌, ◌+◌, ◌++◌, length}
use Rattle.mach_ir.specs.Placed.{colour_numbers}
use Rattle.selection_rules.specs.Select.{colour_regs}
use Rattle.selection_scope.proofs.seats.colour_regs.Given as goal

abbrev pub invariant-loop-rest : goal.invariant-loop-rest
invariant-loop-rest l =
    record {
      regs : l.regs.items ++ colour_regs l.next l.rest ≡ colour_regs 0 colour_numbers;
      room : l.next + length l.rest ≡ length colour_numbers;
    }

abbrev pub decreases-loop-rest : goal.decreases-loop-rest
decreases-loop-rest l = length l.rest
