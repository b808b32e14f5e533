use Rattle.std.proofs.Common.{◌≡◌, ◌+◌, ◌++◌, length}
use Rattle.mach_ir.specs.Formed.{indexes_to_label}
use Rattle.selection_control.proofs.choices.indexes_of.Given as goal

abbrev pub invariant-loop-rest : goal.invariant-loop-rest
invariant-loop-rest l =
    record {
      indexes : l.indexes.items ++ indexes_to_label l.label-inside.0 l.number l.rest ≡ indexes_to_label l.fn.label 0 l.fn.all;
      room : l.number + length l.rest ≡ length l.fn.all;
    }

abbrev pub decreases-loop-rest : goal.decreases-loop-rest
decreases-loop-rest l = length l.rest
