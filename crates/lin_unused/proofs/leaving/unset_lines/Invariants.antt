use Rattle.std.proofs.Common.{◌≡◌, ◌++◌, List}
use Rattle.lin_ir.specs.declared.lin.Line.{Line}
use Rattle.lin_unused.specs.Flags.{unflagged_lines}
use Rattle.lin_unused.proofs.leaving.unset_lines.Given as goal

abbrev pub invariant-loop-line : goal.invariant-loop-line
invariant-loop-line l =
    ((rest : List Line) → l.left.items ++ unflagged_lines l.others rest ≡ unflagged_lines l.flags (l.yielded ++ rest))
    × (l.left.items ≡ unflagged_lines l.flags l.yielded)
