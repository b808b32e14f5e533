use Rattle.std.proofs.Common.{◌≡◌, ◌++◌, List, []}
use Rattle.lin_ir.specs.declared.lin.Line.{Line}
use Rattle.schedule.specs.Runs.{code_with}
use Rattle.schedule.proofs.runs.Runs.put_all.Given as goal

abbrev pub invariant-loop-line : goal.invariant-loop-line
invariant-loop-line l =
    ((rest : List Line) → code_with l.self rest ≡ code_with l.fn.self (l.yielded ++ rest))
    × (code_with l.self [] ≡ code_with l.fn.self l.yielded)
