use Rattle.std.proofs.Common.{◌≡◌, ◌++◌, drop}
use Rattle.mach_ir.specs.Meaning.{destroyed_by, killed_among}
use Rattle.mach_laws.specs.Graph.{numbers_of_registers}
use Rattle.liveness.proofs.written.push_killed.Given as goal

abbrev pub invariant-loop-colour : goal.invariant-loop-colour
invariant-loop-colour l =
    l.found.items ++ numbers_of_registers (killed_among (drop l.colour-index l.colours) (destroyed_by l.op) l.results)
    ≡ l.initial.found.items ++ numbers_of_registers (killed_among l.colours (destroyed_by l.op) l.results)
