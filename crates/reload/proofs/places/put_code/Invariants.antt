use Rattle.std.proofs.Common.{◌≡◌}
use Rattle.mach_ir.specs.Graph.{coloured_location}
use Rattle.colouring_rules.specs.Places.{placed_code}
use Rattle.reload.specs.Putting.{placing}
use Rattle.reload.proofs.places.put_code.Given as goal

abbrev pub invariant-loop-instr : goal.invariant-loop-instr
invariant-loop-instr l = l.done.items ≡ placed_code (placing l.putting (coloured_location l.colours)) l.yielded
