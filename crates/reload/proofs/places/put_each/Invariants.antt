use Rattle.std.proofs.Common.{◌≡◌, ◌++◌, take, drop}
use Rattle.mach_ir.specs.Graph.{coloured_location}
use Rattle.colouring_rules.specs.Places.{all_placed}
use Rattle.reload.specs.Putting.{placing}
use Rattle.reload.proofs.places.put_each.Given as goal

abbrev pub invariant-loop-reg : goal.invariant-loop-reg
invariant-loop-reg l =
    take l.reg-index l.regs ++ all_placed (placing l.putting (coloured_location l.colours)) (drop l.reg-index l.regs)
    ≡ all_placed (placing l.putting (coloured_location l.colours)) l.initial.regs
