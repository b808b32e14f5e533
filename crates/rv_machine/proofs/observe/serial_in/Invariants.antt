use Rattle.std.proofs.Common.{◌≡◌, drop}
use Rattle.rv_machine.specs.Observation.{serial_from}
use Rattle.rv_machine.proofs.observe.serial_in.Given as goal

abbrev pub invariant-loop-serial : goal.invariant-loop-serial
invariant-loop-serial l = serial_from 0 l.blocks l.address ≡ serial_from l.serial (drop l.serial l.blocks) l.address
