use Rattle.std.proofs.Common.{◌≡◌, ◌+◌}
use Rattle.cmm_eval.specs.Stands.{stands}
use Rattle.cmm_eval.specs.Turns.{due, turns}
use Rattle.cmm_eval.proofs.machine.Machine.run.Given as goal

-- what is now, with all that is still to be done, is what was first
abbrev pub invariant-turns : goal.invariant-turns
invariant-turns l = stands l.around l.self l.now ≡ stands l.around l.initial.self l.fn.first

abbrev pub decreases-turns : goal.decreases-turns
decreases-turns l = turns l.self + due l.now
