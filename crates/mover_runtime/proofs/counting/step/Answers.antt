use Rattle.std.proofs.Common.{◌∙◌}
use Rattle.mover_runtime.proofs.Retiring.{hart_counted, step-most}
use Rattle.mover_runtime.proofs.counting.step.Goals as goal

pub returns-clause-exact : goal.returns-clause-exact
returns-clause-exact c = c.step.ensures.exact ∙ hart_counted c.args.machine.now c.requires.room

pub returns-clause-retired : goal.returns-clause-retired
returns-clause-retired c =
    step-most c.step.result c.args.machine.now c.step.new.self
    (c.step.ensures.exact ∙ hart_counted c.args.machine.now c.requires.room) c.step.ensures.kept
