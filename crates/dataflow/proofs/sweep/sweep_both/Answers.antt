use Rattle.dataflow.proofs.Progress.{swept_both}
use Rattle.dataflow.proofs.sweep.sweep_both.Goals as goal

pub returns-clause-swept : goal.returns-clause-swept
returns-clause-swept c = swept_both c.sweep_up-up.ensures.swept c.sweep-down.ensures.swept c.either.ensures
