use Rattle.prepare.proofs.Stages.{place}
use Rattle.prepare.proofs.passes.+passed_to.Given as goal

abbrev pub decreases-passed_to : goal.decreases-passed_to
decreases-passed_to l = place l.stage
