use Rattle.linking_stages.proofs.Walking.{reached_walks}
use Rattle.linking_stages.proofs.runs_keep_to_walks.Goals as goal

pub returns : goal.returns
returns c = λ lins named f c u reached. reached_walks lins named f c reached
