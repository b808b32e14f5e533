use Rattle.cmmc_core.proofs.Complete.{Ends-complete}
use Rattle.cmmc_core.proofs.top.cmmc.Goals as goal

pub returns-clause-complete : goal.returns-clause-complete
returns-clause-complete g c = Ends-complete _ _ _ c.dispatch.ensures
