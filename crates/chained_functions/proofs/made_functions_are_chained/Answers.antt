use Rattle.chained_functions.proofs.Chained.{chained}
use Rattle.chained_functions.proofs.made_functions_are_chained.Goals as goal

pub returns : goal.returns
returns c choices defined tree m ds pieces accepted made fit = chained accepted made fit
