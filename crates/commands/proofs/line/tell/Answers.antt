use Rattle.std.proofs.Common.{refl, inr}
use Rattle.commands.proofs.Ending.{GotPart-part}
use Rattle.commands.proofs.line.tell.Goals as goal

pub returns-in-Err : goal.returns-in-Err
returns-in-Err g c = inr (refl, GotPart-part _ _ c.in-Err.ensures.part c.in-Err.ensures.failed)
