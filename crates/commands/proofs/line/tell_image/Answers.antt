use Rattle.std.proofs.Common.{inl, inr}
use Rattle.commands.proofs.line.tell_image.Goals as goal

pub returns-in-Ok : goal.returns-in-Ok
returns-in-Ok g c = inl (rw (← c.in-Ok.ensures, ← c.as_slice.ensures) c.tell.ensures)

pub returns-in-Err : goal.returns-in-Err
returns-in-Err g c = inr c.tell-in-Err.ensures
