use Rattle.commands.proofs.Ending.{Keeps-same, GotPart-part}
use Rattle.commands.proofs.Soaking.{Ends-soaked, Ends-soaked-cut, Ends-unsoaked}
use Rattle.commands.proofs.soak.soak.Goals as goal

pub returns-in-Ok-write_all : goal.returns-in-Ok-write_all
returns-in-Ok-write_all g c = λ line source is unread.
    Ends-soaked line _ c.args.seed c.args.functions is unread c.in-Ok.lines.items c.in-Ok.ensures.told
    (rw c.as_slice.ensures.value at c.in-Ok-write_all.ensures.all) (Keeps-same _)

pub returns-in-Ok : goal.returns-in-Ok
returns-in-Ok g c = λ line source is unread.
    Ends-soaked-cut line _ c.args.seed c.args.functions is unread c.in-Ok.lines.items c.in-Ok.ensures.told
    (rw c.as_slice.ensures.value at (GotPart-part _ _ c.in-Err-write_all.ensures.part c.in-Err-write_all.ensures.failed)) (Keeps-same _)

pub returns : goal.returns
returns g c = λ line source is unread.
    Ends-unsoaked line _ c.args.seed c.args.functions is unread c.in-Err.why _ c.in-Err.ensures.refused (Keeps-same _) c.tell_soak_refusal.ensures
