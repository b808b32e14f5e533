use Rattle.bs_words.specs.Contents.{contents}
use Rattle.commands.specs.Ends.{read_fault}
use Rattle.commands.proofs.Listing.{Ends-listed, Ends-listed-cut, Ends-unlisted}
use Rattle.commands.proofs.Ending.{Keeps-same, GotPart-part, Ends-told}
use Rattle.commands.proofs.list.list.Goals as goal

pub returns-in-Ok-write_all : goal.returns-in-Ok-write_all
returns-in-Ok-write_all g c = λ line is.
    Ends-listed line _ c.args.choices c.args.stage (contents c.in-Ok.listed) is c.in-Ok.ensures.listed
    (rw c.as_slice.ensures at c.in-Ok-write_all.ensures.all) (Keeps-same _)

pub returns-in-Ok : goal.returns-in-Ok
returns-in-Ok g c = λ line is.
    Ends-listed-cut line _ c.args.choices c.args.stage (contents c.in-Ok.listed) is c.in-Ok.ensures.listed
    (rw c.as_slice.ensures at (GotPart-part _ _ c.in-Err.ensures.part c.in-Err.ensures.failed)) (Keeps-same _)

pub returns-in-Err-ReadFault : goal.returns-in-Err-ReadFault
returns-in-Err-ReadFault g c = λ line is.
    Ends-told line _ 5 _ _ (read_fault _ is tt (rw c.in-Err-ReadFault.field-0-is at c.in-Err-ReadFault.ensures.refused)) (Keeps-same _) c.tell.ensures

pub returns : goal.returns
returns g c = λ line is.
    Ends-unlisted line _ c.args.choices c.args.stage c.in-Err-Text.why _ is
    (rw c.in-Err-Text.field-0-is at c.in-Err-Text.ensures.refused) (Keeps-same _) c.tell_refusal.ensures
