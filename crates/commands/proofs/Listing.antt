-- How a call of `list` ends.
use Rattle.std.proofs.Common.{ℕ, ◌<◌, All, List}
use Rattle.choices.specs.declared.choices.Choices.{Choices}
use Rattle.command_line.specs.Command.{IsCommand, ListCommand}
use Rattle.bs_fault.specs.Limits.{longest_text}
use Rattle.commands.specs.Compile.{ReadsText}
use Rattle.commands.specs.Effects.{Side, Effects, IsUntouched, Got, GotPart, IsRead}
use Rattle.commands.specs.Ends as ends
use Rattle.commands.specs.Ends.{listed, unlisted, no_memory, CommandEnds, written, out_fault}
use Rattle.commands.specs.Refusal.{IsTextUnread, IsListFailure, IsListRefusalRead, ReportsRefusal, refusal_of_unread}
use Rattle.commands.specs.declared.text.Unread.{Unread}
use Rattle.commands.specs.declared.text.Unread.TheVariants as unread
use Rattle.commands.proofs.Ending.{Ends-told, Ends-told-or}
use Rattle.stages.specs.declared.stage.Stage.{Stage}
use Rattle.text_commands.specs.Listing.{IsListingOf, IsListRefusal}
use Rattle.text_commands.specs.declared.compile.Refusal.{Refusal}
use Rattle.text_commands.specs.declared.compile.Refusal.TheVariants.{Fault, TooLarge, OutOfMemory}

pub Ends-listed : (words : List (List ℕ)) (e : Effects) (choices : Choices) (stage : Stage) (bytes : List ℕ) → IsCommand words (ListCommand choices stage)
    → ReadsText (λ text. IsListingOf choices stage text bytes) e.source → Got e.out bytes → IsUntouched e.err → CommandEnds words e 0
Ends-listed words e choices stage bytes is r got kept = written bytes (listed choices stage bytes is r) got kept

pub Ends-listed-cut : (words : List (List ℕ)) (e : Effects) (choices : Choices) (stage : Stage) (bytes : List ℕ) → IsCommand words (ListCommand choices stage)
    → ReadsText (λ text. IsListingOf choices stage text bytes) e.source → GotPart e.out bytes → IsUntouched e.err → CommandEnds words e 6
Ends-listed-cut words e choices stage bytes is r part kept = out_fault bytes (listed choices stage bytes is r) part kept

-- why nothing is listed of a source of which no text was read
pub list_refusal_unread : (choices : Choices) (stage : Stage) (s : Side) (r : Unread) → IsTextUnread s r → IsListFailure choices stage s (refusal_of_unread r)
list_refusal_unread choices stage s unread.ReadFault rose = rose
list_refusal_unread choices stage s unread.OutOfMemory why = tt

-- why nothing is listed of a text that was read
pub list_refusal_read : (choices : Choices) (stage : Stage) (s : Side) (read : List ℕ) (r : Refusal) → All (λ b. b < 256) read → IsRead longest_text s read
    → IsListRefusal choices stage read r → IsListRefusalRead choices stage s r
list_refusal_read choices stage s read (Fault told) are r why = record { text = read; are_bytes = are; read = r; holds = why }
list_refusal_read choices stage s read (TooLarge large) are r why = (why.0, record { text = read; are_bytes = are; read = r; holds = why.1 })
list_refusal_read choices stage s read OutOfMemory are r why = tt

pub Ends-unlisted : (words : List (List ℕ)) (e : Effects) (choices : Choices) (stage : Stage) (r : Refusal) (result : ℕ)
    → IsCommand words (ListCommand choices stage)
    → IsListRefusalRead choices stage e.source r
    → IsUntouched e.out
    → ReportsRefusal e.err r result
    → CommandEnds words e result
Ends-unlisted words e choices stage (Fault told) result is why kept tells = Ends-told-or words e 3 result _ (unlisted choices stage 3 _ is (ends.fault told why)) kept tells
Ends-unlisted words e choices stage (TooLarge large) result is why kept tells = Ends-told-or words e 8 result _ (unlisted choices stage 8 _ is (ends.too_large large why.0 why.1)) kept tells
Ends-unlisted words e choices stage OutOfMemory result is why kept tells = Ends-told words e 9 result _ no_memory kept tells
