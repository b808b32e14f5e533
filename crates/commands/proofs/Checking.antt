-- How a call of `check` ends.
use Rattle.std.proofs.Common.{ℕ, ◌<◌, All, List}
use Rattle.bs_fault.specs.Limits.{longest_text}
use Rattle.command_line.specs.Command.{IsCommand, CheckCommand, CheckTree}
use Rattle.commands.specs.Compile.{ReadsText}
use Rattle.commands.specs.Effects.{Side, Effects, IsUntouched, Got, GotPart, IsRead}
use Rattle.commands.specs.Ends as ends
use Rattle.commands.specs.Ends.{checked, unchecked, no_memory, CommandEnds, written, out_fault}
use Rattle.commands.specs.Refusal.{IsTextUnread, IsCheckFailure, IsCheckRefusalRead, ReportsCheckRefusal, failure_of_unread}
use Rattle.commands.specs.declared.text.Unread.{Unread}
use Rattle.commands.specs.declared.text.Unread.TheVariants as unread
use Rattle.commands.proofs.Ending.{Ends-told, Ends-told-or}
use Rattle.text_commands.specs.Check.{IsCheckOf}
use Rattle.text_commands.specs.CheckRefusal.{IsCheckRefusal}
use Rattle.text_commands.specs.declared.check.CheckRefusal.{CheckRefusal}
use Rattle.text_commands.specs.declared.check.CheckRefusal.TheVariants.{Fault, UnknownEntry, ArgumentUnfit, TooLarge, OutOfMemory}

pub Ends-checked : (words : List (List ℕ)) (e : Effects) (check : CheckTree) (lines : List ℕ) → IsCommand words (CheckCommand check)
    → ReadsText (λ text. IsCheckOf check text lines) e.source → Got e.out lines → IsUntouched e.err → CommandEnds words e 0
Ends-checked words e check lines is r got kept = written lines (checked check lines is r) got kept

pub Ends-checked-cut : (words : List (List ℕ)) (e : Effects) (check : CheckTree) (lines : List ℕ) → IsCommand words (CheckCommand check)
    → ReadsText (λ text. IsCheckOf check text lines) e.source → GotPart e.out lines → IsUntouched e.err → CommandEnds words e 6
Ends-checked-cut words e check lines is r part kept = out_fault lines (checked check lines is r) part kept

-- why nothing is reported of a source of which no text was read
pub failure_unread : (check : CheckTree) (s : Side) (r : Unread) → IsTextUnread s r → IsCheckFailure check s (failure_of_unread r)
failure_unread check s unread.ReadFault rose = rose
failure_unread check s unread.OutOfMemory why = tt

-- why nothing is reported of a text that was read
pub failure_read : (check : CheckTree) (s : Side) (read : List ℕ) (r : CheckRefusal) → All (λ b. b < 256) read → IsRead longest_text s read
    → IsCheckRefusal check read r → IsCheckRefusalRead check s r
failure_read check s read (Fault told) are r why = record { text = read; are_bytes = are; read = r; holds = why }
failure_read check s read UnknownEntry are r why = record { text = read; are_bytes = are; read = r; holds = why }
failure_read check s read ArgumentUnfit are r why = record { text = read; are_bytes = are; read = r; holds = why }
failure_read check s read (TooLarge large) are r why = record { text = read; are_bytes = are; read = r; holds = why }
failure_read check s read OutOfMemory are r why = tt

pub Ends-unchecked : (words : List (List ℕ)) (e : Effects) (check : CheckTree) (r : CheckRefusal) (result : ℕ)
    → IsCommand words (CheckCommand check)
    → IsCheckRefusalRead check e.source r
    → IsUntouched e.out
    → ReportsCheckRefusal e.err r result
    → CommandEnds words e result
Ends-unchecked words e check (Fault told) result is why kept tells = Ends-told-or words e 3 result _ (unchecked check 3 _ is (ends.fault told why)) kept tells
Ends-unchecked words e check UnknownEntry result is why kept tells = Ends-told words e 2 result _ (unchecked check 2 _ is (ends.no_entry why)) kept tells
Ends-unchecked words e check ArgumentUnfit result is why kept tells = Ends-told words e 2 result _ (unchecked check 2 _ is (ends.unfit why)) kept tells
Ends-unchecked words e check (TooLarge large) result is why kept tells = Ends-told-or words e 8 result _ (unchecked check 8 _ is (ends.too_large large why)) kept tells
Ends-unchecked words e check OutOfMemory result is why kept tells = Ends-told words e 9 result _ no_memory kept tells
