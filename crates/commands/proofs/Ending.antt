-- How the parts of a command put the end of a call together.
use Rattle.std.proofs.Common.{ℕ, ◌<◌, All, List, take, drop, Option, Some, None, refl, sym, subst, inl, inr, arith, length-drop}
use Rattle.std.specs.Io.KnownBytes.{Keeps}
use Rattle.std.proofs.lemmas.List.{take-append-drop}
use Rattle.bs_io.specs.Faults.{Risen}
use Rattle.bs_io.specs.Whole.{AppendsPart}
use Rattle.choices.specs.declared.choices.Choices.{Choices}
use Rattle.command_line.specs.Command.{IsCommand, AsksToCompile, RunCommand, RunTree}
use Rattle.bs_fault.specs.Limits.{longest_text}
use Rattle.commands.specs.Effects.{Side, Effects, IsUntouched, Got, GotPart, ReportsLine, IsRead}
use Rattle.commands.specs.Ends.{Output, spelling, outcome, Cause, fault, too_large, no_memory, CommandEnds, written, refused, out_fault, err_fault}
use Rattle.commands.specs.Compile.{ReadsText}
use Rattle.commands.specs.Refusal.{IsTextUnread, IsRefusalRead, IsRefusalFrom, refusal_of_unread, ReportsRefusal, WritesOutcome, CutsOutcome, ReportsOr}
use Rattle.commands.specs.declared.text.Unread.{Unread}
use Rattle.commands.specs.declared.text.Unread.TheVariants as unread
use Rattle.text_commands.specs.Refusal.{SpellsImageOf, IsTextRefusal}
use Rattle.text_commands.specs.declared.compile.Refusal as text
use Rattle.text_commands.specs.declared.compile.Refusal.TheVariants.{Fault, TooLarge, OutOfMemory}

-- what was not touched is kept
pub Keeps-same : (known : Option (List ℕ)) → Keeps known known
Keeps-same None = tt
Keeps-same (Some bytes) = refl

-- a piece that was written in part
pub GotPart-part : (s : Side) (piece : List ℕ) → AppendsPart s.before s.after piece → Risen s.faults_before s.faults_after → GotPart s piece
GotPart-part s piece (count, short, appended) rose = record {
  front = take count piece;
  rest = drop count piece;
  is_front = sym (take-append-drop count piece);
  not_all = omega (arith, length-drop count piece);
  appended = appended;
  rose = rose;
}

-- a line was written, or could not be
pub Ends-told : (words : List (List ℕ)) (e : Effects) (status result : ℕ) (line : List ℕ)
    → Cause words e.source status line
    → IsUntouched e.out
    → ReportsLine e.err line status result
    → CommandEnds words e result
Ends-told words e status result line cause kept (inl (same, got)) =
    subst (CommandEnds words e) (sym same) (refused status line cause kept got)
Ends-told words e status result line cause kept (inr (same, part)) =
    subst (CommandEnds words e) (sym same) (err_fault status line cause kept part)

-- the same where there may be no memory for the line
pub Ends-told-or : (words : List (List ℕ)) (e : Effects) (status result : ℕ) (line : List ℕ)
    → Cause words e.source status line
    → IsUntouched e.out
    → ReportsOr e.err line status result
    → CommandEnds words e result
Ends-told-or words e status result line cause kept (inl told) = Ends-told words e status result line cause kept told
Ends-told-or words e status result line cause kept (inr told) = Ends-told words e 9 result _ no_memory kept told

-- ---- compile

-- what is written is the spelling of an image of the text that was read
spells : {choices : Choices} (words : List (List ℕ)) (s : Side) (bytes : List ℕ) → AsksToCompile words choices → ReadsText (λ text. SpellsImageOf choices text bytes) s → Output words s bytes
spells {choices} words s bytes is r =
    subst (Output words s) (sym r.holds.spelled)
    (spelling choices r.holds.image is (record { text = r.text; are_bytes = r.are_bytes; read = r.read; holds = r.holds.is_image }))

pub Ends-written : {choices : Choices} (words : List (List ℕ)) (e : Effects) (bytes : List ℕ) → AsksToCompile words choices → ReadsText (λ text. SpellsImageOf choices text bytes) e.source
    → Got e.out bytes → IsUntouched e.err → CommandEnds words e 0
Ends-written words e bytes is r got kept = written bytes (spells words e.source bytes is r) got kept

pub Ends-cut : {choices : Choices} (words : List (List ℕ)) (e : Effects) (bytes : List ℕ) → AsksToCompile words choices → ReadsText (λ text. SpellsImageOf choices text bytes) e.source
    → GotPart e.out bytes → IsUntouched e.err → CommandEnds words e 6
Ends-cut words e bytes is r part kept = out_fault bytes (spells words e.source bytes is r) part kept

-- what a source is refused for of which no text was read
pub refusal_unread : (choices : Choices) (s : Side) (r : Unread) → IsTextUnread s r → IsRefusalFrom choices s (refusal_of_unread r)
refusal_unread choices s unread.ReadFault rose = rose
refusal_unread choices s unread.OutOfMemory why = tt

-- what a text that was read is refused for
pub refusal_read : (choices : Choices) (s : Side) (read : List ℕ) (r : text.Refusal) → All (λ b. b < 256) read → IsRead longest_text s read → IsTextRefusal choices read r →
    IsRefusalRead choices s r
refusal_read choices s read (Fault told) are r why = record { text = read; are_bytes = are; read = r; holds = why }
refusal_read choices s read (TooLarge large) are r why = record { text = read; are_bytes = are; read = r; holds = why }
refusal_read choices s read OutOfMemory are r why = tt

-- the line of a text that has no image was written, or could not be
pub Ends-refused : {choices : Choices} (words : List (List ℕ)) (e : Effects) (r : text.Refusal) (result : ℕ)
    → AsksToCompile words choices
    → IsRefusalRead choices e.source r
    → IsUntouched e.out
    → ReportsRefusal e.err r result
    → CommandEnds words e result
Ends-refused {choices} words e (Fault told) result is why kept tells = Ends-told-or words e 3 result _ (fault choices told is why) kept tells
Ends-refused {choices} words e (TooLarge large) result is why kept tells = Ends-told-or words e 8 result _ (too_large choices large is why) kept tells
Ends-refused words e OutOfMemory result is why kept tells = Ends-told words e 9 result _ no_memory kept tells

-- ---- run

pub Ends-run : (words : List (List ℕ)) (e : Effects) (run : RunTree) → IsCommand words (RunCommand run) → WritesOutcome run e.source e.out → IsUntouched e.err → CommandEnds words e 0
Ends-run words e run is w kept = written w.text (outcome run w.text is w.is_outcome) w.got kept

pub Ends-run-cut : (words : List (List ℕ)) (e : Effects) (run : RunTree) → IsCommand words (RunCommand run) → CutsOutcome run e.source e.out → IsUntouched e.err → CommandEnds words e 6
Ends-run-cut words e run is w kept = out_fault w.text (outcome run w.text is w.is_outcome) w.got kept
