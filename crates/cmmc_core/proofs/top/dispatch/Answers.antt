use Rattle.std.proofs.Common.{Err, ap}
use Rattle.bs_words.specs.Contents.{contents}
use Rattle.commands.specs.Ends.{no_command, no_value, read_fault, no_image, no_entry, unfit, no_memory}
use Rattle.commands.proofs.Ending.{Keeps-same, GotPart-part, Ends-told, Ends-told-or, Ends-refused, Ends-written, Ends-cut, Ends-run, Ends-run-cut}
use Rattle.cmmc_core.proofs.top.dispatch.Goals as goal

-- ---- compile

pub returns-in-Ok-write_all : goal.returns-in-Ok-write_all
returns-in-Ok-write_all g c =
    Ends-written _ _ (contents c.in-Ok.bytes) (_, rw c.in-Ok-Compile.field-0-is at c.in-Ok-Compile.ensures.command) c.in-Ok.ensures.image
    (rw c.as_slice.ensures at c.in-Ok-write_all.ensures.all) (Keeps-same _)

pub returns-in-Ok : goal.returns-in-Ok
returns-in-Ok g c =
    Ends-cut _ _ (contents c.in-Ok.bytes) (_, rw c.in-Ok-Compile.field-0-is at c.in-Ok-Compile.ensures.command) c.in-Ok.ensures.image
    (rw c.as_slice.ensures at (GotPart-part _ _ c.in-Err.ensures.part c.in-Err.ensures.failed)) (Keeps-same _)

pub returns-in-Err-ReadFault : goal.returns-in-Err-ReadFault
returns-in-Err-ReadFault g c =
    Ends-told _ _ 5 _ _ (read_fault _ (rw c.in-Ok-Compile.field-0-is at c.in-Ok-Compile.ensures.command) tt
    (rw c.in-Err-ReadFault.field-0-is at c.in-Err-ReadFault.ensures.refused)) (Keeps-same _) c.tell.ensures

pub returns-in-Ok-Compile : goal.returns-in-Ok-Compile
returns-in-Ok-Compile g c =
    Ends-refused _ _ c.in-Err-Text.why _ (_, rw c.in-Ok-Compile.field-0-is at c.in-Ok-Compile.ensures.command)
    (rw c.in-Err-Text.field-0-is at c.in-Err-Text.ensures.refused) (Keeps-same _) c.tell_refusal.ensures

-- ---- run

pub returns-in-Ok-run_source : goal.returns-in-Ok-run_source
returns-in-Ok-run_source g c = Ends-run _ _ _ (rw c.in-Ok-Run.field-0-is at c.in-Ok-Run.ensures.command) c.in-Ok-run_source.ensures.written (Keeps-same _)

pub returns-in-Err-WriteFault : goal.returns-in-Err-WriteFault
returns-in-Err-WriteFault g c =
    Ends-run-cut _ _ _ (rw c.in-Ok-Run.field-0-is at c.in-Ok-Run.ensures.command)
    (rw c.in-Err-WriteFault.field-0-is at c.in-Err-WriteFault.ensures.refused) (Keeps-same _)

pub returns-in-Err-ReadFault-run_source : goal.returns-in-Err-ReadFault-run_source
returns-in-Err-ReadFault-run_source g c =
    let why = rw c.in-Err-ReadFault-run_source.field-0-is at c.in-Err-ReadFault-run_source.ensures.refused in
    Ends-told _ _ 5 _ _ (read_fault _ (rw c.in-Ok-Run.field-0-is at c.in-Ok-Run.ensures.command) tt why.1) why.0 c.tell-in-Err-ReadFault-run_source.ensures

pub returns-in-Err-Image : goal.returns-in-Err-Image
returns-in-Err-Image g c =
    let why = rw c.in-Err-Image.field-0-is at c.in-Err-Image.ensures.refused in
    Ends-told-or _ _ 4 _ _ (no_image _ _ (rw c.in-Ok-Run.field-0-is at c.in-Ok-Run.ensures.command) why.1) why.0 c.tell_image.ensures

pub returns-in-Err-UnknownEntry : goal.returns-in-Err-UnknownEntry
returns-in-Err-UnknownEntry g c =
    let why = rw c.in-Err-UnknownEntry.field-0-is at c.in-Err-UnknownEntry.ensures.refused in
    Ends-told _ _ 2 _ _ (no_entry _ (rw c.in-Ok-Run.field-0-is at c.in-Ok-Run.ensures.command) why.1) why.0 c.tell-in-Err-UnknownEntry.ensures

pub returns-in-Err-ArgumentUnfit : goal.returns-in-Err-ArgumentUnfit
returns-in-Err-ArgumentUnfit g c =
    let why = rw c.in-Err-ArgumentUnfit.field-0-is at c.in-Err-ArgumentUnfit.ensures.refused in
    Ends-told _ _ 2 _ _ (unfit _ (rw c.in-Ok-Run.field-0-is at c.in-Ok-Run.ensures.command) why.1) why.0 c.tell-in-Err-ArgumentUnfit.ensures

pub returns-in-Ok-Run : goal.returns-in-Ok-Run
returns-in-Ok-Run g c =
    let why = rw c.in-Err-OutOfMemory-run_source.field-0-is at c.in-Err-OutOfMemory-run_source.ensures.refused in
    Ends-told _ _ 9 _ _ no_memory why c.tell-in-Err-OutOfMemory-run_source.ensures

-- ---- check

pub returns-in-Ok-Check : goal.returns-in-Ok-Check
returns-in-Ok-Check g c = c.check.ensures _ (rw c.in-Ok-Check.field-0-is at c.in-Ok-Check.ensures.command)

-- ---- list and soak

pub returns-in-Ok-List : goal.returns-in-Ok-List
returns-in-Ok-List g c = c.list.ensures _ (rw c.in-Ok-List.field-0-is at c.in-Ok-List.ensures.command)

pub returns-in-Ok-Soak : goal.returns-in-Ok-Soak
returns-in-Ok-Soak g c = c.soak.ensures _ _ (rw c.in-Ok-Soak.field-0-is at c.in-Ok-Soak.ensures.command) (Keeps-same _)

pub soak-requires-clause-some : goal.soak-requires-clause-some
soak-requires-clause-some g c = λ lives within. (rw c.in-Ok-Soak.field-0-is at c.in-Ok-Soak.ensures.limits).1

pub soak-requires-clause-few : goal.soak-requires-clause-few
soak-requires-clause-few g c = λ lives within. (rw c.in-Ok-Soak.field-0-is at c.in-Ok-Soak.ensures.limits).2

-- ---- words

pub returns-in-Err-Words : goal.returns-in-Err-Words
returns-in-Err-Words g c =
    Ends-told _ _ 2 _ _ (no_command (c.in-Err-Words.ensures.misformed (ap Err c.in-Err-Words.field-0-is)) (Keeps-same _)) (Keeps-same _) c.tell-in-Err-Words.ensures

pub returns-in-Err-ValueText : goal.returns-in-Err-ValueText
returns-in-Err-ValueText g c =
    let is = c.in-Err-ValueText.field-0-is in
    Ends-told _ _ 2 _ _ (no_value (c.in-Err-ValueText.ensures.formed (λ e. cc)) (c.in-Err-ValueText.ensures.bad (ap Err is)) (Keeps-same _)) (Keeps-same _) c.tell-in-Err-ValueText.ensures

pub returns : goal.returns
returns g c = Ends-told _ _ 9 _ _ no_memory (Keeps-same _) c.tell-in-Err-OutOfMemory.ensures
