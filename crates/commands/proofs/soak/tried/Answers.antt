use Rattle.cmm_front.specs.FileOf.{HasFault}
use Rattle.text_commands.specs.Check.{HasNoEntry, IsUnfitFor, IsTooLargeToCheck}
use Rattle.commands.specs.Soak.{soak_check}
use Rattle.commands.proofs.Soaking.{for_soak, passing, no_fault, no_unknown, no_unfit}
use Rattle.commands.proofs.soak.tried.Goals as goal

pub returns-in-Err-TooLarge-clause-refused : goal.returns-in-Err-TooLarge-clause-refused
returns-in-Err-TooLarge-clause-refused g c =
    let large = c.in-Err-TooLarge.large in
    passing (soak_check c.args.functions) _ large
    (for_soak (λ check text. IsTooLargeToCheck check text large) _ _ _ _ _ c.in_ok-check.ensures c.as_slice.ensures c.in_ok-text.ensures.text
    (rw c.in-Err-TooLarge.field-0-is at c.in-Err-TooLarge.ensures.refused))

-- the text has no fault, and its last function takes two words

pub unreachable-requires : goal.unreachable-requires
unreachable-requires g c =
    let told = c.in-Err-Fault.field-0-0 in
    no_fault c.args.seed c.args.functions c.requires.some c.requires.few told
    (for_soak (λ check text. HasFault text told) _ _ _ _ _ c.in_ok-check.ensures c.as_slice.ensures c.in_ok-text.ensures.text
    (rw c.in-Err-Fault.field-0-is at c.in-Err-Fault.ensures.refused))

pub unreachable-requires-in-Err-UnknownEntry : goal.unreachable-requires-in-Err-UnknownEntry
unreachable-requires-in-Err-UnknownEntry g c =
    no_unknown c.args.seed c.args.functions c.requires.some c.requires.few
    (for_soak HasNoEntry _ _ _ _ _ c.in_ok-check.ensures c.as_slice.ensures c.in_ok-text.ensures.text
    (rw c.in-Err-UnknownEntry.field-0-is at c.in-Err-UnknownEntry.ensures.refused))

pub unreachable-requires-in-Err-ArgumentUnfit : goal.unreachable-requires-in-Err-ArgumentUnfit
unreachable-requires-in-Err-ArgumentUnfit g c =
    no_unfit c.args.seed c.args.functions c.requires.some c.requires.few
    (for_soak IsUnfitFor _ _ _ _ _ c.in_ok-check.ensures c.as_slice.ensures c.in_ok-text.ensures.text
    (rw c.in-Err-ArgumentUnfit.field-0-is at c.in-Err-ArgumentUnfit.ensures.refused))
