use Rattle.function_stands.proofs.Entries.{entry_is, entry_offset}
use Rattle.function_stands.proofs.entries_are_laid.Goals as goal

pub returns-clause-places : goal.returns-clause-places
returns-clause-places c = λ image file ps of it f. entry_is image file ps of it f

pub returns-clause-rows : goal.returns-clause-rows
returns-clause-rows c = λ image file ps of it f row is. entry_offset image file ps of it f row is
