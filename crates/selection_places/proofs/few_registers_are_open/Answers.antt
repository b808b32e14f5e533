use Rattle.selection_places.proofs.Opens.{selected_open_by_tokens}
use Rattle.selection_places.proofs.few_registers_are_open.Goals as goal

-- src/lib.rt:19:1
pub returns : goal.returns
returns c = selected_open_by_tokens
