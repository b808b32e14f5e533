use Rattle.line_stands.specs.Lines.{Nowhere}
use Rattle.line_calls.proofs.Every.{every_entry}
use Rattle.line_calls.proofs.entries_are_followed.Goals as goal

pub returns : goal.returns
returns c = every_entry Nowhere
