use Rattle.line_stands.specs.Lines.{Nowhere}
use Rattle.line_calls.proofs.Every.{every_line}
use Rattle.line_calls.proofs.every_line_is_followed.Goals as goal

pub returns : goal.returns
returns c = every_line Nowhere
