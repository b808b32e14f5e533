use Rattle.std.proofs.Common.{◌≡◌, take, map}
use Rattle.image_form.specs.Tables.{func}
use Rattle.image_codec.specs.Reading.{code_least}
use Rattle.image_codec.proofs.reading.code_least.Given as goal

abbrev pub invariant-loop-row : goal.invariant-loop-row
invariant-loop-row l = l.least ≡ code_least (map func (take l.row-index l.funcs))
