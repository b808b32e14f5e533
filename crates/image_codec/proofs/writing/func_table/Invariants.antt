use Rattle.std.proofs.Common.{◌≡◌, ◌++◌, length, take, map}
use Rattle.std.specs.List.{flat_map}
use Rattle.image_form.specs.Tables.{func}
use Rattle.image_form.specs.Image.{le32, func_bytes}
use Rattle.image_codec.proofs.writing.func_table.Given as goal

abbrev pub invariant-loop-row : goal.invariant-loop-row
invariant-loop-row l = l.out.items ≡ le32 (length l.rows) ++ flat_map func_bytes (map func (take l.row-index l.rows))
