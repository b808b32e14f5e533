use Rattle.std.proofs.Common.{◌≡◌, ◌++◌, length, take, map}
use Rattle.std.specs.List.{flat_map}
use Rattle.image_form.specs.Tables.{ext}
use Rattle.image_form.specs.Image.{le32, ext_bytes}
use Rattle.image_codec.proofs.writing.ext_table.Given as goal

abbrev pub invariant-loop-row : goal.invariant-loop-row
invariant-loop-row l = l.out.items ≡ le32 (length l.rows) ++ flat_map ext_bytes (map ext (take l.row-index l.rows))
