use Rattle.std.proofs.Common.{◌≡◌, ◌++◌, length, take, map}
use Rattle.std.specs.List.{flat_map}
use Rattle.image_form.specs.Tables.{desc}
use Rattle.image_form.specs.Image.{le32, desc_bytes}
use Rattle.image_codec.proofs.writing.desc_table.Given as goal

abbrev pub invariant-loop-row : goal.invariant-loop-row
invariant-loop-row l = l.out.items ≡ le32 (length l.rows) ++ flat_map (desc_bytes l.version) (map desc (take l.row-index l.rows))
