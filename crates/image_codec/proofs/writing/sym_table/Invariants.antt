use Rattle.std.proofs.Common.{◌≡◌, ◌++◌, length, take, map}
use Rattle.std.specs.List.{flat_map}
use Rattle.image_form.specs.Tables.{sym}
use Rattle.image_form.specs.Image.{le32, sym_bytes}
use Rattle.image_codec.proofs.writing.sym_table.Given as goal

abbrev pub invariant-loop-row : goal.invariant-loop-row
invariant-loop-row l = l.out.items ≡ le32 (length l.rows) ++ flat_map sym_bytes (map sym (take l.row-index l.rows))
