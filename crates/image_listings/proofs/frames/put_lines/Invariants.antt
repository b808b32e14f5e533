use Rattle.std.proofs.Common.{◌≡◌, ◌++◌, take, map}
use Rattle.std.specs.List.{flat_map}
use Rattle.image_form.specs.Tables.{desc}
use Rattle.image_listings.specs.Texts.{desc_line}
use Rattle.image_listings.proofs.frames.put_lines.Given as goal

abbrev pub invariant-loop-row : goal.invariant-loop-row
invariant-loop-row l = l.page.bytes.items ≡ l.fn.page.bytes.items ++ flat_map desc_line (map desc (take l.row-index l.rows))
