use Rattle.std.proofs.Common.{◌≡◌, map, take}
use Rattle.image_form.specs.Tables.{ext}
use Rattle.external_rows.specs.Entries.{external_view}
use Rattle.external_rows.proofs.rows.ExternalRows.to_list.Given as goal

abbrev pub invariant-loop-index : goal.invariant-loop-index
invariant-loop-index l = map ext l.rows.items ≡ map external_view (take l.index l.self-inside.rows.entries)
