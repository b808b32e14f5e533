use Rattle.std.proofs.Common.{◌≡◌, drop}
use Rattle.dataflow.specs.Rows.{set_in_row}
use Rattle.split.specs.Names.{find_coming}
use Rattle.split.proofs.names.find_coming.Given as goal

abbrev pub invariant-loop-index : goal.invariant-loop-index
invariant-loop-index l =
    find_coming (set_in_row l.rows.rows.items l.place) (drop l.index-index l.among)
    ≡ find_coming (set_in_row l.rows.rows.items l.place) l.among
