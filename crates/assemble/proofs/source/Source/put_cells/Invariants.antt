use Rattle.std.proofs.Common.{◌≡◌, ◌++◌, flat_map, take}
use Rattle.assemble.specs.Source.{source_entries}
use Rattle.rv_layout_rules.specs.Laid.{cell_bytes}
use Rattle.assemble.proofs.source.Source.put_cells.Given as goal

abbrev pub invariant-loop-cell : goal.invariant-loop-cell
invariant-loop-cell l = l.bytes.items ≡ l.fn.bytes.items ++ flat_map (cell_bytes (source_entries l.self)) (take l.cell-index l.cells)
