use Rattle.std.proofs.Common.{◌≡◌, flat_map, take}
use Rattle.assemble.specs.Source.{source_entries}
use Rattle.bs_words.specs.Contents.{contents}
use Rattle.cmm_data.specs.declared.data_map.DataCells.{DataCells}
use Rattle.rv_layout_rules.specs.Laid.{cell_bytes}
use Rattle.assemble.proofs.source.Source.bytes.Given as goal

abbrev pub invariant-loop-list : goal.invariant-loop-list
invariant-loop-list l = record {
  items : l.list-items ≡ contents l.self.data.now.lists;
  bytes : l.bytes.items ≡ flat_map (λ (list : DataCells). flat_map (cell_bytes (source_entries l.self)) (contents list.cells)) (take l.list-index l.list-items);
}
