use Rattle.std.proofs.Common.{◌≡◌, [], drop}
use Rattle.bs_words.specs.Contents.{contents}
use Rattle.assemble_rules.specs.Held.{calls_among_items}
use Rattle.rv_layout_rules.specs.Externals.{firsts_behind}
use Rattle.external_rows.proofs.walk.external_rows.Given as goal

abbrev pub invariant-loop-item : goal.invariant-loop-item
invariant-loop-item l = record {
  items : l.item-items ≡ contents l.file.items;
  rows : firsts_behind l.rows (calls_among_items (drop l.item-index l.item-items)) ≡ firsts_behind [] (calls_among_items (contents l.file.items));
}
