use Rattle.std.proofs.Common.{◌≡◌, ◌+◌, ◌++◌, length, map, drop}
use Rattle.function_places.specs.Places.{forms_in}
use Rattle.assemble.specs.Source.{laid_of}
use Rattle.bs_words.specs.Contents.{contents}
use Rattle.cmm_tree.specs.Tree.{functions_among}
use Rattle.cmm_tree.specs.View.{item_view}
use Rattle.cmm_types.specs.Typing.{AreItemsAnnotated}
use Rattle.image_form.specs.Tables.{func}
use Rattle.rv_layout_rules.specs.Forms.{all_words}
use Rattle.rv_layout_rules.specs.Laid.{rows_from}
use Rattle.assemble.proofs.source.Source.rows.Given as goal

abbrev pub invariant-loop-item : goal.invariant-loop-item
invariant-loop-item l = record {
  items : l.item-items ≡ contents l.self.file.now.items;
  typed : AreItemsAnnotated (drop l.item-index l.item-items);
  same : l.next + length (functions_among (map item_view (drop l.item-index l.item-items))) ≡ length l.self.pieces.now;
  place : l.entry + all_words (drop l.next l.self.pieces.now) (drop l.next (forms_in l.self.places.now)) ≡ l.self.places.now.end;
  rows : map func l.rows.items ++ rows_from l.entry (functions_among (map item_view (drop l.item-index l.item-items))) (drop l.next l.self.pieces.now) (drop l.next (forms_in l.self.places.now)) ≡ (laid_of l.self).funcs;
}
