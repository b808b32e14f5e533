use Rattle.std.proofs.Common.{map, take, drop}
use Rattle.cmm_tree.specs.Tree.{functions_among}
use Rattle.cmm_tree.specs.View.{item_view}
use Rattle.cmm_walks.specs.Refusal.{ToldAmong}
use Rattle.cmm_types.specs.Typing.{AreItemsAnnotated}
use Rattle.cmm_walks.proofs.check.told_in_items.Given as goal

-- what is reported of the items so far, and the types of the others
abbrev pub invariant-loop-item : goal.invariant-loop-item
invariant-loop-item l = record {
  typed : AreItemsAnnotated (drop l.item-index l.items);
  told : ToldAmong (functions_among (map item_view (take l.item-index l.items))) l.least;
}
