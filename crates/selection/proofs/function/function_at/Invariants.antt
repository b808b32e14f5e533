use Rattle.std.proofs.Common.{◌≡◌, length, map}
use Rattle.std.specs.List.{slice_get}
use Rattle.cmm_tree.specs.View.{item_view}
use Rattle.cmm_tree.specs.Tree.{functions_among}
use Rattle.cmm_types.specs.Typing.{AreItemsAnnotated}
use Rattle.selection.proofs.function.function_at.Given as goal

abbrev pub invariant-loop-rest : goal.invariant-loop-rest
invariant-loop-rest l =
    record {
      tree : slice_get (functions_among (map item_view l.rest)) l.left ≡ slice_get (functions_among (map item_view l.fn.items)) l.fn.number;
      typed : AreItemsAnnotated l.fn.items → AreItemsAnnotated l.rest;
    }

abbrev pub decreases-loop-rest : goal.decreases-loop-rest
decreases-loop-rest l = length l.rest
