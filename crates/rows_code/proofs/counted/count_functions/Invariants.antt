use Rattle.std.proofs.Common.{◌≡◌, ◌+◌, length, map}
use Rattle.cmm_tree.specs.Tree.{functions_among}
use Rattle.cmm_tree.specs.View.{item_view}
use Rattle.rows_code.proofs.counted.count_functions.Given as goal

abbrev pub invariant-loop-rest : goal.invariant-loop-rest
invariant-loop-rest l =
    l.count + length (functions_among (map item_view l.rest)) ≡ length (functions_among (map item_view l.fn.items))

abbrev pub decreases-loop-rest : goal.decreases-loop-rest
decreases-loop-rest l = length l.rest
