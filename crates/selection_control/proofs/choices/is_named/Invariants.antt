use Rattle.std.proofs.Common.{◌≡◌, map, drop}
use Rattle.cmm_tree.specs.View.{index_view}
use Rattle.cmm_meaning.specs.Choices.{is_named}
use Rattle.selection_control.proofs.choices.is_named.Given as goal

abbrev pub invariant-loop-index : goal.invariant-loop-index
invariant-loop-index l =
    is_named (map index_view (drop l.index-index l.indexes)) l.number ≡ is_named (map index_view l.indexes) l.number
