use Rattle.std.proofs.Common.{◌≡◌, map, drop}
use Rattle.cmm_tree.specs.View.{index_view}
use Rattle.cmm_meaning.specs.Choices.{is_named}
use Rattle.eval_frames.proofs.cases.is_named.Given as goal

-- the indexes that are left say it
abbrev pub invariant-loop-index : goal.invariant-loop-index
invariant-loop-index l = is_named (map index_view (drop l.index-index l.index-items)) l.number ≡ is_named (map index_view l.case.indexes.items) l.number
