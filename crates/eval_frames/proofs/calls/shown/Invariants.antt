use Rattle.std.proofs.Common.{◌≡◌, ◌++◌, map, drop}
use Rattle.cmm_meaning.specs.Layout.{observed}
use Rattle.eval_frames.specs.Views.{layout_view}
use Rattle.eval_frames.proofs.calls.shown.Given as goal

-- what is seen of the values so far, and of those that are left
abbrev pub invariant-loop-value : goal.invariant-loop-value
invariant-loop-value l =
    l.seen.items ++ map (observed (layout_view l.layout)) (drop l.value-index l.values) ≡ map (observed (layout_view l.layout)) l.values
