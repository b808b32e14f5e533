use Rattle.std.proofs.Common.{◌≡◌, ◌≤◌, take, length}
use Rattle.cmm_meaning.specs.State.{innermost}
use Rattle.eval_frames.specs.Views.{bounds_view}
use Rattle.eval_frames.proofs.here.innermost.Given as goal

-- the bindings that are left say it
abbrev pub invariant-loop-left : goal.invariant-loop-left
invariant-loop-left l =
    record {
      within : l.left ≤ length l.names;
      same : innermost (bounds_view (take l.left l.names)) l.name ≡ innermost (bounds_view l.names) l.name;
    }

abbrev pub decreases-loop-left : goal.decreases-loop-left
decreases-loop-left l = l.left
