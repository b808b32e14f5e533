use Rattle.std.proofs.Common.{◌≡◌, ◌≤◌, drop, length}
use Rattle.cmm_eval.proofs.Passing.{Follows}
use Rattle.cmm_eval.proofs.machine.Machine.take_place.Given as goal

-- the frames that were passed do nothing but test
abbrev pub invariant-loop-left : goal.invariant-loop-left
invariant-loop-left l =
    record {
      same : l.self ≡ l.initial.self;
      within : l.left ≤ length l.self.frames.items;
      follows : Follows (drop l.left l.self.frames.items) l.fn.tests l.before;
    }

abbrev pub decreases-loop-left : goal.decreases-loop-left
decreases-loop-left l = l.left
