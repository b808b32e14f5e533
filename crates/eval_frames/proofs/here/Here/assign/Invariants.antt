use Rattle.std.proofs.Common.{◌≡◌, ◌≤◌, ◌++◌, take, drop, length}
use Rattle.cmm_meaning.specs.State.{assigned}
use Rattle.eval_frames.specs.Views.{bounds_view}
use Rattle.eval_frames.proofs.here.Here.assign.Given as goal

-- what is after the index has no binding of the name
abbrev pub invariant-loop-index : goal.invariant-loop-index
invariant-loop-index l =
    record {
      same : l.self ≡ l.initial.self;
      within : l.index ≤ length l.self.names.items;
      behind : assigned (bounds_view l.self.names.items) l.name l.value
          ≡ bounds_view (drop l.index l.self.names.items) ++ assigned (bounds_view (take l.index l.self.names.items)) l.name l.value;
    }

abbrev pub decreases-loop-index : goal.decreases-loop-index
decreases-loop-index l = l.index
