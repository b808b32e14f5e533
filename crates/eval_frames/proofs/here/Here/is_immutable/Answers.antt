use Rattle.std.proofs.Common.{sym}
use Rattle.eval_frames.specs.Views.{bound_view, bounds_view}
use Rattle.eval_frames.proofs.Bounds.{immutable_some, immutable_none}
use Rattle.eval_frames.proofs.here.Here.is_immutable.Goals as goal

pub returns-in-Some : goal.returns-in-Some
returns-in-Some c =
    sym (immutable_some (bounds_view c.args.self.now.names.items) c.args.name.now (bound_view c.in-Some.bound.now) (sym (rw c.as_slice.ensures.value at c.in-Some.ensures)))

pub returns-in-None : goal.returns-in-None
returns-in-None c =
    sym (immutable_none (bounds_view c.args.self.now.names.items) c.args.name.now (sym (rw c.as_slice.ensures.value at c.in-None.ensures)))
