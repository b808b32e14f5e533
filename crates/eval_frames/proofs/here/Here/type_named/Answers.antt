use Rattle.std.proofs.Common.{sym}
use Rattle.eval_frames.specs.Views.{bounds_view}
use Rattle.eval_frames.proofs.Bounds.{type_none}
use Rattle.eval_frames.proofs.here.Here.type_named.Goals as goal

pub returns-in-None : goal.returns-in-None
returns-in-None c =
    sym (type_none (bounds_view c.args.self.now.names.items) c.args.name.now (sym (rw c.as_slice.ensures.value at c.in-None.ensures)))
