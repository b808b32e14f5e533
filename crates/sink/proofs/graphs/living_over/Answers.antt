use Rattle.std.proofs.Common.{◌∙◌, sym}
use Rattle.sink.proofs.Living.{over_held}
use Rattle.sink.proofs.graphs.living_over.Goals as goal

pub returns-in_ok-found : goal.returns-in_ok-found
returns-in_ok-found c =
    over_held c.args.live.now.before.rows.items c.args.after c.args.written.now c.args.op.now c.in_ok-found.found.items
    (sym c.is_held.ensures ∙ c.if-is_held.true) c.in_ok-found.ensures
