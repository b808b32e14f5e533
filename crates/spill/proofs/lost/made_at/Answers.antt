use Rattle.std.proofs.Common.{refl}
use Rattle.spill.proofs.Making.{made_over}
use Rattle.spill.proofs.lost.made_at.Goals as goal

pub returns-in_ok-found : goal.returns-in_ok-found
returns-in_ok-found c =
    made_over c.args.live.now.before.rows.items c.args.after c.args.written.now c.args.bound c.args.op.now c.in_ok-found.found.items
    (c.if-destroys_everything.ensures.0 refl) c.in_ok-found.ensures
