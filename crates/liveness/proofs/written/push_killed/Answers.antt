use Rattle.mach_ir.specs.Meaning.{destroyed_by}
use Rattle.liveness.proofs.Bounds.{nothing_added}
use Rattle.liveness.proofs.written.push_killed.Goals as goal

pub returns-then-destroys_nothing : goal.returns-then-destroys_nothing
returns-then-destroys_nothing c =
    nothing_added c.args.found.now.items c.args.colours.now (destroyed_by c.args.op.now) c.args.results.now
    (c.destroys_nothing.ensures.0 c.if-destroys_nothing.true)
