use Rattle.std.proofs.Common.{subst}
use Rattle.cse_deadcode.specs.Flows.{AreUsed}
use Rattle.cse_deadcode.specs.Uses.{goes_at}
use Rattle.cse_deadcode.proofs.Walked.{are_uses}
use Rattle.cse_deadcode.proofs.uses.used.Goals as goal

pub returns : goal.returns
returns c =
    are_uses c.args.mach.now c.in_ok-flow.flow c.in_ok-flow.ensures.flow c.in_ok-rows.rows.rows.items
    (subst (λ code. AreUsed c.in_ok-flow.flow (goes_at code) c.in_ok-rows.rows.rows.items) c.as_slice.ensures
    c.in_ok-rows.ensures)
