use Rattle.cse_deadcode.proofs.Sweeps.{solved}
use Rattle.cse_deadcode.specs.Uses.{goes_at}
use Rattle.cse_deadcode.proofs.uses.used_in_flow.Goals as goal

pub returns : goal.returns
returns c = solved c.args.flow.now (goes_at c.args.code.now) _ _ _ c.loop-grew-test.false c.loop-grew.invariant
