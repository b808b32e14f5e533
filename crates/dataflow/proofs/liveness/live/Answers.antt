use Rattle.dataflow.proofs.Sweeps.{solved}
use Rattle.dataflow.proofs.liveness.live.Goals as goal

pub returns : goal.returns
returns c = solved c.args.flow.now _ _ _ c.loop-grew-test.false c.loop-grew.invariant
