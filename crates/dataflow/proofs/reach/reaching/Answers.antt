use Rattle.dataflow.proofs.Moves.{solved_on}
use Rattle.dataflow.proofs.reach.reaching.Goals as goal

pub returns : goal.returns
returns c = solved_on c.args.flow.now _ _ _ c.requires c.loop-grew-test.false c.loop-grew.invariant
