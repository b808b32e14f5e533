use Rattle.assemble.specs.Sizes.{call_size}
use Rattle.function_places.proofs.Sums.{sum_done}
use Rattle.assemble.proofs.sizes.calls_size.Goals as goal

pub returns : goal.returns
returns c = sum_done call_size c.args.calls.now c.loop-call.call-index c.loop-call.size _ c.loop-call-test.false c.loop-call.invariant
