use Rattle.std.proofs.Common.{arith}
use Rattle.assemble.specs.Sizes.{descs_size}
use Rattle.function_places.proofs.Sums.{sum_step, sum_done}
use Rattle.assemble.proofs.sizes.descs_size.Goals as goal

pub overflow_add-size : goal.overflow_add-size
overflow_add-size c = omega (arith, sum_step descs_size c.args.functions.now c.loop-function.function-index c.function-item.result c.loop-function.size _ c.loop-function-test.true c.function-item.is c.loop-function.invariant, c.requires)

pub loop-function-preserved : goal.loop-function-preserved
loop-function-preserved c = sum_step descs_size c.args.functions.now c.loop-function.function-index c.function-item.result c.loop-function.size _ c.loop-function-test.true c.function-item.is c.loop-function.invariant

pub returns : goal.returns
returns c = sum_done descs_size c.args.functions.now c.loop-function.function-index c.loop-function.size _ c.loop-function-test.false c.loop-function.invariant
