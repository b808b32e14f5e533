use Rattle.std.proofs.Common.{arith}
use Rattle.assemble.specs.Sizes.{item_size}
use Rattle.function_places.proofs.Sums.{sum_step, sum_done}
use Rattle.assemble.proofs.sizes.items_size.Goals as goal

pub item_size-size-requires : goal.item_size-size-requires
item_size-size-requires c = omega (arith, sum_step item_size c.args.items.now c.loop-item.item-index c.item-item.result c.loop-item.size _ c.loop-item-test.true c.item-item.is c.loop-item.invariant, c.requires)

pub overflow_add-size : goal.overflow_add-size
overflow_add-size c = omega (arith, sum_step item_size c.args.items.now c.loop-item.item-index c.item-item.result c.loop-item.size _ c.loop-item-test.true c.item-item.is c.loop-item.invariant, c.requires, c.item_size-size.ensures)

pub loop-item-preserved : goal.loop-item-preserved
loop-item-preserved c = omega (arith, sum_step item_size c.args.items.now c.loop-item.item-index c.item-item.result c.loop-item.size _ c.loop-item-test.true c.item-item.is c.loop-item.invariant, c.item_size-size.ensures)

pub returns : goal.returns
returns c = sum_done item_size c.args.items.now c.loop-item.item-index c.loop-item.size _ c.loop-item-test.false c.loop-item.invariant
