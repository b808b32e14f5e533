use Rattle.assemble.specs.Sizes.{symbol_size}
use Rattle.function_places.proofs.Sums.{sum_done}
use Rattle.assemble.proofs.sizes.symbols_size.Goals as goal

pub returns : goal.returns
returns c = sum_done symbol_size c.args.symbols.now c.loop-symbol.symbol-index c.loop-symbol.size _ c.loop-symbol-test.false c.loop-symbol.invariant
