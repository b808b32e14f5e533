use Rattle.std.proofs.Common.{◌≡◌, ◌+◌, drop}
use Rattle.std.specs.Prelude.{sum_by}
use Rattle.assemble.specs.Sizes.{symbol_size}
use Rattle.assemble.proofs.sizes.symbols_size.Given as goal

abbrev pub invariant-loop-symbol : goal.invariant-loop-symbol
invariant-loop-symbol l = l.size + sum_by symbol_size (drop l.symbol-index l.symbols) ≡ sum_by symbol_size l.symbols
