use Rattle.std.proofs.Common.{◌≡◌, ◌+◌, drop}
use Rattle.std.specs.Prelude.{sum_by}
use Rattle.assemble.specs.Sizes.{item_size}
use Rattle.assemble.proofs.sizes.items_size.Given as goal

abbrev pub invariant-loop-item : goal.invariant-loop-item
invariant-loop-item l = l.size + sum_by item_size (drop l.item-index l.items) ≡ sum_by item_size l.items
