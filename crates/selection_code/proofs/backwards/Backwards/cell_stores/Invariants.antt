use Rattle.std.proofs.Common.{◌≡◌, length}
use Rattle.selection_rules.specs.Select.{cell_stores}
use Rattle.selection_scope.specs.Row.{regs_in}
use Rattle.selection_code.proofs.backwards.Backwards.cell_stores.Given as goal

abbrev pub invariant-loop-last : goal.invariant-loop-last
invariant-loop-last l =
    cell_stores l.chunk l.block 0 (regs_in l.rest) l.self ≡ cell_stores l.chunk l.block 0 l.fn.cells l.initial.self

abbrev pub decreases-loop-last : goal.decreases-loop-last
decreases-loop-last l = length l.rest
