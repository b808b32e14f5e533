use Rattle.std.proofs.Common.{◌+◌, ◌-◌, ◌*◌}
use Rattle.selection_scope.specs.Room.{most_numbers}
use Rattle.selection.proofs.forms.+expr.Given as goal

-- the numbers of a part begin after the first one of its node
abbrev pub decreases-expr_at : goal.decreases-expr_at
decreases-expr_at l = 2 * (most_numbers - l.place.base)

abbrev pub decreases-select : goal.decreases-select
decreases-select l = 2 * (most_numbers - l.first) + 1
