-- The code of an operand, and of those of a row.
use Rattle.std.specs.Prelude.{ℕ, Bool, true, false, not, List, Option, Some, None}
use Rattle.cmm_tree.specs.Tree.{Expressions}
use Rattle.cmm_tree.specs.View.{expr_view}
use Rattle.selection_rules.specs.Select.{Code, select, select_waiting, select_filled, only_when}
use Rattle.selection_scope.specs.Scoping.{LexicalScope}
use Rattle.selection_operands.specs.declared.operands.Operand.{Operand}
use Rattle.selection_operands.specs.declared.operands.Timing.{Timing}
use Rattle.selection_operands.specs.declared.operands.Timing.TheVariants as timing

abbrev pub operand_code : LexicalScope → Operand → Code
operand_code scope o =
    only_when o.needed
    (select scope.names scope.labels false false o.reg o.base (expr_view o.expr.now))

-- whether an operand is due then, by whether it is a light address
abbrev pub is_due : Timing → Bool → Bool
is_due timing.Eager light = not light
is_due timing.Deferred light = light

-- the code of the operands of a row that get their values then
abbrev pub row_code : Timing → LexicalScope → ℕ → ℕ → Expressions → Code
row_code timing.Eager scope = select_waiting scope.names scope.labels
row_code timing.Deferred scope = select_filled scope.names scope.labels

-- whether there is no symbol
abbrev pub lacks : Option (List ℕ) → Bool
lacks (Some name) = false
lacks None = true
