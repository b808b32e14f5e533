use Rattle.std.proofs.Common.{◌≡◌, ◌+◌, ◌≤◌, drop}
use Rattle.cmm_tree.specs.Rows.{expressions_of, bindings_of, cases_of, handlers_of}
use Rattle.selection_rules.specs.Select.{width_row, width_bound, width_cases, width_handlers}
use Rattle.selection_scope.specs.Widths.{capped}
use Rattle.selection_scope.proofs.width.+width.Given as goal

abbrev pub invariant-with_row-loop-expr : goal.invariant-with_row-loop-expr
invariant-with_row-loop-expr l = record { same : capped (l.total + width_row (expressions_of (drop l.expr-index l.exprs))) ≡ capped (l.fn.so_far + width_row (expressions_of l.exprs)); small : l.total ≤ 4294967295 }

abbrev pub invariant-with_bindings-loop-binding : goal.invariant-with_bindings-loop-binding
invariant-with_bindings-loop-binding l = record { same : capped (l.total + width_bound (bindings_of (drop l.binding-index l.bindings))) ≡ capped (l.fn.so_far + width_bound (bindings_of l.bindings)); small : l.total ≤ 4294967295 }

abbrev pub invariant-with_cases-loop-case : goal.invariant-with_cases-loop-case
invariant-with_cases-loop-case l = record { same : capped (l.total + width_cases (cases_of (drop l.case-index l.cases))) ≡ capped (l.fn.so_far + width_cases (cases_of l.cases)); small : l.total ≤ 4294967295 }

abbrev pub invariant-with_handlers-loop-handler : goal.invariant-with_handlers-loop-handler
invariant-with_handlers-loop-handler l = record { same : capped (l.total + width_handlers (handlers_of (drop l.handler-index l.handlers))) ≡ capped (l.fn.so_far + width_handlers (handlers_of l.handlers)); small : l.total ≤ 4294967295 }
