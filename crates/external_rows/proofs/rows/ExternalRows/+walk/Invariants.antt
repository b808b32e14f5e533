use Rattle.std.proofs.Common.{◌≡◌, drop}
use Rattle.assemble_rules.specs.Held.{calls_among, calls_among_bindings, calls_among_cases, calls_among_handlers}
use Rattle.rv_layout_rules.specs.Externals.{firsts_behind}
use Rattle.external_rows.proofs.rows.ExternalRows.+walk.Given as goal

abbrev pub invariant-walk_bindings-loop-binding : goal.invariant-walk_bindings-loop-binding
invariant-walk_bindings-loop-binding l = firsts_behind l.self (calls_among_bindings (drop l.binding-index l.bindings)) ≡ firsts_behind l.fn.self (calls_among_bindings l.bindings)

abbrev pub invariant-walk_cases-loop-case : goal.invariant-walk_cases-loop-case
invariant-walk_cases-loop-case l = firsts_behind l.self (calls_among_cases (drop l.case-index l.cases)) ≡ firsts_behind l.fn.self (calls_among_cases l.cases)

abbrev pub invariant-walk_handlers-loop-handler : goal.invariant-walk_handlers-loop-handler
invariant-walk_handlers-loop-handler l = firsts_behind l.self (calls_among_handlers (drop l.handler-index l.handlers)) ≡ firsts_behind l.fn.self (calls_among_handlers l.handlers)

abbrev pub invariant-walk_row-loop-expr : goal.invariant-walk_row-loop-expr
invariant-walk_row-loop-expr l = firsts_behind l.self (calls_among (drop l.expr-index l.exprs)) ≡ firsts_behind l.fn.self (calls_among l.exprs)
