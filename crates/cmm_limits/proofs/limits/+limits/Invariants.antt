use Rattle.std.proofs.Common.{◌≡◌, drop}
use Rattle.bs_fault.specs.Reported.{noted_all}
use Rattle.cmm_limits.specs.Limits.{row_faults, binding_faults, case_faults, handler_faults}
use Rattle.cmm_tree.specs.Rows.{expressions_of, bindings_of, cases_of, handlers_of}
use Rattle.cmm_limits.proofs.limits.+limits.Given as goal

-- what is left of each list goes on to all of it
abbrev pub invariant-in_row-loop-expr : goal.invariant-in_row-loop-expr
invariant-in_row-loop-expr l = noted_all (row_faults (expressions_of (drop l.expr-index l.exprs))) l.reported ≡ noted_all (row_faults (expressions_of l.exprs)) l.fn.found

abbrev pub invariant-in_bindings-loop-binding : goal.invariant-in_bindings-loop-binding
invariant-in_bindings-loop-binding l = noted_all (binding_faults (bindings_of (drop l.binding-index l.bindings))) l.reported ≡ noted_all (binding_faults (bindings_of l.bindings)) l.fn.found

abbrev pub invariant-in_cases-loop-case : goal.invariant-in_cases-loop-case
invariant-in_cases-loop-case l = noted_all (case_faults l.size (cases_of (drop l.case-index l.cases))) l.reported ≡ noted_all (case_faults l.size (cases_of l.cases)) l.fn.found

abbrev pub invariant-in_handlers-loop-handler : goal.invariant-in_handlers-loop-handler
invariant-in_handlers-loop-handler l = noted_all (handler_faults (handlers_of (drop l.handler-index l.handlers))) l.reported ≡ noted_all (handler_faults (handlers_of l.handlers)) l.fn.found
