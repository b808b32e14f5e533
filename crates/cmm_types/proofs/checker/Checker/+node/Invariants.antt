use Rattle.std.proofs.Common.{◌≡◌, ◌||◌, drop, take}
use Rattle.cmm_types.specs.Types.{with_bindings, row_holds_float, type_of_cases, type_of_handlers, bindings_hold_float, cases_hold_float, handlers_hold_float, join}
use Rattle.cmm_tree.specs.Symbols.{definition_of}
use Rattle.cmm_tree.specs.Rows.{expressions_of, bindings_of, cases_of, handlers_of}
use Rattle.cmm_types.specs.Lists.{AreAnnotated, AreBindingsAnnotated, AreCasesAnnotated, AreHandlersAnnotated}
use Rattle.cmm_types.specs.Gathered.{row_faults, bindings_faults, cases_faults, handlers_faults}
use Rattle.bs_fault.specs.Reported.{noted_all}
use Rattle.cmm_types.proofs.Loops.{Noting, last_or}
use Rattle.cmm_types.proofs.checker.Checker.+node.Given as goal

abbrev pub invariant-operands-loop-index : goal.invariant-operands-loop-index
invariant-operands-loop-index l =
    record {
      unvisited : goal.unvisited-operands-loop-index l;
      view : expressions_of l.exprs ≡ expressions_of l.initial.exprs;
      typed : AreAnnotated l.initial.self.names (take l.index l.exprs);
      noting : Noting l.initial.self l.self (row_faults l.role (definition_of l.symbols) l.initial.self.names l.initial.self.labels (expressions_of (drop l.index l.exprs))) (row_faults l.role (definition_of l.symbols) l.initial.self.names l.initial.self.labels (expressions_of l.initial.exprs));
      plain : last_or l.initial.self.names l.plain (expressions_of (drop l.index l.exprs)) ≡ last_or l.initial.self.names l.initial.plain (expressions_of l.initial.exprs);
      float : (l.float || row_holds_float (expressions_of (drop l.index l.exprs))) ≡ row_holds_float (expressions_of l.initial.exprs);
    }

abbrev pub invariant-bind_all-loop-index : goal.invariant-bind_all-loop-index
invariant-bind_all-loop-index l =
    record {
      unvisited : goal.unvisited-bind_all-loop-index l;
      view : bindings_of l.bindings ≡ bindings_of l.initial.bindings;
      typed : AreBindingsAnnotated l.initial.self.names (take l.index l.bindings);
      names : with_bindings l.self.names (bindings_of (drop l.index l.bindings)) ≡ with_bindings l.initial.self.names (bindings_of l.initial.bindings);
      inner : l.self.names ≡ with_bindings l.initial.self.names (bindings_of (take l.index l.bindings));
      labels : l.self.labels ≡ l.initial.self.labels;
      found : noted_all (bindings_faults (definition_of l.symbols) l.self.names l.self.labels (bindings_of (drop l.index l.bindings))) l.self.found ≡ noted_all (bindings_faults (definition_of l.symbols) l.initial.self.names l.initial.self.labels (bindings_of l.initial.bindings)) l.initial.self.found;
      float : (l.float || bindings_hold_float (bindings_of (drop l.index l.bindings))) ≡ bindings_hold_float (bindings_of l.initial.bindings);
    }

abbrev pub invariant-visit_cases-loop-index : goal.invariant-visit_cases-loop-index
invariant-visit_cases-loop-index l =
    record {
      unvisited : goal.unvisited-visit_cases-loop-index l;
      view : cases_of l.cases ≡ cases_of l.initial.cases;
      typed : AreCasesAnnotated l.initial.self.names (take l.index l.cases);
      noting : Noting l.initial.self l.self (cases_faults (definition_of l.symbols) l.initial.self.names l.initial.self.labels (cases_of (drop l.index l.cases))) (cases_faults (definition_of l.symbols) l.initial.self.names l.initial.self.labels (cases_of l.initial.cases));
      plain : join l.plain (type_of_cases l.initial.self.names (cases_of (drop l.index l.cases))) ≡ type_of_cases l.initial.self.names (cases_of l.initial.cases);
      float : (l.float || cases_hold_float (cases_of (drop l.index l.cases))) ≡ cases_hold_float (cases_of l.initial.cases);
    }

abbrev pub invariant-visit_handlers-loop-index : goal.invariant-visit_handlers-loop-index
invariant-visit_handlers-loop-index l =
    record {
      unvisited : goal.unvisited-visit_handlers-loop-index l;
      view : handlers_of l.handlers ≡ handlers_of l.initial.handlers;
      typed : AreHandlersAnnotated l.initial.self.names (take l.index l.handlers);
      noting : Noting l.initial.self l.self (handlers_faults (definition_of l.symbols) l.initial.self.names l.initial.self.labels (handlers_of (drop l.index l.handlers))) (handlers_faults (definition_of l.symbols) l.initial.self.names l.initial.self.labels (handlers_of l.initial.handlers));
      plain : join l.plain (type_of_handlers l.initial.self.names (handlers_of (drop l.index l.handlers))) ≡ type_of_handlers l.initial.self.names (handlers_of l.initial.handlers);
      float : (l.float || handlers_hold_float (handlers_of (drop l.index l.handlers))) ≡ handlers_hold_float (handlers_of l.initial.handlers);
    }
