use Rattle.std.proofs.Common.{◌≡◌, ◌≢◌, ◌+◌, ◌<◌, ◌||◌, ◌++◌, drop, get_or, set, length, refl, ap, sym, subst, ◌∙◌, arith, length-set, get_or-set_other, vec_len, rules}
use Rattle.std.proofs.Math.Bool.{or-false}
use Rattle.std.proofs.lemmas.List.{at_drop_all, take_all}
use Rattle.cmm_types.specs.Types.{with_bindings, with_parameters, type_without_float, type_of_last, holds_float, is_float_result, row_holds_float, bindings_hold_float, cases_hold_float, handlers_hold_float, type_of_cases, type_of_handlers, join}
use Rattle.cmm_tree.specs.Symbols.{definition_of}
use Rattle.cmm_tree.specs.View.{expr_view, params_view, label_view}
use Rattle.cmm_types.specs.declared.role.Role.TheVariants as roles
use Rattle.cmm_tree.specs.Rows.{expressions_of, bindings_of, cases_of, handlers_of}
use Rattle.cmm_types.specs.Annotated.{IsAnnotated}
use Rattle.cmm_types.specs.Lists.{AreAnnotated, AreBindingsAnnotated, AreCasesAnnotated, AreHandlersAnnotated, with_binding}
use Rattle.cmm_types.specs.Gathered.{row_faults, bindings_faults, cases_faults, handlers_faults}
use Rattle.bs_fault.specs.Reported.{noted_all}
use Rattle.cmm_types.proofs.Loops.{Noting, last_or}
use Rattle.cmm_types.proofs.Turns.{drop_behind, row_of-set, annotated-set, row_turn, row_float_turn, last_turn, last_is, cases_of-set, cases-set, cases_turn, cases_float_turn, cases_join_turn, handlers_of-set, handlers-set, handlers_turn, handlers_float_turn, handlers_join_turn, bindings_of-set, bindings-set, names-set, names_turn, bindings_turn, bindings_float_turn, join_never, handler_typed, with_binding-same}
use Rattle.cmm_tree.specs.View.{form_view}
use Rattle.cmm_tree.proofs.Rows.{seq_view, exit_view, alloc_view, float_view, extcall_view, app_view, let_view, switch_view, catch_view}
use Rattle.cmm_types.proofs.Views.{seq_typed, float_typed, exit_typed, alloc_typed, extcall_typed, app_typed, switch_typed, catch_typed}
use Rattle.cmm_types.proofs.Arms.{told, plain_by, float_by, row_same, bindings_same, cases_same, handlers_same, lent_same, float_kept, alloc_kept, seq_kept, exit_kept, extcall_kept, app_kept, switch_kept, let_kept, catch_kept, left_bindings, left_parameters, left_labels, annotated_in, cases_in_scope, handlers_in_scope, one_in, let_annotated}
use Rattle.cmm_types.proofs.Told.{count_is, float_found, alloc_found, exit_found, app_found, extcall_found, switch_found, let_found, catch_found, app_float, or_of, join_of, plain_of, cases_plain_of, handlers_plain_of}
use Rattle.cmm_types.specs.Standing.{labels_of, lasting_labels_of}
use borrow.Enum.Total.{values_d, values_d_at, values_o, values_o_at}
use Rattle.cmm_tree.specs.contracts.expr.Form.{enum}
use Rattle.cmm_tree.specs.declared.expr.Form.{Form}
use Rattle.cmm_types.proofs.checker.Checker.+node.Goals as goal

-- ---- expressions

pub operands-loop-index-init : goal.operands-loop-index-init
operands-loop-index-init t c = record { unvisited = (refl, λ k d h. refl); view = refl; typed = tt; noting = record { names = refl; labels = refl; found = refl }; plain = refl; float = refl }

pub operands-loop-index-preserved : goal.operands-loop-index-preserved
operands-loop-index-preserved t c =
    let xs = c.loop-index.exprs in
    let new = c.operand.new.expr in
    let old = get_or xs c.loop-index.index c.index-exprs-index.result in
    let lt : c.loop-index.index < length xs = omega arith in
    let at : old ≡ get_or xs c.loop-index.index old = ap (λ y. get_or xs c.loop-index.index y) c.index-exprs-index.is in
    let inv = c.loop-index.invariant in
    let before = c.args.self.now in
    let d = definition_of c.args.symbols.now in
    let same : drop (c.loop-index.index + 1) (set xs c.loop-index.index new) ≡ drop (c.loop-index.index + 1) xs = drop_behind xs c.loop-index.index new in
    record {
      unvisited = (length-set xs c.loop-index.index new ∙ c.loop-index.invariant.unvisited.0, λ k d h. let ne : k ≢ c.loop-index.index = omega arith in rw get_or-set_other (c.loop-index.invariant.unvisited.1 k d (omega arith)));
      view = row_of-set xs c.loop-index.index old new lt at c.in_ok-seen.ensures.view ∙ inv.view;
      typed = annotated-set before.names xs c.loop-index.index new lt inv.typed (subst (λ n. IsAnnotated n new) inv.noting.names c.in_ok-seen.ensures.typed);
      noting = subst (λ k. Noting before c.operand.new.self (row_faults c.args.role d before.names before.labels (expressions_of k)) (row_faults c.args.role d before.names before.labels (expressions_of c.args.exprs.now))) (sym same)
          (row_turn c.args.role d xs c.loop-index.index old before c.loop-index.self c.operand.new.self _ lt at inv.noting c.in_ok-seen.ensures.names c.in_ok-seen.ensures.labels c.in_ok-seen.ensures.found);
      plain = ap (λ k. last_or before.names c.in_ok-seen.seen.plain (expressions_of k)) same
          ∙ last_turn before.names xs c.loop-index.index old c.loop-index.plain c.in_ok-seen.seen.plain lt at (c.in_ok-seen.ensures.plain ∙ ap (λ n. type_without_float n (expr_view old)) inv.noting.names)
          ∙ inv.plain;
      float = ap (λ b. b || row_holds_float (expressions_of (drop (c.loop-index.index + 1) (set xs c.loop-index.index new)))) c.either-float.ensures
          ∙ ap (λ k. (c.loop-index.float || c.in_ok-seen.seen.float) || row_holds_float (expressions_of k)) same
          ∙ row_float_turn xs c.loop-index.index old c.loop-index.float c.in_ok-seen.seen.float lt at c.in_ok-seen.ensures.float
          ∙ inv.float;
    }

pub operands-returns : goal.operands-returns
operands-returns t c =
    record {
      view = c.loop-index.invariant.view;
      typed = subst (λ k. AreAnnotated c.args.self.now.names k) (take_all c.loop-index.index c.loop-index.exprs (omega arith)) c.loop-index.invariant.typed;
      names = c.loop-index.invariant.noting.names;
      labels = c.loop-index.invariant.noting.labels;
      found = sym (at_drop_all (λ k. noted_all (row_faults c.args.role (definition_of c.args.symbols.now) c.args.self.now.names c.args.self.now.labels (expressions_of k)) c.loop-index.self.found) c.loop-index.exprs c.loop-index.index (omega arith))
          ∙ c.loop-index.invariant.noting.found;
      plain = sym (at_drop_all (λ k. last_or c.args.self.now.names c.loop-index.plain (expressions_of k)) c.loop-index.exprs c.loop-index.index (omega arith))
          ∙ c.loop-index.invariant.plain
          ∙ last_is c.args.self.now.names (expressions_of c.args.exprs.now);
      float = sym (or-false c.loop-index.float)
          ∙ sym (at_drop_all (λ k. c.loop-index.float || row_holds_float (expressions_of k)) c.loop-index.exprs c.loop-index.index (omega arith))
          ∙ c.loop-index.invariant.float;
    }

-- ---- cases

pub visit_cases-loop-index-init : goal.visit_cases-loop-index-init
visit_cases-loop-index-init t c = record { unvisited = (refl, λ k d h. refl); view = refl; typed = tt; noting = record { names = refl; labels = refl; found = refl }; plain = refl; float = refl }

pub visit_cases-loop-index-preserved : goal.visit_cases-loop-index-preserved
visit_cases-loop-index-preserved t c =
    let xs = c.loop-index.cases in
    let old = get_or xs c.loop-index.index c.index-cases-index.result in
    let new = record old { body = c.visit.new.expr } in
    let lt : c.loop-index.index < length xs = omega arith in
    let at : old ≡ get_or xs c.loop-index.index old = ap (λ y. get_or xs c.loop-index.index y) c.index-cases-index.is in
    let inv = c.loop-index.invariant in
    let before = c.args.self.now in
    let d = definition_of c.args.symbols.now in
    let same : drop (c.loop-index.index + 1) (set xs c.loop-index.index new) ≡ drop (c.loop-index.index + 1) xs = drop_behind xs c.loop-index.index new in
    record {
      unvisited = (length-set xs c.loop-index.index new ∙ c.loop-index.invariant.unvisited.0, λ k d h. let ne : k ≢ c.loop-index.index = omega arith in rw get_or-set_other (c.loop-index.invariant.unvisited.1 k d (omega arith)));
      view = cases_of-set xs c.loop-index.index old new lt at refl c.in_ok-seen.ensures.view ∙ inv.view;
      typed = cases-set before.names xs c.loop-index.index new lt inv.typed (subst (λ n. IsAnnotated n c.visit.new.expr) inv.noting.names c.in_ok-seen.ensures.typed);
      noting = subst (λ k. Noting before c.visit.new.self (cases_faults d before.names before.labels (cases_of k)) (cases_faults d before.names before.labels (cases_of c.args.cases.now))) (sym same)
          (cases_turn d xs c.loop-index.index old before c.loop-index.self c.visit.new.self _ lt at inv.noting c.in_ok-seen.ensures.names c.in_ok-seen.ensures.labels c.in_ok-seen.ensures.found);
      plain = ap (λ p. join p (type_of_cases before.names (cases_of (drop (c.loop-index.index + 1) (set xs c.loop-index.index new))))) c.join-plain.ensures
          ∙ ap (λ k. join (join c.loop-index.plain c.in_ok-seen.seen.plain) (type_of_cases before.names (cases_of k))) same
          ∙ cases_join_turn before.names xs c.loop-index.index old c.loop-index.plain c.in_ok-seen.seen.plain lt at (c.in_ok-seen.ensures.plain ∙ ap (λ n. type_without_float n (expr_view old.body)) inv.noting.names)
          ∙ inv.plain;
      float = ap (λ b. b || cases_hold_float (cases_of (drop (c.loop-index.index + 1) (set xs c.loop-index.index new)))) c.either-float.ensures
          ∙ ap (λ k. (c.loop-index.float || c.in_ok-seen.seen.float) || cases_hold_float (cases_of k)) same
          ∙ cases_float_turn xs c.loop-index.index old c.loop-index.float c.in_ok-seen.seen.float lt at c.in_ok-seen.ensures.float
          ∙ inv.float;
    }

pub visit_cases-returns : goal.visit_cases-returns
visit_cases-returns t c =
    record {
      view = c.loop-index.invariant.view;
      typed = subst (λ k. AreCasesAnnotated c.args.self.now.names k) (take_all c.loop-index.index c.loop-index.cases (omega arith)) c.loop-index.invariant.typed;
      names = c.loop-index.invariant.noting.names;
      labels = c.loop-index.invariant.noting.labels;
      found = sym (at_drop_all (λ k. noted_all (cases_faults (definition_of c.args.symbols.now) c.args.self.now.names c.args.self.now.labels (cases_of k)) c.loop-index.self.found) c.loop-index.cases c.loop-index.index (omega arith))
          ∙ c.loop-index.invariant.noting.found;
      plain = sym (join_never c.loop-index.plain)
          ∙ sym (at_drop_all (λ k. join c.loop-index.plain (type_of_cases c.args.self.now.names (cases_of k))) c.loop-index.cases c.loop-index.index (omega arith))
          ∙ c.loop-index.invariant.plain;
      float = sym (or-false c.loop-index.float)
          ∙ sym (at_drop_all (λ k. c.loop-index.float || cases_hold_float (cases_of k)) c.loop-index.cases c.loop-index.index (omega arith))
          ∙ c.loop-index.invariant.float;
    }

-- ---- handlers

pub visit_handlers-loop-index-init : goal.visit_handlers-loop-index-init
visit_handlers-loop-index-init t c = record { unvisited = (refl, λ k d h. refl); view = refl; typed = tt; noting = record { names = refl; labels = refl; found = refl }; plain = refl; float = refl }

pub visit_handlers-loop-index-preserved : goal.visit_handlers-loop-index-preserved
visit_handlers-loop-index-preserved t c =
    let xs = c.loop-index.handlers in
    let old = get_or xs c.loop-index.index c.index-handlers-index.result in
    let new = c.visit_handler.new.handler in
    let lt : c.loop-index.index < length xs = omega arith in
    let at : old ≡ get_or xs c.loop-index.index old = ap (λ y. get_or xs c.loop-index.index y) c.index-handlers-index.is in
    let inv = c.loop-index.invariant in
    let before = c.args.self.now in
    let d = definition_of c.args.symbols.now in
    let same : drop (c.loop-index.index + 1) (set xs c.loop-index.index new) ≡ drop (c.loop-index.index + 1) xs = drop_behind xs c.loop-index.index new in
    record {
      unvisited = (length-set xs c.loop-index.index new ∙ c.loop-index.invariant.unvisited.0, λ k d h. let ne : k ≢ c.loop-index.index = omega arith in rw get_or-set_other (c.loop-index.invariant.unvisited.1 k d (omega arith)));
      view = handlers_of-set xs c.loop-index.index old new lt at c.in_ok-seen.ensures.view c.in_ok-seen.ensures.body_view ∙ inv.view;
      typed = handlers-set before.names xs c.loop-index.index new lt inv.typed (handler_typed old new before.names c.in_ok-seen.ensures.view (subst (λ n. IsAnnotated (with_parameters (params_view old.params.items) n) new.body) inv.noting.names c.in_ok-seen.ensures.typed));
      noting = subst (λ k. Noting before c.visit_handler.new.self (handlers_faults d before.names before.labels (handlers_of k)) (handlers_faults d before.names before.labels (handlers_of c.args.handlers.now))) (sym same)
          (handlers_turn d xs c.loop-index.index old before c.loop-index.self c.visit_handler.new.self _ lt at inv.noting c.in_ok-seen.ensures.names c.in_ok-seen.ensures.labels c.in_ok-seen.ensures.found);
      plain = ap (λ p. join p (type_of_handlers before.names (handlers_of (drop (c.loop-index.index + 1) (set xs c.loop-index.index new))))) c.join-plain.ensures
          ∙ ap (λ k. join (join c.loop-index.plain c.in_ok-seen.seen.plain) (type_of_handlers before.names (handlers_of k))) same
          ∙ handlers_join_turn before.names xs c.loop-index.index old c.loop-index.plain c.in_ok-seen.seen.plain lt at (c.in_ok-seen.ensures.plain ∙ ap (λ n. type_without_float (with_parameters (params_view old.params.items) n) (expr_view old.body)) inv.noting.names)
          ∙ inv.plain;
      float = ap (λ b. b || handlers_hold_float (handlers_of (drop (c.loop-index.index + 1) (set xs c.loop-index.index new)))) c.either-float.ensures
          ∙ ap (λ k. (c.loop-index.float || c.in_ok-seen.seen.float) || handlers_hold_float (handlers_of k)) same
          ∙ handlers_float_turn xs c.loop-index.index old c.loop-index.float c.in_ok-seen.seen.float lt at c.in_ok-seen.ensures.float
          ∙ inv.float;
    }

pub visit_handlers-returns : goal.visit_handlers-returns
visit_handlers-returns t c =
    record {
      view = c.loop-index.invariant.view;
      typed = subst (λ k. AreHandlersAnnotated c.args.self.now.names k) (take_all c.loop-index.index c.loop-index.handlers (omega arith)) c.loop-index.invariant.typed;
      names = c.loop-index.invariant.noting.names;
      labels = c.loop-index.invariant.noting.labels;
      found = sym (at_drop_all (λ k. noted_all (handlers_faults (definition_of c.args.symbols.now) c.args.self.now.names c.args.self.now.labels (handlers_of k)) c.loop-index.self.found) c.loop-index.handlers c.loop-index.index (omega arith))
          ∙ c.loop-index.invariant.noting.found;
      plain = sym (join_never c.loop-index.plain)
          ∙ sym (at_drop_all (λ k. join c.loop-index.plain (type_of_handlers c.args.self.now.names (handlers_of k))) c.loop-index.handlers c.loop-index.index (omega arith))
          ∙ c.loop-index.invariant.plain;
      float = sym (or-false c.loop-index.float)
          ∙ sym (at_drop_all (λ k. c.loop-index.float || handlers_hold_float (handlers_of k)) c.loop-index.handlers c.loop-index.index (omega arith))
          ∙ c.loop-index.invariant.float;
    }

-- ---- bindings

pub bind_all-loop-index-init : goal.bind_all-loop-index-init
bind_all-loop-index-init t c = record { unvisited = (refl, λ k d h. refl); view = refl; typed = tt; names = refl; inner = refl; labels = refl; found = refl; float = refl }

pub bind_all-loop-index-preserved : goal.bind_all-loop-index-preserved
bind_all-loop-index-preserved t c =
    let xs = c.loop-index.bindings in
    let new = c.bind.new.binding in
    let old = get_or xs c.loop-index.index c.index-bindings-index.result in
    let lt : c.loop-index.index < length xs = omega arith in
    let at : old ≡ get_or xs c.loop-index.index old = ap (λ y. get_or xs c.loop-index.index y) c.index-bindings-index.is in
    let inv = c.loop-index.invariant in
    let before = c.args.self.now in
    let d = definition_of c.args.symbols.now in
    let same : drop (c.loop-index.index + 1) (set xs c.loop-index.index new) ≡ drop (c.loop-index.index + 1) xs = drop_behind xs c.loop-index.index new in
    let after = c.bind.new.self in
    record {
      unvisited = (length-set xs c.loop-index.index new ∙ c.loop-index.invariant.unvisited.0, λ k d h. let ne : k ≢ c.loop-index.index = omega arith in rw get_or-set_other (c.loop-index.invariant.unvisited.1 k d (omega arith)));
      view = bindings_of-set xs c.loop-index.index old new lt at c.in_ok-held.ensures.view c.in_ok-held.ensures.value_view ∙ inv.view;
      typed = bindings-set before.names xs c.loop-index.index new lt inv.typed (subst (λ n. IsAnnotated n new.value) inv.inner c.in_ok-held.ensures.typed);
      names = ap (λ k. with_bindings after.names (bindings_of k)) same
          ∙ names_turn xs c.loop-index.index old c.loop-index.self.names after.names lt at c.in_ok-held.ensures.names
          ∙ inv.names;
      inner = c.in_ok-held.ensures.names
          ∙ sym (with_binding-same c.loop-index.self.names old new c.in_ok-held.ensures.view c.in_ok-held.ensures.value_view)
          ∙ ap (λ n. with_binding n new) inv.inner
          ∙ sym (names-set before.names xs c.loop-index.index new lt);
      labels = c.in_ok-held.ensures.labels ∙ inv.labels;
      found = ap (λ k. noted_all (bindings_faults d after.names after.labels (bindings_of k)) after.found) same
          ∙ bindings_turn d xs c.loop-index.index old c.loop-index.self after lt at c.in_ok-held.ensures.names c.in_ok-held.ensures.labels c.in_ok-held.ensures.found
          ∙ inv.found;
      float = ap (λ b. b || bindings_hold_float (bindings_of (drop (c.loop-index.index + 1) (set xs c.loop-index.index new)))) c.either-float.ensures
          ∙ ap (λ k. (c.loop-index.float || c.in_ok-held.held) || bindings_hold_float (bindings_of k)) same
          ∙ bindings_float_turn xs c.loop-index.index old c.loop-index.float c.in_ok-held.held lt at c.in_ok-held.ensures.float
          ∙ inv.float;
    }

pub bind_all-returns : goal.bind_all-returns
bind_all-returns t c =
    record {
      view = c.loop-index.invariant.view;
      typed = subst (λ k. AreBindingsAnnotated c.args.self.now.names k) (take_all c.loop-index.index c.loop-index.bindings (omega arith)) c.loop-index.invariant.typed;
      names = sym (at_drop_all (λ k. with_bindings c.loop-index.self.names (bindings_of k)) c.loop-index.bindings c.loop-index.index (omega arith))
          ∙ c.loop-index.invariant.names;
      labels = c.loop-index.invariant.labels;
      found = sym (at_drop_all (λ k. noted_all (bindings_faults (definition_of c.args.symbols.now) c.loop-index.self.names c.loop-index.self.labels (bindings_of k)) c.loop-index.self.found) c.loop-index.bindings c.loop-index.index (omega arith))
          ∙ c.loop-index.invariant.found;
      float = sym (or-false c.loop-index.float)
          ∙ sym (at_drop_all (λ k. c.loop-index.float || bindings_hold_float (bindings_of k)) c.loop-index.bindings c.loop-index.index (omega arith))
          ∙ c.loop-index.invariant.float;
    }

-- ---- forms with a vector

pub visit_row-returns-in_ok-row-in-Float : goal.visit_row-returns-in_ok-row-in-Float
visit_row-returns-in_ok-row-in-Float t c =
    let before = c.args.self.now in
    let d = definition_of c.args.symbols.now in
    let is = ap (form_view c.args.at) c.in-Float.is ∙ float_view c.args.at c.in-Float.word_at c.in-Float.operands in
    let same = row_same c.in-Float.operands-is in
    record {
      view = float_kept c.args.at _ c.in-Float.word_at c.in-Float.operands _ c.row.new.exprs c.in-Float.word_at-is c.in-Float.operands-is c.in_ok-row-in-Float.ensures.view ∙ sym (ap (form_view c.args.at) c.in-Float.is);
      typed = float_typed before.names 0 c.row.new.exprs (annotated_in c.row.new.exprs.items c.note.ensures.names c.in_ok-row-in-Float.ensures.typed);
      names = search rules;
      labels = search rules;
      found = told d before.names before.labels before.found c.row.new.self.found is
          (float_found d before.names before.labels before.found c.args.at c.in-Float.word_at (expressions_of c.in-Float.operands.items) c.note.ensures.names c.note.ensures.labels c.in-Float.word_at-is same c.note.ensures.found c.in_ok-row-in-Float.ensures.found);
      plain = search rules;
      float = search rules;
    }

pub visit_row-returns-in_ok-seen-in-Alloc : goal.visit_row-returns-in_ok-seen-in-Alloc
visit_row-returns-in_ok-seen-in-Alloc t c =
    let before = c.args.self.now in
    let d = definition_of c.args.symbols.now in
    let is = ap (form_view c.args.at) c.in-Alloc.is ∙ alloc_view c.args.at c.in-Alloc.header_at c.in-Alloc.header c.in-Alloc.operands in
    let same = row_same c.in-Alloc.operands-is in
    record {
      view = alloc_kept c.args.at _ c.in-Alloc.header_at _ c.in-Alloc.header c.in-Alloc.operands _ c.row-in-Alloc.new.exprs c.in-Alloc.header_at-is c.in-Alloc.header-is c.in-Alloc.operands-is c.in_ok-seen-in-Alloc.ensures.view ∙ sym (ap (form_view c.args.at) c.in-Alloc.is);
      typed = alloc_typed before.names 0 0 c.row-in-Alloc.new.exprs (annotated_in c.row-in-Alloc.new.exprs.items c.note_if.ensures.names c.in_ok-seen-in-Alloc.ensures.typed);
      names = search rules;
      labels = search rules;
      found = told d before.names before.labels before.found c.row-in-Alloc.new.self.found is
          (alloc_found d before.names before.labels before.found c.args.at c.in-Alloc.header_at c.in-Alloc.header (expressions_of c.in-Alloc.operands.items) c.note_if.ensures.names c.note_if.ensures.labels c.in-Alloc.header_at-is c.in-Alloc.header-is same (c.len.ensures ∙ ap vec_len c.in-Alloc.operands-is ∙ count_is c.in-Alloc.operands) c.is_header-fits.ensures c.note_if.ensures.found c.in_ok-seen-in-Alloc.ensures.found);
      plain = search rules;
      float = float_by _ is (c.in_ok-seen-in-Alloc.ensures.float ∙ ap row_holds_float same);
    }

pub visit_row-returns-in_ok-seen-in-Seq : goal.visit_row-returns-in_ok-seen-in-Seq
visit_row-returns-in_ok-seen-in-Seq t c =
    let before = c.args.self.now in
    let d = definition_of c.args.symbols.now in
    let is = ap (form_view c.args.at) c.in-Seq.is ∙ seq_view c.args.at c.in-Seq.elements in
    let same = row_same c.in-Seq.elements-is in
    record {
      view = rw (ap (values_o enum 16) c.in-Seq.is ∙ values_o_at enum 16 (c.in-Seq.elements, tt {0}))
          (seq_kept c.args.at c.in-Seq.elements _ c.row-in-Seq.new.exprs c.in-Seq.elements-is c.in_ok-seen-in-Seq.ensures.view ∙ sym (ap (form_view c.args.at) c.in-Seq.is));
      typed = rw (c.in-Seq.is, values_o_at enum 16 (c.in-Seq.elements, tt {0})) (seq_typed before.names c.row-in-Seq.new.exprs c.in_ok-seen-in-Seq.ensures.typed);
      names = search rules;
      labels = search rules;
      found = told d before.names before.labels before.found c.row-in-Seq.new.self.found is (c.in_ok-seen-in-Seq.ensures.found ∙ ap (λ k. noted_all (row_faults roles.Visited d before.names before.labels k) before.found) same);
      plain = plain_by before.names _ is (c.in_ok-seen-in-Seq.ensures.plain ∙ ap (type_of_last before.names) same);
      float = float_by _ is (c.in_ok-seen-in-Seq.ensures.float ∙ ap row_holds_float same);
    }

pub visit_row-returns-in_ok-passed-in-Exit : goal.visit_row-returns-in_ok-passed-in-Exit
visit_row-returns-in_ok-passed-in-Exit t c =
    let before = c.args.self.now in
    let d = definition_of c.args.symbols.now in
    let is = ap (form_view c.args.at) c.in-Exit.is ∙ exit_view c.args.at c.in-Exit.label_at c.in-Exit.label c.in-Exit.arguments in
    let same = row_same c.in-Exit.arguments-is in
    record {
      view = exit_kept c.args.at _ c.in-Exit.label_at _ c.in-Exit.label c.in-Exit.arguments _ c.row-in-Exit.new.exprs c.in-Exit.label_at-is c.in-Exit.label-is c.in-Exit.arguments-is c.in_ok-passed-in-Exit.ensures.view ∙ sym (ap (form_view c.args.at) c.in-Exit.is);
      typed = exit_typed before.names 0 c.in-Exit.label c.row-in-Exit.new.exprs (annotated_in c.row-in-Exit.new.exprs.items c.note_exit.ensures.names c.in_ok-passed-in-Exit.ensures.typed);
      names = search rules;
      labels = search rules;
      found = told d before.names before.labels before.found c.row-in-Exit.new.self.found is
          (exit_found d before.names before.labels before.found c.args.at c.in-Exit.label_at (label_view c.in-Exit.label) (expressions_of c.in-Exit.arguments.items) c.note_exit.ensures.names c.note_exit.ensures.labels c.in-Exit.label_at-is (ap label_view c.in-Exit.label-is) same (c.len-in-Exit.ensures ∙ ap vec_len c.in-Exit.arguments-is ∙ count_is c.in-Exit.arguments) c.note_exit.ensures.found c.in_ok-passed-in-Exit.ensures.found);
      plain = search rules;
      float = float_by _ is (c.in_ok-passed-in-Exit.ensures.float ∙ ap row_holds_float same);
    }

pub visit_call-returns-in_ok-passed-in-App : goal.visit_call-returns-in_ok-passed-in-App
visit_call-returns-in_ok-passed-in-App t c =
    let before = c.args.self.now in
    let d = definition_of c.args.symbols.now in
    let is = ap (form_view c.args.at) c.in-App.is ∙ app_view c.args.at c.in-App.callee c.in-App.arguments c.in-App.given c.in-App.result_at in
    let same = row_same c.in-App.arguments-is in
    record {
      view = app_kept c.args.at _ c.in-App.given _ c.in-App.result_at c.in-App.callee c.operand.new.expr c.in-App.arguments _ c.row.new.exprs c.in-App.given-is c.in-App.result_at-is (c.in_ok-called-in-App.ensures.view ∙ lent_same c.deref_mut.ensures.value c.in-App.callee-is) c.in-App.arguments-is c.in_ok-passed-in-App.ensures.view ∙ sym (ap (form_view c.args.at) c.in-App.is);
      typed = app_typed before.names (record c.in-App.callee { value = c.operand.new.expr }) c.row.new.exprs c.in-App.given 0
          (one_in c.operand.new.expr (c.note_result.ensures.names ∙ c.note_call.ensures.names) c.in_ok-called-in-App.ensures.typed)
          (annotated_in c.row.new.exprs.items (c.in_ok-called-in-App.ensures.names ∙ c.note_result.ensures.names ∙ c.note_call.ensures.names) c.in_ok-passed-in-App.ensures.typed);
      names = search rules;
      labels = search rules;
      found = told d before.names before.labels before.found c.row.new.self.found is
          (app_found d before.names before.labels before.found c.args.at (expr_view c.in-App.callee.value) (expressions_of c.in-App.arguments.items) c.in-App.given c.in-App.result_at c.note_call.ensures.names c.note_call.ensures.labels c.note_result.ensures.names c.note_result.ensures.labels c.in_ok-called-in-App.ensures.names c.in_ok-called-in-App.ensures.labels (lent_same c.deref.ensures c.in-App.callee-is) (lent_same c.deref_mut.ensures.value c.in-App.callee-is) same (c.len.ensures ∙ ap vec_len c.in-App.arguments-is ∙ count_is c.in-App.arguments) c.in-App.given-is c.in-App.result_at-is c.note_call.ensures.found c.note_result.ensures.found c.in_ok-called-in-App.ensures.found c.in_ok-passed-in-App.ensures.found);
      plain = search rules;
      float = float_by _ is (app_float (expr_view c.in-App.callee.value) (expressions_of c.in-App.arguments.items) c.in-App.given (lent_same c.deref_mut.ensures.value c.in-App.callee-is) same c.in-App.given-is c.either-in-App.ensures c.either.ensures c.in_ok-called-in-App.ensures.float c.in_ok-passed-in-App.ensures.float c.is_float_ret.ensures);
    }

pub visit_call-returns-in_ok-passed-in-Extcall : goal.visit_call-returns-in_ok-passed-in-Extcall
visit_call-returns-in_ok-passed-in-Extcall t c =
    let before = c.args.self.now in
    let d = definition_of c.args.symbols.now in
    let is = ap (form_view c.args.at) c.in-Extcall.is ∙ extcall_view c.args.at c.in-Extcall.frame c.in-Extcall.name c.in-Extcall.arguments c.in-Extcall.given c.in-Extcall.result_at in
    let same = row_same c.in-Extcall.arguments-is in
    record {
      view = let frame : (values_d enum 13 (c.in-Extcall.frame, (c.in-Extcall.name, (c.in-Extcall.arguments, (c.in-Extcall.given, (c.in-Extcall.result_at, tt {0}))))) c.args.form.now).0 ≡ c.in-Extcall.frame =
          ap (λ (f : Form). (values_d enum 13 (c.in-Extcall.frame, (c.in-Extcall.name, (c.in-Extcall.arguments, (c.in-Extcall.given, (c.in-Extcall.result_at, tt {0}))))) f).0) c.in-Extcall.is ∙ (λ i. (values_d_at enum 13 (c.in-Extcall.frame, (c.in-Extcall.name, (c.in-Extcall.arguments, (c.in-Extcall.given, (c.in-Extcall.result_at, tt {0}))))) (c.in-Extcall.frame, (c.in-Extcall.name, (c.in-Extcall.arguments, (c.in-Extcall.given, (c.in-Extcall.result_at, tt {0}))))) i).0) in
          let name : (values_d enum 13 (c.in-Extcall.frame, (c.in-Extcall.name, (c.in-Extcall.arguments, (c.in-Extcall.given, (c.in-Extcall.result_at, tt {0}))))) c.args.form.now).1.0 ≡ c.in-Extcall.name =
          ap (λ (f : Form). (values_d enum 13 (c.in-Extcall.frame, (c.in-Extcall.name, (c.in-Extcall.arguments, (c.in-Extcall.given, (c.in-Extcall.result_at, tt {0}))))) f).1.0) c.in-Extcall.is ∙ (λ i. (values_d_at enum 13 (c.in-Extcall.frame, (c.in-Extcall.name, (c.in-Extcall.arguments, (c.in-Extcall.given, (c.in-Extcall.result_at, tt {0}))))) (c.in-Extcall.frame, (c.in-Extcall.name, (c.in-Extcall.arguments, (c.in-Extcall.given, (c.in-Extcall.result_at, tt {0}))))) i).1.0) in
          extcall_kept c.args.at _ c.in-Extcall.frame _ c.in-Extcall.name _ c.in-Extcall.given _ c.in-Extcall.result_at c.in-Extcall.arguments _ c.row-in-Extcall.new.exprs frame name c.in-Extcall.given-is c.in-Extcall.result_at-is c.in-Extcall.arguments-is c.in_ok-passed-in-Extcall.ensures.view ∙ sym (ap (form_view c.args.at) c.in-Extcall.is);
      typed = extcall_typed before.names c.in-Extcall.frame c.in-Extcall.name c.row-in-Extcall.new.exprs c.in-Extcall.given 0 (annotated_in c.row-in-Extcall.new.exprs.items c.note_result-in-Extcall.ensures.names c.in_ok-passed-in-Extcall.ensures.typed);
      names = search rules;
      labels = search rules;
      found = told d before.names before.labels before.found c.row-in-Extcall.new.self.found is
          (extcall_found d before.names before.labels before.found c.args.at c.in-Extcall.frame c.in-Extcall.name (expressions_of c.in-Extcall.arguments.items) c.in-Extcall.given c.in-Extcall.result_at c.note_result-in-Extcall.ensures.names c.note_result-in-Extcall.ensures.labels same c.in-Extcall.given-is c.in-Extcall.result_at-is c.note_result-in-Extcall.ensures.found c.in_ok-passed-in-Extcall.ensures.found);
      plain = search rules;
      float = float_by _ is (or_of (row_holds_float (expressions_of c.in-Extcall.arguments.items)) (is_float_result c.in-Extcall.given) c.either-in-Extcall.ensures (c.in_ok-passed-in-Extcall.ensures.float ∙ ap row_holds_float same) (c.is_float_ret-in-Extcall.ensures ∙ ap is_float_result c.in-Extcall.given-is));
    }

pub visit_branch-returns-in_ok-seen-in-Switch : goal.visit_branch-returns-in_ok-seen-in-Switch
visit_branch-returns-in_ok-seen-in-Switch t c =
    let before = c.args.self.now in
    let d = definition_of c.args.symbols.now in
    let is = ap (form_view c.args.at) c.in-Switch.is ∙ switch_view c.args.at c.in-Switch.size_at c.in-Switch.size c.in-Switch.selector c.in-Switch.cases in
    let same = cases_same c.in-Switch.cases-is in
    let lent = lent_same c.deref_mut-in-Switch.ensures.value c.in-Switch.selector-is in
    record {
      view = let size_at : (values_d enum 18 (c.in-Switch.size_at, (c.in-Switch.size, (c.in-Switch.selector, (c.in-Switch.cases, tt {0})))) c.args.form.now).0 ≡ c.in-Switch.size_at =
          ap (λ (f : Form). (values_d enum 18 (c.in-Switch.size_at, (c.in-Switch.size, (c.in-Switch.selector, (c.in-Switch.cases, tt {0})))) f).0) c.in-Switch.is ∙ (λ i. (values_d_at enum 18 (c.in-Switch.size_at, (c.in-Switch.size, (c.in-Switch.selector, (c.in-Switch.cases, tt {0})))) (c.in-Switch.size_at, (c.in-Switch.size, (c.in-Switch.selector, (c.in-Switch.cases, tt {0})))) i).0) in
          let size : (values_d enum 18 (c.in-Switch.size_at, (c.in-Switch.size, (c.in-Switch.selector, (c.in-Switch.cases, tt {0})))) c.args.form.now).1.0 ≡ c.in-Switch.size =
          ap (λ (f : Form). (values_d enum 18 (c.in-Switch.size_at, (c.in-Switch.size, (c.in-Switch.selector, (c.in-Switch.cases, tt {0})))) f).1.0) c.in-Switch.is ∙ (λ i. (values_d_at enum 18 (c.in-Switch.size_at, (c.in-Switch.size, (c.in-Switch.selector, (c.in-Switch.cases, tt {0})))) (c.in-Switch.size_at, (c.in-Switch.size, (c.in-Switch.selector, (c.in-Switch.cases, tt {0})))) i).1.0) in
          switch_kept c.args.at _ c.in-Switch.size_at _ c.in-Switch.size c.in-Switch.selector c.operand-in-Switch.new.expr c.in-Switch.cases _ c.case_row.new.cases size_at size (c.in_ok-chosen-in-Switch.ensures.view ∙ lent) c.in-Switch.cases-is c.in_ok-seen-in-Switch.ensures.view ∙ sym (ap (form_view c.args.at) c.in-Switch.is);
      typed = switch_typed before.names 0 0 (record c.in-Switch.selector { value = c.operand-in-Switch.new.expr }) c.case_row.new.cases
          c.in_ok-chosen-in-Switch.ensures.typed
          (cases_in_scope c.case_row.new.cases.items c.in_ok-chosen-in-Switch.ensures.names c.in_ok-seen-in-Switch.ensures.typed);
      names = search rules;
      labels = search rules;
      found = told d before.names before.labels before.found c.case_row.new.self.found is
          (switch_found d before.names before.labels before.found c.args.at c.in-Switch.size_at c.in-Switch.size (expr_view c.in-Switch.selector.value) (cases_of c.in-Switch.cases.items) c.in_ok-chosen-in-Switch.ensures.names c.in_ok-chosen-in-Switch.ensures.labels lent same c.in_ok-chosen-in-Switch.ensures.found c.in_ok-seen-in-Switch.ensures.found);
      plain = plain_by before.names _ is (cases_plain_of before.names (cases_of c.in-Switch.cases.items) c.in_ok-chosen-in-Switch.ensures.names same c.in_ok-seen-in-Switch.ensures.plain);
      float = float_by _ is (or_of (holds_float (expr_view c.in-Switch.selector.value)) (cases_hold_float (cases_of c.in-Switch.cases.items)) c.either-in-Switch.ensures (c.in_ok-chosen-in-Switch.ensures.float ∙ ap holds_float lent) (c.in_ok-seen-in-Switch.ensures.float ∙ ap cases_hold_float same));
    }

pub visit_scope-returns-in_ok-seen-in-Let : goal.visit_scope-returns-in_ok-seen-in-Let
visit_scope-returns-in_ok-seen-in-Let t c =
    let before = c.args.self.now in
    let d = definition_of c.args.symbols.now in
    let is = ap (form_view c.args.at) c.in-Let.is ∙ let_view c.args.at c.in-Let.bindings c.in-Let.body in
    let same = bindings_same c.in-Let.bindings-is in
    let lent = lent_same c.deref_mut.ensures.value c.in-Let.body-is in
    record {
      view = rw c.in-Let.is (let_kept c.args.at c.in-Let.body c.visit.new.expr c.in-Let.bindings _ c.binding_row.new.bindings (c.in_ok-seen-in-Let.ensures.view ∙ lent) c.in-Let.bindings-is c.in_ok-bound-in-Let.ensures.view);
      typed = let_annotated before.names c.binding_row.new.self.names c.in-Let.body c.visit.new.expr c.binding_row.new.bindings c.in_ok-bound-in-Let.ensures.typed (c.in_ok-bound-in-Let.ensures.view ∙ same) (c.in_ok-bound-in-Let.ensures.names ∙ ap (with_bindings before.names) same) c.in_ok-seen-in-Let.ensures.typed;
      names = left_bindings before.names c.visit.new.self.names c.leave.new.self (bindings_of c.in-Let.bindings.items) c.len-outer.result c.len-outer.ensures (c.in_ok-seen-in-Let.ensures.names ∙ (c.in_ok-bound-in-Let.ensures.names ∙ ap (with_bindings before.names) same)) c.leave.ensures;
      labels = search rules;
      found = told d before.names before.labels before.found c.visit.new.self.found is
          (let_found d before.names before.labels before.found c.args.at (bindings_of c.in-Let.bindings.items) (expr_view c.in-Let.body.value) c.in_ok-bound-in-Let.ensures.labels lent same (c.in_ok-bound-in-Let.ensures.names ∙ ap (with_bindings before.names) same) c.in_ok-bound-in-Let.ensures.found c.in_ok-seen-in-Let.ensures.found);
      plain = plain_by before.names _ is (plain_of (with_bindings before.names (bindings_of c.in-Let.bindings.items)) (expr_view c.in-Let.body.value) (c.in_ok-bound-in-Let.ensures.names ∙ ap (with_bindings before.names) same) lent c.in_ok-seen-in-Let.ensures.plain);
      float = float_by _ is (or_of (bindings_hold_float (bindings_of c.in-Let.bindings.items)) (holds_float (expr_view c.in-Let.body.value)) c.either.ensures (c.in_ok-bound-in-Let.ensures.float ∙ ap bindings_hold_float same) (c.in_ok-seen-in-Let.ensures.float ∙ ap holds_float lent));
    }

pub visit_scope-returns-in_ok-second-in-Catch : goal.visit_scope-returns-in_ok-second-in-Catch
visit_scope-returns-in_ok-second-in-Catch t c =
    let before = c.args.self.now in
    let d = definition_of c.args.symbols.now in
    let is = ap (form_view c.args.at) c.in-Catch.is ∙ catch_view c.args.at c.in-Catch.body c.in-Catch.handlers in
    let same = handlers_same c.in-Catch.handlers-is in
    let left = left_labels (labels_of (handlers_of c.as_slice-in-Catch.result.now)) c.note_repeated.new.self.labels c.visit-in-Catch.new.self.labels c.leave-in-Catch.new.self c.len-outer-in-Catch.result c.len-outer-in-Catch.ensures (c.in_ok-first-in-Catch.ensures.labels ∙ c.in_ok-add_all-in-Catch.ensures.ok) c.leave-in-Catch.ensures in
    let lent = lent_same c.deref_mut-in-Catch.ensures.value c.in-Catch.body-is in
    let back = left_labels (lasting_labels_of (handlers_of c.as_slice-in-Catch-2.result.now)) c.note_repeated.new.self.labels c.handler_row.new.self.labels c.leave-in-Catch-2.new.self c.len-outer-in-Catch.result c.len-outer-in-Catch.ensures (c.in_ok-second-in-Catch.ensures.labels ∙ c.in_ok-add_lasting-in-Catch.ensures.ok ∙ ap (λ l. lasting_labels_of (handlers_of c.as_slice-in-Catch-2.result.now) ++ l) left) c.leave-in-Catch-2.ensures in
    record {
      view = rw c.in-Catch.is (catch_kept c.args.at c.in-Catch.body c.visit-in-Catch.new.expr c.in-Catch.handlers _ c.handler_row.new.handlers (c.in_ok-first-in-Catch.ensures.view ∙ lent) c.in-Catch.handlers-is c.in_ok-second-in-Catch.ensures.view);
      typed = catch_typed before.names (record c.in-Catch.body { value = c.visit-in-Catch.new.expr }) c.handler_row.new.handlers
          (one_in c.visit-in-Catch.new.expr c.note_repeated.ensures.names c.in_ok-first-in-Catch.ensures.typed)
          (handlers_in_scope c.handler_row.new.handlers.items (c.in_ok-first-in-Catch.ensures.names ∙ c.note_repeated.ensures.names) c.in_ok-second-in-Catch.ensures.typed);
      names = search rules;
      labels = back ∙ c.note_repeated.ensures.labels;
      found = told d before.names before.labels before.found c.handler_row.new.self.found is
          (catch_found d before.names before.labels before.found c.args.at (expr_view c.in-Catch.body.value) (handlers_of c.in-Catch.handlers.items) c.note_repeated.ensures.names c.in_ok-first-in-Catch.ensures.names c.note_repeated.ensures.labels lent (ap handlers_of c.as_slice.ensures.value ∙ same) (ap handlers_of c.as_slice-in-Catch.ensures.value ∙ same) (ap handlers_of c.as_slice-in-Catch-2.ensures.value ∙ same) same c.in_ok-add_all-in-Catch.ensures.ok left c.in_ok-add_lasting-in-Catch.ensures.ok c.note_repeated.ensures.found c.in_ok-first-in-Catch.ensures.found c.in_ok-second-in-Catch.ensures.found);
      plain = plain_by before.names _ is (join_of (type_without_float before.names (expr_view c.in-Catch.body.value)) (type_of_handlers before.names (handlers_of c.in-Catch.handlers.items)) c.join.ensures (plain_of before.names (expr_view c.in-Catch.body.value) c.note_repeated.ensures.names lent c.in_ok-first-in-Catch.ensures.plain) (handlers_plain_of before.names (handlers_of c.in-Catch.handlers.items) (c.in_ok-first-in-Catch.ensures.names ∙ c.note_repeated.ensures.names) same c.in_ok-second-in-Catch.ensures.plain));
      float = float_by _ is (or_of (holds_float (expr_view c.in-Catch.body.value)) (handlers_hold_float (handlers_of c.in-Catch.handlers.items)) c.either-in-Catch.ensures (c.in_ok-first-in-Catch.ensures.float ∙ ap holds_float lent) (c.in_ok-second-in-Catch.ensures.float ∙ ap handlers_hold_float same));
    }

pub visit_handler-returns-clause-names : goal.visit_handler-returns-clause-names
visit_handler-returns-clause-names t c =
    left_parameters c.args.self.now.names c.visit.new.self.names c.leave.new.self (params_view c.args.handler.now.params.items) c.len-outer.result (c.len-outer.ensures ∙ ap length c.note_params.ensures.names)
    (c.in_ok-seen.ensures.names ∙ c.in_ok-bind_params.ensures.names ∙ ap (with_parameters (params_view c.as_slice-params.result.now)) c.note_params.ensures.names ∙ ap (λ l. with_parameters (params_view l) c.args.self.now.names) c.as_slice-params.ensures.value)
    c.leave.ensures
