use Rattle.std.proofs.Common.{sym, ap, ◌∙◌}
use Rattle.cmm_tree.specs.View.{form_view}
use Rattle.cmm_tree.specs.declared.expr.Form.{Form}
use Rattle.bs_fault.specs.Reported.{noted_all}
use Rattle.cmm_limits.specs.Limits.{faults_in}
use Rattle.cmm_limits.proofs.Rows.{float-faults, alloc-faults, seq-faults, exit-faults, extcall-faults, app-faults, let-faults, switch-faults, catch-faults}
use Rattle.cmm_limits.proofs.limits.+limits.Goals as goal

pub in_expr-returns-in-Float : goal.in_expr-returns-in-Float
in_expr-returns-in-Float t c =
    let at = c.args.expr.now.at in
    let found = c.args.found in
    rw (c.in_row.ensures, c.as_slice.ensures.value)
    (sym (ap (λ (f : Form). noted_all (faults_in (form_view at f)) found) c.in-Float.is ∙ ap (λ v. noted_all v found) (float-faults at c.in-Float.word_at c.in-Float.operands)))

pub in_expr-returns-in-Let : goal.in_expr-returns-in-Let
in_expr-returns-in-Let t c =
    let at = c.args.expr.now.at in
    let found = c.args.found in
    rw (c.in_expr.ensures, c.in_bindings.ensures, c.as_slice-in-Let.ensures.value, c.deref.ensures)
    (sym (ap (λ (f : Form). noted_all (faults_in (form_view at f)) found) c.in-Let.is ∙ ap (λ v. noted_all v found) (let-faults at c.in-Let.bindings c.in-Let.body)))

pub in_expr-returns-in-Alloc : goal.in_expr-returns-in-Alloc
in_expr-returns-in-Alloc t c =
    let at = c.args.expr.now.at in
    let found = c.args.found in
    rw (c.in_row-in-Alloc.ensures, c.as_slice-in-Alloc.ensures.value)
    (sym (ap (λ (f : Form). noted_all (faults_in (form_view at f)) found) c.in-Alloc.is ∙ ap (λ v. noted_all v found) (alloc-faults at c.in-Alloc.header_at c.in-Alloc.header c.in-Alloc.operands)))

pub in_expr-returns-in-App : goal.in_expr-returns-in-App
in_expr-returns-in-App t c =
    let at = c.args.expr.now.at in
    let found = c.args.found in
    rw (c.in_row-in-App.ensures, c.as_slice-in-App-2.ensures.value, c.in_expr-reported.ensures, c.in_arguments.ensures, c.as_slice-in-App.ensures.value, c.deref-in-App.ensures)
    (sym (ap (λ (f : Form). noted_all (faults_in (form_view at f)) found) c.in-App.is ∙ ap (λ v. noted_all v found) (app-faults at c.in-App.callee c.in-App.arguments c.in-App.result c.in-App.result_at)))

pub in_expr-returns-in-Extcall : goal.in_expr-returns-in-Extcall
in_expr-returns-in-Extcall t c =
    let at = c.args.expr.now.at in
    let found = c.args.found in
    rw (c.in_row-in-Extcall.ensures, c.as_slice-in-Extcall-2.ensures.value, c.in_arguments-reported.ensures, c.as_slice-in-Extcall.ensures.value)
    (sym (ap (λ (f : Form). noted_all (faults_in (form_view at f)) found) c.in-Extcall.is ∙ ap (λ v. noted_all v found) (extcall-faults at c.in-Extcall.frame c.in-Extcall.name c.in-Extcall.arguments c.in-Extcall.result c.in-Extcall.result_at)))

pub in_expr-returns-in-Seq : goal.in_expr-returns-in-Seq
in_expr-returns-in-Seq t c =
    let at = c.args.expr.now.at in
    let found = c.args.found in
    rw (c.in_row-in-Seq.ensures, c.as_slice-in-Seq.ensures.value)
    (sym (ap (λ (f : Form). noted_all (faults_in (form_view at f)) found) c.in-Seq.is ∙ ap (λ v. noted_all v found) (seq-faults at c.in-Seq.elements)))

pub in_expr-returns-in-Switch : goal.in_expr-returns-in-Switch
in_expr-returns-in-Switch t c =
    let at = c.args.expr.now.at in
    let found = c.args.found in
    rw (c.in_cases.ensures, c.as_slice-in-Switch.ensures.value, c.in_expr-reported-in-Switch.ensures, c.in_size.ensures, c.deref-in-Switch.ensures)
    (sym (ap (λ (f : Form). noted_all (faults_in (form_view at f)) found) c.in-Switch.is ∙ ap (λ v. noted_all v found) (switch-faults at c.in-Switch.size_at c.in-Switch.size c.in-Switch.selector c.in-Switch.cases)))

pub in_expr-returns-in-Catch : goal.in_expr-returns-in-Catch
in_expr-returns-in-Catch t c =
    let at = c.args.expr.now.at in
    let found = c.args.found in
    rw (c.in_handlers.ensures, c.as_slice-in-Catch.ensures.value, c.in_expr-in-Catch.ensures, c.deref-in-Catch.ensures)
    (sym (ap (λ (f : Form). noted_all (faults_in (form_view at f)) found) c.in-Catch.is ∙ ap (λ v. noted_all v found) (catch-faults at c.in-Catch.body c.in-Catch.handlers)))

pub in_expr-returns-in-Exit : goal.in_expr-returns-in-Exit
in_expr-returns-in-Exit t c =
    let at = c.args.expr.now.at in
    let found = c.args.found in
    rw (c.in_row-in-Exit.ensures, c.as_slice-in-Exit.ensures.value)
    (sym (ap (λ (f : Form). noted_all (faults_in (form_view at f)) found) c.in-Exit.is ∙ ap (λ v. noted_all v found) (exit-faults at c.in-Exit.label_at c.in-Exit.label c.in-Exit.arguments)))
