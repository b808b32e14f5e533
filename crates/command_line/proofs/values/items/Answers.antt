use Rattle.std.proofs.Common.{List, Err, IsErrOf, sym, subst, ◌∙◌, rules}
use Rattle.rv_machine.specs.declared.setup.Arg.{Arg}
use Rattle.command_line.specs.declared.command.WordsError.TheVariants.{ValueText}
use Rattle.command_line.specs.Values.{IsItems}
use Rattle.command_line.proofs.Cuts.{GoesOn, step, end, full, fails, fails_last}
use Rattle.command_line.proofs.values.items.Goals as goal

pub returns-in_err-item-clause-bad : goal.returns-in_err-item-clause-bad
returns-in_err-item-clause-bad c = λ e.
    let same : IsErrOf {T = Arg} (Err c.in_err-item.field-0.0) ValueText = search rules in
    fails c.args.text.now c.loop-first.items.items c.loop-first.rest.now c.in-Some.first.now c.in-Some.others.now (full c.args.text.now (search rules))
    c.loop-first.invariant c.in-Some.ensures.0 c.in-Some.ensures.1 (c.in_err-item.ensures.bad same)

pub loop-first-preserved : goal.loop-first-preserved
loop-first-preserved c =
    let P : List Arg → Type 0 = λ done. GoesOn c.args.text.now done c.in-Some.others.now in
    subst P (sym {A = List Arg} c.in_ok-push.ensures.items)
    (step c.args.text.now c.loop-first.items.items c.loop-first.rest.now c.in-Some.first.now c.in-Some.others.now c.in_ok-item.field-0
    c.loop-first.invariant c.in-Some.ensures.0 c.in_ok-item.ensures.value)

pub returns-in_err-item-2-clause-bad : goal.returns-in_err-item-2-clause-bad
returns-in_err-item-2-clause-bad c = λ e.
    let same : IsErrOf {T = Arg} (Err c.in_err-item-2.field-0.0) ValueText = search rules in
    fails_last c.args.text.now c.loop-first.items.items c.loop-first.rest.now (full c.args.text.now (search rules)) c.loop-first.invariant
    c.in_default.ensures (c.in_err-item-2.ensures.bad same)

pub returns-clause-value : goal.returns-clause-value
returns-clause-value c =
    subst (IsItems c.args.text.now) (sym (c.from_vec-2.ensures ∙ c.in_ok-push-2.ensures.items))
    (end c.args.text.now c.loop-first.items.items c.loop-first.rest.now c.in_ok-item-2.field-0 c.loop-first.invariant c.in_ok-item-2.ensures.value)
