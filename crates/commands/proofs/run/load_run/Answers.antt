use Rattle.std.proofs.Common.{Err, refl, sym, ap}
use Rattle.std.proofs.lemmas.Result.{err_from_is_err_and}
use Rattle.command_line.specs.declared.command.RunWords.{RunWords}
use Rattle.rv_machine.specs.declared.setup.Setup.{Setup}
use Rattle.command_line.specs.View.{run_view}
use Rattle.image_form.specs.Tables.{tables}
use Rattle.commands.proofs.Running.{load-refused, unfit-answers, loaded}
use Rattle.commands.proofs.run.load_run.Goals as goal

-- what `load` is given
abbrev setup_of : RunWords → Setup
setup_of run = record { entry = run.entry; args = run.args; stack = run.stack; heap = run.heap }

pub returns-in_err-machine-clause-refused : goal.returns-in_err-machine-clause-refused
returns-in_err-machine-clause-refused c =
    let p = err_from_is_err_and c.from_residual.result c.from_residual.ensures.1 in
    rw (p.1, p.2)
    (load-refused (tables c.args.image.now) (setup_of c.args.run) (run_view c.args.run) _ refl refl
    (λ is. c.in_err-machine.ensures.unknown.0 (ap Err is)) (λ is. c.in_err-machine.ensures.unfit.0 (ap Err is)))

pub returns-in-Some-clause-loaded : goal.returns-in-Some-clause-loaded
returns-in-Some-clause-loaded c =
    loaded (tables c.args.image.now) (setup_of c.args.run) _ (run_view c.args.run) _ refl refl refl refl c.in_ok-machine.ensures.loaded
    (sym (rw c.in-Some.is at c.in_ok-words.ensures))

pub returns-clause-refused : goal.returns-clause-refused
returns-clause-refused c =
    unfit-answers (tables c.args.image.now) (setup_of c.args.run) _ (run_view c.args.run) refl c.in_ok-machine.ensures.loaded
    (sym (rw c.in-None.is at c.in_ok-words.ensures))
