use Rattle.std.proofs.lemmas.Result.{err_from_is_err_and}
use Rattle.command_line.specs.View.{run_view}
use Rattle.image_form.specs.Tables.{tables}
use Rattle.commands.proofs.Ending.{Keeps-same, GotPart-part}
use Rattle.commands.proofs.Refused.{not_loaded}
use Rattle.commands.proofs.Running.{text-of}
use Rattle.commands.proofs.run.run_on.Goals as goal

pub returns-in_err-machine-clause-refused : goal.returns-in_err-machine-clause-refused
returns-in_err-machine-clause-refused g c =
    let p = err_from_is_err_and c.from_residual.result c.from_residual.ensures.1 in
    rw (p.1, p.2) (not_loaded (run_view c.args.run) (tables c.args.image.now) _ (Keeps-same _) _ c.in_err-machine.ensures.refused)

pub returns-in_err-run_image-clause-refused : goal.returns-in_err-run_image-clause-refused
returns-in_err-run_image-clause-refused g c =
    let p = err_from_is_err_and c.from_residual-in_err-run_image.result c.from_residual-in_err-run_image.ensures.1 in
    rw (p.1, p.2)
    (record {
      text = _;
      is_text = text-of (tables c.args.image.now) _ (run_view c.args.run) c.schedule_for-schedule.result _ c.requires.rules c.in_ok-machine.ensures.loaded c.schedule_for-schedule.ensures;
      got = GotPart-part _ _ (rw c.as_slice.ensures.value at c.in_err-run_image.ensures.text) c.in_err-run_image.ensures.counts.0;
    })

pub returns-clause-written : goal.returns-clause-written
returns-clause-written g c = record {
  text = _;
  is_text = text-of (tables c.args.image.now) _ (run_view c.args.run) c.schedule_for-schedule.result _ c.requires.rules c.in_ok-machine.ensures.loaded c.schedule_for-schedule.ensures;
  got = rw c.as_slice.ensures.value at c.in_ok-run_image.ensures.text;
}
