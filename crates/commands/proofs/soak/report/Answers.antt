use Rattle.std.proofs.Common.{◌∙◌, subst}
use Rattle.bs_words.specs.Contents.{contents}
use Rattle.command_line.specs.declared.command.Moves.TheVariants.{Never, Seed}
use Rattle.image_form.specs.Tables.{tables}
use Rattle.commands.specs.Soak.{IsLastLine, soak_check, soak_run, soak_text}
use Rattle.commands.proofs.Soaking.{trial_fed, run_fed}
use Rattle.commands.proofs.soak.report.Goals as goal

-- ---- what was tried is of this image

pub outcome_under-requires-clause-trial : goal.outcome_under-requires-clause-trial
outcome_under-requires-clause-trial g c = (contents c.in_ok-trial.trial.outcome, c.in_ok-trial.ensures.told)

pub outcome_under-requires-2-clause-trial : goal.outcome_under-requires-2-clause-trial
outcome_under-requires-2-clause-trial g c = (contents c.in_ok-trial.trial.outcome, c.in_ok-trial.ensures.told)

-- ---- outcomes end with a line feed

pub last_line-requires : goal.last_line-requires
last_line-requires g c =
    let fed = trial_fed (soak_check c.args.functions) (soak_text c.args.seed c.args.functions) (tables c.in_ok-trial.trial.image) _ c.in_ok-trial.ensures.told in
    (fed.0, c.as_slice.ensures ∙ fed.1)

pub last_line-requires-2 : goal.last_line-requires-2
last_line-requires-2 g c =
    let fed = run_fed (soak_run c.args.functions Never) (tables c.in_ok-trial.trial.image) _ c.in_ok-still.ensures in
    (fed.0, c.as_slice-2.ensures.value ∙ fed.1)

pub last_line-requires-3 : goal.last_line-requires-3
last_line-requires-3 g c =
    let fed = run_fed (soak_run c.args.functions (Seed c.args.seed)) (tables c.in_ok-trial.trial.image) _ c.in_ok-moved.ensures in
    (fed.0, c.as_slice-3.ensures.value ∙ fed.1)

pub returns-clause-told : goal.returns-clause-told
returns-clause-told g c = record {
  image = tables c.in_ok-trial.trial.image;
  meant = contents c.in_ok-trial.trial.outcome;
  at_rest = c.in_ok-still.still.items;
  in_motion = c.in_ok-moved.moved.items;
  trial = c.in_ok-trial.ensures.told;
  rests = c.in_ok-still.ensures;
  moves = c.in_ok-moved.ensures;
  check = c.last_line.result.now;
  still = c.last_line-2.result.now;
  moved = c.last_line-3.result.now;
  last_meant = subst (λ text. IsLastLine text c.last_line.result.now) c.as_slice.ensures c.last_line.ensures;
  last_at_rest = subst (λ text. IsLastLine text c.last_line-2.result.now) c.as_slice-2.ensures.value c.last_line-2.ensures;
  last_in_motion = subst (λ text. IsLastLine text c.last_line-3.result.now) c.as_slice-3.ensures.value c.last_line-3.ensures;
  told = c.in_ok-lines.ensures;
}
