use Rattle.cmmc_core.proofs.Known.{few_functions}
use Rattle.rows_top.proofs.evaluated.told.Goals as goal

pub call_of-requires-clause-few : goal.call_of-requires-clause-few
call_of-requires-clause-few c = rw (c.file-file.ensures.same, c.typed.ensures) (few_functions _ _ c.in_ok-checked.ensures.file)

pub report_of_run-requires-clause-few : goal.report_of_run-requires-clause-few
report_of_run-requires-clause-few c = rw (c.file-file.ensures.same, c.typed.ensures) (few_functions _ _ c.in_ok-checked.ensures.file)
