use Rattle.layout_laws.proofs.Runs.{runs_alike}
use Rattle.layout_laws.proofs.layouts_run_alike.Goals as goal

pub returns : goal.returns
returns c = λ file one two entry args answers n. runs_alike one two file entry args answers n
