use Rattle.compiled_files.proofs.Stages.{holds, selected_so}
use Rattle.compiled_files.proofs.selected_functions_keep.Goals as goal

pub returns-clause-holds : goal.returns-clause-holds
returns-clause-holds c = λ text file is bytes. holds text file is bytes

pub returns-clause-selected : goal.returns-clause-selected
returns-clause-selected c = λ text file is layout. selected_so text file is layout
