use Rattle.file_promise.proofs.Promise.{roomy_fits}
use Rattle.file_promise.proofs.roomy_files_fit.Goals as goal

pub returns : goal.returns
returns c = λ choices text file is bytes image made roomy. roomy_fits text file is image made roomy
