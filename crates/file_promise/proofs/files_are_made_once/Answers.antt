use Rattle.file_promise.proofs.Once.{made_for_once}
use Rattle.file_promise.proofs.files_are_made_once.Goals as goal

pub returns : goal.returns
returns c = λ choices file t u a b. made_for_once file t u a b
