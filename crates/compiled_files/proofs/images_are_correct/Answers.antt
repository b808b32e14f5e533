use Rattle.compiled_files.proofs.Correct.{correct}
use Rattle.compiled_files.proofs.images_are_correct.Goals as goal

pub returns : goal.returns
returns c = λ text file is bytes image ps can laid tables chained. correct text file is bytes image ps can laid tables chained
