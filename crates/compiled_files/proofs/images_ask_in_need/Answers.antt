use Rattle.compiled_files.proofs.Correct.{in_need}
use Rattle.compiled_files.proofs.images_ask_in_need.Goals as goal

pub returns : goal.returns
returns c = λ text file is bytes image ps can laid tables chained. in_need text file is bytes image ps can laid tables chained
