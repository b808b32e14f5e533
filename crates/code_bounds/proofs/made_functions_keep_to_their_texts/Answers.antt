use Rattle.code_bounds.proofs.Keeping.{text_keeps}
use Rattle.code_bounds.proofs.made_functions_keep_to_their_texts.Goals as goal

pub returns : goal.returns
returns c = λ choices text file is tree among m ds pieces made. text_keeps text file is tree among m ds pieces made
