use Rattle.unit_rules.proofs.Moved.{code_named}
use Rattle.unit_rules.proofs.images_have_code_by_names.Goals as goal

pub returns : goal.returns
returns c = code_named
