use Rattle.code_bounds.proofs.Few.{few}
use Rattle.code_bounds.proofs.Image.{image_bounded}
use Rattle.code_bounds.proofs.Roomy.{roomy_fits}
use Rattle.code_bounds.proofs.images_are_bounded.Goals as goal

pub returns-clause-bounded : goal.returns-clause-bounded
returns-clause-bounded c = image_bounded

pub returns-clause-few : goal.returns-clause-few
returns-clause-few c = few

pub returns-clause-roomy : goal.returns-clause-roomy
returns-clause-roomy c = roomy_fits
