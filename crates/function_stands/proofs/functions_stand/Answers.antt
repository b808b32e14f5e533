use Rattle.function_stands.proofs.Whole.{function_stands}
use Rattle.function_stands.proofs.functions_stand.Goals as goal

pub returns : goal.returns
returns c = λ image file ps of k p tree m ds named is_image there row chained lives has.
    function_stands image file ps of k tree m ds p named is_image there chained lives has
