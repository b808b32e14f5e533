use Rattle.moved_texts.proofs.Alike.{moved_differs}
use Rattle.moved_texts.proofs.moved_functions_differ_in_places.Goals as goal

pub returns : goal.returns
returns c = moved_differs
