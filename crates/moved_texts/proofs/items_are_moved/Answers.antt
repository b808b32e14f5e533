use Rattle.moved_texts.proofs.Grammar.{items_move}
use Rattle.moved_texts.proofs.items_are_moved.Goals as goal

pub returns : goal.returns
returns c = items_move
