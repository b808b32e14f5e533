use Rattle.std.proofs.Common.{None, refl}
use Rattle.moved_texts.proofs.Lexing.{splits_move}
use Rattle.moved_texts.proofs.tokens_are_moved.Goals as goal

pub returns : goal.returns
returns c = λ d at text tokens cut. splits_move d at text tokens None cut refl
