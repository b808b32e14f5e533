use Rattle.laid_parts.proofs.Whole.{laid_out}
use Rattle.laid_parts.proofs.pieces_are_laid_out.Goals as goal

pub returns : goal.returns
returns c = λ m w seated within ds pieces count emitted. laid_out m w seated within ds pieces emitted count
