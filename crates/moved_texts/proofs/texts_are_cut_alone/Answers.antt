use Rattle.std.proofs.Common.{None, refl}
use Rattle.moved_texts.proofs.Lexing.{splits_line}
use Rattle.moved_texts.proofs.texts_are_cut_alone.Goals as goal

pub returns : goal.returns
returns c = λ at text more own others fault cut bytes behind. splits_line at text more own others None fault cut refl bytes behind
