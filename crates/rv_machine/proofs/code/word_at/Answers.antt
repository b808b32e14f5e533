use Rattle.std.proofs.Common.{arith}
use Rattle.bs_words.specs.Contents.{contents}
use Rattle.rv_machine.proofs.Halves.{word_of_halves}
use Rattle.rv_machine.proofs.code.word_at.Goals as goal

pub returns : goal.returns
returns c = omega (arith, word_of_halves (contents c.args.code.now) c.args.index, c.half_at.ensures.exact, c.half_at-2.ensures.exact)
