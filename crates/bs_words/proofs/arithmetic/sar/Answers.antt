use Rattle.std.proofs.Common.{rules}
use Rattle.bs_words.proofs.Word.{sar-returns}
use Rattle.bs_words.proofs.arithmetic.sar.Goals as goal

pub returns : goal.returns
returns c = sar-returns _ _ c.signed.result _ (search rules) c.signed.ensures c.cast_unsigned.ensures
