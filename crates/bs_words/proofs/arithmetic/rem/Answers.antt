use Rattle.std.proofs.Common.{rules}
use Rattle.bs_words.proofs.Word.{nonzero, rem-returns}
use Rattle.bs_words.proofs.arithmetic.rem.Goals as goal

pub wrapping_rem-requires : goal.wrapping_rem-requires
wrapping_rem-requires c = nonzero _ c.signed-2.result c.ranges.b.fits c.requires (search rules) c.signed-2.ensures

pub returns : goal.returns
returns c = rem-returns _ _ c.signed.result c.signed-2.result c.wrapping_rem.result _ (search rules) (search rules) (search rules) c.signed.ensures c.signed-2.ensures c.wrapping_rem.ensures c.cast_unsigned.ensures
