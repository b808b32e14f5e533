use Rattle.std.proofs.Common.{rules}
use Rattle.bs_words.proofs.Word.{nonzero, div-returns}
use Rattle.bs_words.proofs.arithmetic.div.Goals as goal

pub wrapping_div-requires : goal.wrapping_div-requires
wrapping_div-requires c = nonzero _ c.signed-2.result c.ranges.b.fits c.requires (search rules) c.signed-2.ensures

pub returns : goal.returns
returns c = div-returns _ _ c.signed.result c.signed-2.result c.wrapping_div.result _ (search rules) (search rules) (search rules) c.signed.ensures c.signed-2.ensures c.wrapping_div.ensures c.cast_unsigned.ensures
