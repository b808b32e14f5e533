use Rattle.std.proofs.Common.{arith}
use Rattle.bs_words.proofs.Word.{sext-whole, sext-then, sext-else}
use Rattle.bs_words.proofs.arithmetic.sext.Goals as goal

pub returns-then-bits-eq64 : goal.returns-then-bits-eq64
returns-then-bits-eq64 c = sext-whole _ _ c.ranges.w.fits c.if-bits-eq64.true

pub returns-then-low-half : goal.returns-then-low-half
returns-then-low-half c = sext-then _ _ c.requires.some (omega arith) c.if-low-half.true

pub returns-else-low-half : goal.returns-else-low-half
returns-else-low-half c = sext-else _ _ c.requires.some (omega arith) c.if-low-half.false
