use Rattle.std.proofs.Common.{arith}
use Rattle.std.proofs.lemmas.Grind.{common_steps}
use Rattle.mach_ir.proofs.Sums.{bytes_push}
use Rattle.comballoc.proofs.combining.push_all.Goals as goal

pub loop-block-preserved : goal.loop-block-preserved
loop-block-preserved c = grind (arith, common_steps, bytes_push)
