use Rattle.lin_tidy.proofs.Loops.{free_begun, free_more, free_all}
use Rattle.lin_tidy.proofs.turning.first_free.Goals as goal

pub loop-line-init : goal.loop-line-init
loop-line-init c = free_begun c.args.code.now

pub loop-line-preserved : goal.loop-line-preserved
loop-line-preserved c =
    free_more c.args.code.now c.loop-line.line-index c.loop-line.free c.free_above-free.result c.line-item.result c.loop-line-test.true c.line-item.is
    c.free_above-free.ensures c.loop-line.invariant

pub returns : goal.returns
returns c = free_all c.args.code.now c.loop-line.line-index c.loop-line.free c.loop-line-test.false c.loop-line.invariant
