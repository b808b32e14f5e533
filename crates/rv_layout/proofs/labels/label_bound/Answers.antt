use Rattle.std.proofs.Common.{arith}
use Rattle.rv_layout.proofs.Steps.{below_step}
use Rattle.rv_layout.proofs.labels.label_bound.Goals as goal

pub loop-piece-preserved : goal.loop-piece-preserved
loop-piece-preserved c = λ bound most rest.
    c.loop-piece.invariant bound (omega (arith, most, c.max-bound.ensures))
    (below_step bound c.loop-piece.piece-index c.args.code.now c.piece-item.result c.loop-piece-test.true c.piece-item.is
    (c.bound_of.ensures bound (omega (arith, most, c.max-bound.ensures))) rest)
