use Rattle.std.proofs.Common.{sym, ◌∙◌, arith}
use Rattle.eval_frames.proofs.Bounds.{innermost_here, innermost_below}
use Rattle.eval_frames.proofs.here.innermost.Goals as goal

pub returns-then-same : goal.returns-then-same
returns-then-same c =
    sym (innermost_here c.args.names.now c.loop-left.left c.index-names-left.result c.args.name.now c.same.result c.loop-left-test.true
    c.loop-left.invariant.within c.index-names-left.is c.same.ensures c.if-same.true) ∙ c.loop-left.invariant.same

pub loop-left-preserved : goal.loop-left-preserved
loop-left-preserved c = record {
  within = omega arith;
  same =
      sym (innermost_below c.args.names.now c.loop-left.left c.index-names-left.result c.args.name.now c.same.result c.loop-left-test.true
      c.loop-left.invariant.within c.index-names-left.is c.same.ensures c.if-same.false) ∙ c.loop-left.invariant.same;
}
