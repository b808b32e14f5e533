use Rattle.dataflow.proofs.Pushes.{pushed_none, pushed_more}
use Rattle.dataflow.proofs.spread.push_rows.Goals as goal

pub loop-q-init : goal.loop-q-init
loop-q-init c = pushed_none _ _ c.args.places.now c.requires.sizes

pub loop-q-preserved : goal.loop-q-preserved
loop-q-preserved c =
    pushed_more _ _ _ c.args.places.now c.loop-q.q-index _ _ c.loop-q.grew _ _ c.loop-q-test.true c.requires.within c.loop-q.invariant c.index_mut-row.ensures.value c.union_with-grew_here.ensures.all c.union_with-grew_here.ensures.grew c.either-grew.ensures
