use Rattle.std.proofs.Common.{◌<◌, length, refl, rules}
use Rattle.cmm_walks.proofs.Spreads.{cleared_step}
use Rattle.cmm_walks.proofs.labels.NodeLabels.clear.Goals as goal

pub loop-i-preserved : goal.loop-i-preserved
loop-i-preserved c =
    let below : c.loop-i.i < length c.args.self.now.queue.items = search rules in
    cleared_step c.args.self.now c.loop-i.self _ c.loop-i.i c.index-place.result.now below c.index-place.ensures c.requires refl refl c.loop-i.invariant
