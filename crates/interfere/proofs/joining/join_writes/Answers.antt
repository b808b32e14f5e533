use Rattle.bs_words.specs.Contents.{contents}
use Rattle.interfere.proofs.Pairs.{place_more}
use Rattle.interfere.proofs.joining.join_writes.Goals as goal

pub loop-place-preserved : goal.loop-place-preserved
loop-place-preserved c =
    place_more c.args.moved c.args.live.now.before.rows.items (contents c.args.node.now.writes) (contents c.args.node.now.next)
    c.as_slice-numbers.result.now c.as_slice-place-items.result.now c.loop-place.place-index c.at-set.result.now c.args.joined.now
    c.loop-place.joined c.join_set.new.joined c.as_slice-numbers.ensures c.as_slice-place-items.ensures c.loop-place-test.true c.at-set.ensures
    c.loop-place.invariant c.in_ok-join_set.ensures
