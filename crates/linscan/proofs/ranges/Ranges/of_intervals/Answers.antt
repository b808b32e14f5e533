use Rattle.std.proofs.Common.{◌≤◌, None, length, ap, arith, rules}
use Rattle.bs_words.specs.Contents.{contents}
use Rattle.linscan.proofs.Keyed.{interval_key, interval_value, none_filled, filled_at, intervals_filled}
use Rattle.linscan.proofs.ranges.Ranges.of_intervals.Goals as goal

pub loop-interval-init : goal.loop-interval-init
loop-interval-init c = none_filled interval_key interval_value None (contents c.args.intervals.now.list) c.new-items.result.items (search rules)

pub loop-interval-preserved : goal.loop-interval-preserved
loop-interval-preserved c =
    filled_at interval_key interval_value None (contents c.args.intervals.now.list) c.as_slice-interval-items.result.now
    c.loop-interval.interval-index _ c.loop-interval.items.items c.resize.new.self.items c.push.new.self.items _ c.requires
    c.as_slice-interval-items.ensures c.loop-interval-test.true c.loop-interval.items.ok.0 c.in_ok-resize.ensures.items c.in_ok-push.ensures.items
    c.loop-interval.invariant

pub returns : goal.returns
returns c =
    let same = ap length c.as_slice-interval-items.ensures in
    let le : length (contents c.args.intervals.now.list) ≤ c.loop-interval.interval-index = omega (arith, same) in
    intervals_filled (contents c.args.intervals.now.list) c.loop-interval.interval-index c.loop-interval.items.items le c.loop-interval.invariant
