use Rattle.linscan.proofs.Listing.{are_intervals}
use Rattle.linscan.proofs.interval_table.intervals.Goals as goal

pub returns : goal.returns
returns c =
    are_intervals c.args.mach.now c.in_ok-ranges.ranges c.first_free-size.result c.in_ok-list.list.items
    (record { list = c.from_vec.result }) c.in_ok-ranges.ensures.len c.in_ok-ranges.ensures.ranges c.in_ok-list.ensures c.from_vec.ensures
