use Rattle.linscan.proofs.Listing.{rows_same, rows_more}
use Rattle.linscan.proofs.interval_table.push_interval.Goals as goal

pub returns-in-None : goal.returns-in-None
returns-in-None c = rows_same c.args.ranges.now c.args.register c.at.result c.args.list.now.items c.at.ensures c.in-None.is c.requires

pub returns-in_ok-push-in-Some : goal.returns-in_ok-push-in-Some
returns-in_ok-push-in-Some c =
    rows_more c.args.ranges.now c.args.register c.at.result c.in-Some.range c.args.list.now.items c.push.new.self.items c.at.ensures
    c.in-Some.is c.in_ok-push-in-Some.ensures.items c.requires
