use Rattle.linscan.proofs.Starting.{opens_same, opens_more}
use Rattle.linscan.proofs.order.push_open.Goals as goal

pub returns-in-None : goal.returns-in-None
returns-in-None c = opens_same c.args.ranges.now c.args.node.now c.args.opens.now.items (c.open_node.ensures.none c.in-None.is)

pub returns-in_ok-push-in-Some : goal.returns-in_ok-push-in-Some
returns-in_ok-push-in-Some c =
    opens_more c.args.ranges.now c.args.node.now c.in-Some.one c.args.opens.now.items c.push.new.self.items c.in-Some.ensures.some
    c.in_ok-push-in-Some.ensures.items
