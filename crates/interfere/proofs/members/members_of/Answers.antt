use Rattle.std.proofs.Common.{arith}
use Rattle.interfere.proofs.Listing.{below_more, below_end, member_below}
use Rattle.interfere.proofs.members.members_of.Goals as goal

pub loop-from-preserved-in-None : goal.loop-from-preserved-in-None
loop-from-preserved-in-None c =
    record {
      end = omega arith;
      below = below_end c.args.set.now c.loop-from.from c.size-size.result c.loop-from.members.items c.loop-from.invariant.end c.in-None.ensures
          c.loop-from.invariant.below;
    }

pub loop-from-preserved : goal.loop-from-preserved
loop-from-preserved c =
    let within = member_below c.args.set.now c.in-Some.member c.in-Some.ensures.member in
    let size = c.size-size.ensures in
    record {
      end = omega (arith, within, size);
      below = below_more c.args.set.now c.loop-from.from c.in-Some.member c.loop-from.members.items c.push.new.self.items c.in_ok-push-in-Some.ensures.items
          c.in-Some.ensures c.loop-from.invariant.below;
    }
