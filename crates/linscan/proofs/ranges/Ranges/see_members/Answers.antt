use Rattle.std.proofs.Common.{arith}
use Rattle.linscan.proofs.Widening.{members_begun, members_more, members_end, members_all, member_below}
use Rattle.linscan.proofs.ranges.Ranges.see_members.Goals as goal

pub loop-from-init : goal.loop-from-init
loop-from-init c = record { end = omega arith; seen = members_begun c.args.self.now c.args.set.now c.args.place }

pub loop-from-preserved-in-None : goal.loop-from-preserved-in-None
loop-from-preserved-in-None c =
    record {
      end = omega arith;
      seen = members_end c.args.set.now c.loop-from.from c.size-size.result c.args.place c.args.self.now c.loop-from.self
          c.loop-from.invariant.end c.in-None.ensures c.loop-from.invariant.seen;
    }

pub loop-from-preserved : goal.loop-from-preserved
loop-from-preserved c =
    let within = member_below c.args.set.now c.in-Some.member c.in-Some.ensures.member in
    let size = c.size-size.ensures in
    record {
      end = omega (arith, within, size);
      seen = members_more c.args.set.now c.loop-from.from c.in-Some.member c.args.place c.args.self.now c.loop-from.self c.see.new.self
          c.in-Some.ensures c.loop-from.invariant.seen c.see.ensures;
    }

pub returns : goal.returns
returns c =
    let size = c.size-size.ensures in
    let end = c.loop-from-test.false in
    members_all c.args.set.now c.loop-from.from c.args.place c.args.self.now c.loop-from.self (omega (arith, size, end))
    c.loop-from.invariant.seen
